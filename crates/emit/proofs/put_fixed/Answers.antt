-- The fields before the prefix, from their second byte on, and the prefix where they end.
use mathlib.Core.Path.{◌≡◌, refl, ap, ◌∙◌}
use mathlib.Core.List.{List}
use Prim.Native.Nat.{ℕ, ◌-◌}
use native.Mathlib.Omega.{arith}
use lib.ListN.{length, take, drop, length-drop}
use lib.Seq.{take_all}
use Rattle.lists.proofs.Stores.{spends_part, spends_same, run_first, run_then}
use Rattle.format.specs.Meta1.{prefix_length}
use Rattle.emit.specs.Parts.{first_fields}
use Rattle.emit.proofs.Parts.{length_first}
use Rattle.format.proofs.Stored.{length_padded}
use Rattle.emit.proofs.put_fixed.Goals as goal

pub returns : goal.returns
returns c =
    let a = c.args in
    let xs = a.image.now in
    let vs = drop 1 (first_fields a.big a.h) in
    let long : length vs ≡ 51 = rw length-drop (omega (arith, length_first a.big a.h)) in
    let copied =
    spends_part a.budget xs 1 (length xs - 1) vs (omega (arith, c.requires)) (omega (arith, c.requires))
    (spends_same refl (ap (λ (l : List ℕ). take 51 (drop 1 l)) c.first_fields-fields.ensures ∙ take_all 51 vs (omega arith)) c.copy_within-left.ensures) in
    let fields = run_first a.budget xs 1 vs 51 long copied in
    (run_then a.budget xs 1 _ _ prefix_length fields (length_padded a.prefix.now c.requires.0) c.put_prefix.ensures (omega (arith, c.requires))).spends
