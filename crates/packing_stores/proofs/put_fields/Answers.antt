-- The fields of the head but for the first byte and the flags, and the flags and the prefix where they end.
use mathlib.Core.Path.{refl, ap}
use mathlib.Core.List.{List, ◌++◌}
use Prim.Native.Nat.{ℕ, ◌-◌}
use native.Mathlib.Omega.{arith}
use lib.ListN.{length, take, drop}
use Rattle.lists.proofs.Stores.{spends_part, spends_same, run_first, run_then}
use Rattle.emit.specs.Parts.{first_fields}
use Rattle.packing_stores.specs.Front.{own_fields}
use Rattle.packing_stores.proofs.Front.{length_head, length_own}
use Rattle.packing_stores.proofs.put_fields.Goals as goal

pub returns : goal.returns
returns c =
    let a = c.args in
    let xs = a.second.now in
    let same = c.copy_within-left.auto.part in
    let fields = take 35 (drop 1 (first_fields a.big a.h)) in
    let short = length_head a.big a.h in
    let long = length_own a.image.now c.requires.0 in
    let copied =
    spends_part a.budget xs 1 (length xs - 1) fields (omega (arith, c.requires)) (omega (arith, c.requires))
    (spends_same refl (ap (λ (l : List ℕ). take 35 (drop 1 l)) c.first_fields-fields.ensures) c.copy_within-left.ensures) in
    let ys : List ℕ = take 1 xs ++ (c.copy_within-left.new.part ++ drop (length xs - 1) (drop 1 xs)) in
    let owned =
    spends_part c.copy_within-left.result ys 36 (length ys - 36) (own_fields a.image.now) (omega (arith, c.requires, same))
    (omega (arith, c.requires, same)) c.copy_within.ensures in
    (run_then a.budget xs 1 fields (own_fields a.image.now) 1040 (run_first a.budget xs 1 fields 35 short copied) long owned
    (omega (arith, c.requires))).spends
