-- Two numbers, the second where the first ends.
use mathlib.Core.Path.{◌≡◌, refl, ap, ◌∙◌}
use mathlib.Core.Bool.{Bool, true, false}
use Prim.Native.Nat.{ℕ}
use native.Mathlib.Omega.{arith}
use mir.Val.{bool_byte}
use Rattle.endian.specs.Number.{digits}
use Rattle.endian.proofs.Number.{length_digits}
use Rattle.lists.specs.Splice.{splice}
use Rattle.lists.proofs.Splice.{put_first, put_then}
use Rattle.pairs.specs.Mapping.{file_of_rank}
use Rattle.mapping.specs.Entries.{entry_bytes}
use Rattle.mapping.proofs.put_entry.Goals as goal

number_of : (second : Bool) → bool_byte second ≡ file_of_rank second
number_of true = refl
number_of false = refl

pub returns : goal.returns
unfolding entry_bytes
returns c =
    let a = c.args in
    let xs = a.bytes.now in
    let wide = length_digits a.big 4 in
    let file = put_first xs a.at (digits a.big 4 (file_of_rank a.second)) 4 (wide _)
    (c.put.ensures ∙ ap (λ (v : ℕ). splice xs a.at (digits a.big 4 v)) (number_of a.second)) in
    (put_then xs a.at _ _ 4 file (wide a.task) c.put-2.ensures (omega (arith, c.requires))).0
