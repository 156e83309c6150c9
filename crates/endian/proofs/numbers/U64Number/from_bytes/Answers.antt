-- The first eight bytes are the whole of the slice, and the library's sum over them is the number that they are.
use mathlib.Core.Path.{◌≡◌, sym, ap, ◌∙◌}
use mathlib.Core.List.{List, reverse}
use Prim.Native.Nat.{ℕ}
use native.Mathlib.Omega.{arith}
use lib.ListN.{length}
use lib.Seq.{take_all}
use Rattle.std.specs.Int.{w64, from_le_bytes, from_be_bytes}
use Rattle.lists.specs.Below.{join_below}
use Rattle.lists.proofs.Below.{part_list}
use Rattle.endian.specs.Number.{little}
use Rattle.endian.proofs.numbers.U64Number.from_bytes.Goals as goal

from_eight : (bs : List ℕ) → length bs ≡ 8 → (from_le_bytes w64 bs ≡ little bs) × (from_be_bytes w64 bs ≡ little (reverse bs))
unfolding join_below
from_eight bs e =
    let each = sym (take_all 8 bs (omega arith)) ∙ part_list 8 bs 0 0 (omega arith) in
    (omega (arith, ap little each), omega (arith, ap (λ (l : List ℕ). little (reverse l)) each))

pub returns-then-big : goal.returns-then-big
returns-then-big c =
    let first = rw c.unwrap-bytes.ensures at c.first_chunk.ensures.cases in
    let whole = first.same ∙ take_all 8 c.args.bytes.now (omega arith) in
    rw c.if-big.true (c.from_be_bytes.ensures ∙ ap (from_be_bytes w64) whole ∙ (from_eight c.args.bytes.now c.requires).1)

pub returns-else-big : goal.returns-else-big
returns-else-big c =
    let first = rw c.unwrap-bytes.ensures at c.first_chunk.ensures.cases in
    let whole = first.same ∙ take_all 8 c.args.bytes.now (omega arith) in
    rw c.if-big.false (c.from_le_bytes.ensures ∙ ap (from_le_bytes w64) whole ∙ (from_eight c.args.bytes.now c.requires).0)
