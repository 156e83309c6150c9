-- By the top bit of the count and of the difference.
use Rattle.std.proofs.Common.{ℕ, ◌+◌, ◌-◌, ◌/◌, ◌%◌, ◌^◌, arith}
use lib.Bits.{bit_and}
use Rattle.tables.proofs.Values.{mask_is, sub_small, sub_wraps, top_small}
use Rattle.tables.proofs.unused_mask.Goals as goal

pub returns : goal.returns
returns c =
    let a = c.args in
    let d : ℕ = (a.count + (2 ^ 64 - (a.k + 1))) % 2 ^ 64 in
    let bit : ℕ = bit_and d (2 ^ 64 - 1 - a.count) / 2 ^ 63 in
    let small = sub_small a.count (a.k + 1) in
    mask_is a.count a.k d ((0 + (2 ^ 64 - bit)) % 2 ^ 64) c.requires c.ranges.count.fits small (sub_wraps a.count (a.k + 1) c.ranges.count.fits (omega arith))
    (sub_small 0 bit) (sub_wraps 0 bit (omega arith) (top_small d (2 ^ 64 - 1 - a.count) small))
