-- The count of ones decides the rule of a number in its range.
use mathlib.Core.Bool.{and-false}
use Prim.Native.Nat.{◌<◌}
use borrow.Author.Tests.{le-leb, lt-leb}
use native.Mathlib.Omega.{arith}
use Rattle.format.specs.Limits.{min_blocksize, max_blocksize, blocksize_rule}
use Rattle.format.proofs.Power.{count_decides}
use Rattle.rules.proofs.limits.blocksize_ok.Goals as goal
use Rattle.rules.proofs.limits.blocksize_ok.Goals.{then-blocksize-ge-MIN_BLOCKSIZE, else-blocksize-ge-MIN_BLOCKSIZE}

pub returns-then-blocksize-le-MAX_BLOCKSIZE : goal.returns-then-blocksize-le-MAX_BLOCKSIZE
unfolding blocksize_rule
returns-then-blocksize-le-MAX_BLOCKSIZE c =
    let b = c.args.blocksize in
    let in_range = c.if-blocksize-le-MAX_BLOCKSIZE.true in
    rw (le-leb min_blocksize b in_range.0, le-leb b max_blocksize in_range.1) (count_decides b (omega arith))

pub returns-else-blocksize-le-MAX_BLOCKSIZE : goal.returns-else-blocksize-le-MAX_BLOCKSIZE
unfolding blocksize_rule
returns-else-blocksize-le-MAX_BLOCKSIZE c =
    let b = c.args.blocksize in
    elim c.if-blocksize-ge-MIN_BLOCKSIZE.branch [
      | then-blocksize-ge-MIN_BLOCKSIZE w ↦
          let over : max_blocksize < b = omega arith in
          rw (lt-leb b max_blocksize over, and-false) cc
      | else-blocksize-ge-MIN_BLOCKSIZE w ↦
          let under : b < min_blocksize = w.if-blocksize-ge-MIN_BLOCKSIZE.false in
          rw (lt-leb min_blocksize b under) cc
    ]
