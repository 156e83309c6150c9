-- Each return by the count of the task.
use Prim.Native.Nat.{◌-◌}
use native.Mathlib.Omega.{arith}
use borrow.Author.Tests.{lt-leb}
use Rattle.endian.proofs.Signed.{within_holds, within_over}
use Rattle.format.specs.Refusals.{first_failing}
use Rattle.format.proofs.Stripes.{count_at_place}
use Rattle.chunks.proofs.test_used.Goals as goal
use Rattle.chunks.proofs.test_used.Goals.{then-chunk-lt1-via-then-chunk-lt1, then-chunk-lt1-via-else-chunk-lt1+then-used-chunk}

pub returns-then-chunk-lt1 : goal.returns-then-chunk-lt1
unfolding first_failing
returns-then-chunk-lt1 c =
    let a = c.args in
    elim c.then-chunk-lt1.branch [
      | then-chunk-lt1-via-then-chunk-lt1 w ↦ simp (lt-leb 1 a.chunk w.if-chunk-lt1.true)
      | then-chunk-lt1-via-else-chunk-lt1+then-used-chunk w ↦
          simp (within_over 1 _ a.chunk (rw (count_at_place a.lists.now (a.task - 1) (omega arith)) at w.if-used-chunk.true))
    ]

pub returns : goal.returns
unfolding first_failing
returns c =
    let a = c.args in
    simp (within_holds 1 _ a.chunk c.if-chunk-lt1.false (rw (count_at_place a.lists.now (a.task - 1) (omega arith)) at c.if-used-chunk.false))
