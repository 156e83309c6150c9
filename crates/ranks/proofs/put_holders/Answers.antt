-- A task passed is put at its rank, or changes nothing.
use native.Mathlib.Omega.{arith}
use borrow.Author.Rules.{rules}
use lib.Seq.{set-get_or}
use Rattle.ranks.proofs.Holding.{held_over, held_taken, held_put}
use Rattle.ranks.proofs.put_holders.Goals as goal
use Rattle.ranks.proofs.put_holders.Goals.{then-rank-size+then-holder-eq0, then-rank-size+else-holder-eq0, else-rank-size}

pub loop-i-preserved : goal.loop-i-preserved
loop-i-preserved c =
    let h = c.loop-i.invariant in
    elim c.if-rank-size.branch [
      | then-rank-size+then-holder-eq0 w ↦ rw w.holders-is (held_put _ _ _ _ h (search rules) (omega arith) (search rules))
      | then-rank-size+else-holder-eq0 w ↦ rw (w.holders-is, set-get_or) (held_taken _ _ _ _ h (search rules))
      | else-rank-size w ↦ rw w.holders-is (held_over _ _ _ _ h (search rules))
    ]
