-- The tasks passed are at their ranks.
use Rattle.format.specs.Record.{entry}
use Rattle.ranks.specs.Holders.{Held}
use Rattle.ranks.proofs.put_holders.Given as goal

abbrev pub invariant-loop-i : goal.invariant-loop-i
invariant-loop-i l = Held l.size l.before l.i (entry l.ranks) l.initial.holders l.holders
