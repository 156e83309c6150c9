-- The loop's invariant: the entries of the ranks passed break no rule.
use mathlib.Core.Path.{◌≡◌}
use lib.ListN.{length}
use Rattle.lists.specs.Below.{join_below}
use Rattle.format.specs.Record.{entry}
use Rattle.format.specs.Refusals.{verdict, passed}
use Rattle.pairs.specs.Mapping.{entry_tests}
use Rattle.mapping.proofs.judge_entries.Given as goal

abbrev pub invariant-loop-rank : goal.invariant-loop-rank
invariant-loop-rank l =
    passed
    ≡ verdict (join_below l.rank (entry_tests (length l.first) (length l.second) (entry l.first) (entry l.second) l.big l.image l.start))
