-- The loop's invariant: every cell passed keeps its rule, and where cells are left, the next one is that of task i and chunk `row`. The measure
-- is the cells left.
use Rattle.std.proofs.Common.{length}
use Rattle.tables.proofs.Rows.{Passed}
use Rattle.tables.proofs.span_ok.Given as goal

abbrev pub invariant-loop-rest : goal.invariant-loop-rest
invariant-loop-rest l = Passed l.k l.first l.holds l.counts l.cells l.rest l.row l.i

abbrev pub decreases-loop-rest : goal.decreases-loop-rest
decreases-loop-rest l = length l.rest
