-- The loop's invariant: every cell passed keeps its rule, and where cells are left, the next one is that of task i and chunk `row`.
use mathlib.Core.Bool.{not}
use mathlib.Core.Path.{ap}
use Rattle.tables.proofs.Rows.{passed_none, some_left, turn_fails, turn_holds}
use Rattle.tables.proofs.span_ok.Goals as goal

pub loop-rest-init : goal.loop-rest-init
loop-rest-init c = let a = c.args in passed_none a.k a.first a.holds.now a.counts.now a.cells.now c.requires.cells_in_bounds.1

pub loop-rest-preserved : goal.loop-rest-preserved
loop-rest-preserved c =
    let a = c.args in
    let l = c.loop-rest in
    turn_holds a.k a.first a.holds.now a.counts.now a.cells.now l.rest.now l.row l.i l.invariant (some_left _ c.is_empty.ensures c.loop-rest-test.true) c.min-w.result c.min-w.ensures
    c.split_at.result.0.now c.split_at.ensures.front c.row_ok.ensures c.split_at.result.1.now c.split_at.ensures.back (ap not c.if-not-row_ok.false)

pub returns-then-not-row_ok : goal.returns-then-not-row_ok
returns-then-not-row_ok c =
    let a = c.args in
    let l = c.loop-rest in
    turn_fails a.k a.first a.holds.now a.counts.now a.cells.now l.rest.now l.row l.i l.invariant (some_left _ c.is_empty.ensures c.loop-rest-test.true) c.min-w.result c.min-w.ensures
    c.split_at.result.0.now c.split_at.ensures.front c.row_ok.ensures (ap not c.if-not-row_ok.true)
