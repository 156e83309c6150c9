-- The cell of task i + 1 is put behind those of the first i tasks.
use mathlib.Core.Path.{◌∙◌}
use native.Mathlib.Nat.{lt_of_lt_of_le}
use borrow.Author.Tests.{ltb-false, not-true}
use Rattle.lists.proofs.Below.{all_at}
use Rattle.lists.proofs.Copies.{take_short}
use Rattle.lists.proofs.Splice.{splice_none, splice_more}
use mir.Facts.{to_z-of_z}
use mir.Syntax.{w64}
use borrow.Author.Rules.{sfits_of}
use Rattle.packing_plan.proofs.Planned.{put_whole}
use Rattle.packing_plan.proofs.put_cells.Invariants.{cell_of}
use Rattle.packing_plan.proofs.put_cells.Goals as goal

pub first_cell-requires : goal.first_cell-requires
first_cell-requires c = ltb-false _ _ (not-true _ (all_at _ c.args.n c.loop-i.i (lt_of_lt_of_le c.loop-i-test.true (take_short c.args.n c.args.cells.now)) c.requires.i_value))

pub loop-i-init : goal.loop-i-init
loop-i-init c = splice_none _ _

pub loop-i-preserved : goal.loop-i-preserved
loop-i-preserved c =
    let a = c.args in
    let here = to_z-of_z {w = w64} (sfits_of c.first_cell.type_inv) ∙ c.first_cell.ensures in
    rw (here, c.loop-i.invariant) (splice_more _ (cell_of a.totals.now a.counts.now) c.loop-i.i c.loop-i-test.true)

pub returns : goal.returns
returns c = let l = c.loop-i in put_whole c.args.cells.now c.args.n l.i _ c.requires.n_in_bounds.0 l.auto.i-end c.loop-i-test.false l.invariant
