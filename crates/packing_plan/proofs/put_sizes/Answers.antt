-- The size of task i + 1 is put behind those of the first i tasks.
use mathlib.Core.Path.{◌∙◌}
use native.Mathlib.Nat.{max_comm}
use Rattle.lists.proofs.Splice.{splice_none, splice_more}
use Rattle.packing_plan.proofs.Planned.{put_whole, size_for}
use Rattle.packing_plan.proofs.put_sizes.Goals as goal

pub loop-i-init : goal.loop-i-init
loop-i-init c = splice_none _ _

pub loop-i-preserved : goal.loop-i-preserved
loop-i-preserved c =
    let l = c.loop-i in
    rw (c.max.ensures ∙ max_comm _ _, l.invariant) (splice_more _ (size_for c.args.totals.now) l.i c.loop-i-test.true)

pub returns : goal.returns
returns c = let l = c.loop-i in put_whole c.args.sizes.now c.args.n l.i _ c.requires.0 l.auto.i-end c.loop-i-test.false l.invariant
