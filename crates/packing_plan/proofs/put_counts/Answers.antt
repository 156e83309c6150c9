-- The count of task i + 1 is put behind those of the first i tasks.
use mathlib.Core.Path.{ap, ◌∙◌}
use Prim.Native.Nat.{ℕ}
use Rattle.lists.specs.Below.{list_below}
use Rattle.lists.specs.Splice.{splice}
use Rattle.lists.proofs.Splice.{splice_none, splice_more}
use Rattle.packing_plan.proofs.Planned.{put_whole, count_for}
use Rattle.packing_plan.proofs.put_counts.Goals as goal

pub loop-i-init : goal.loop-i-init
loop-i-init c = splice_none _ _

pub loop-i-preserved : goal.loop-i-preserved
loop-i-preserved c =
    let l = c.loop-i in
    rw (c.count_of.ensures, l.invariant) (splice_more _ (count_for c.args.totals.now c.least_count-least.result) l.i c.loop-i-test.true)

pub returns : goal.returns
returns c =
    let a = c.args in
    let l = c.loop-i in
    let put = put_whole a.counts.now a.n l.i _ c.requires.0 l.auto.i-end c.loop-i-test.false l.invariant in
    put ∙ ap (λ (least : ℕ). splice a.counts.now 0 (list_below a.n (count_for a.totals.now least))) c.least_count-least.ensures
