-- An opening is accepted exactly where it is a good one (`GoodOpening`), and its plan where it is a good plan; and what is needed then.
use mathlib.Core.Path.{◌≡◌, refl, sym, ap}
use mathlib.Core.Bool.{not}
use mathlib.Core.List.{List}
use Prim.Native.Nat.{ℕ, ◌*◌}
use lib.IntN.{ℤ}
use lib.ListN.{length}
use borrow.Author.Tests.{le-ltb, eq-eqb}
use Rattle.lists.proofs.Below.{or_both}
use Rattle.endian.proofs.Signed.{within_holds}
use Rattle.format.specs.Limits.{max_blocks, planned_rule}
use Rattle.format.specs.Layout.{meta2_start, meta2_length, meta2_end}
use Rattle.format.specs.Refusals.{first_failing}
use Rattle.format.specs.Meta1.{prefix_length}
use Rattle.format.specs.Record.{entry, end_at}
use Rattle.format.proofs.Refusals.{all_pass}
use Rattle.format.specs.declared.session.Needed.{Needed}
use Rattle.format.specs.Open.{Opening, tasks, shape_tests, number_tests, plan_tests, needs_answer, open_refusal, open_head}
use Rattle.format.proofs.Opening.{PlanHolds, opening_holds, needs_lengths, open_enough}
use Rattle.format.specs.Accepted.{bytes_for, GoodPlan, GoodOpening}
use Rattle.format.proofs.Formats.{format_known, format_kept}
use Rattle.format.proofs.InBounds.{in_bounds, block_kept, tasks_kept, ranks_kept, sizes_kept}
use Rattle.format.proofs.Judging.{order_is, order_holds}

module _ (o : Opening) where
  pub plan_good : PlanHolds o → GoodPlan o
  plan_good p = record {
    order = order_is o.plan.order p.order;
    format = format_known p.format;
    bounds = in_bounds p.block p.task_rule p.ranked p.sized;
    one_length = p.listed;
    prefix_fits = p.prefix_short;
    planned_range = (p.some, p.few);
  }

  pub plan_passes : GoodPlan o → first_failing (plan_tests o) ≡ 0
  unfolding plan_tests shape_tests number_tests planned_rule
  plan_passes g =
      let b = g.bounds in
      let order = ap not (order_holds o.plan.order g.order) in
      let listed = or_both (ap not (tasks_kept b)) (ap not (eq-eqb (tasks o) (length o.sizes) (sym g.one_length))) in
      let prefix = le-ltb prefix_length (length o.prefix) g.prefix_fits in
      let ranks = ap not (ranks_kept b _ (λ i l. refl)) in
      let sizes = ap not (sizes_kept b _ (λ i l. refl)) in
      let planned = ap not (within_holds 1 max_blocks o.plan.planned g.planned_range.0 g.planned_range.1) in
      let format = ap not (format_kept g.format) in
      all_pass (plan_tests o) (order, (format, (ap not (block_kept b), (listed, (prefix, (ranks, (sizes, (planned, tt))))))))

  -- what is needed then
  pub needed : GoodPlan o
      → needs_answer o
      ≡ record {
        refusal = 0;
        image = bytes_for o.plan.blocksize (tasks o) (entry o.sizes) o.plan.planned;
        cells = tasks o * o.plan.planned;
      }
  unfolding meta2_end meta2_start meta2_length
  needed g = needs_lengths o (plan_passes g)

  module _ (image : List ℕ) (table : List ℤ) where
    pub opens_only : open_refusal o (length image) (length table) ≡ 0 → GoodOpening o image table
    unfolding open_head end_at meta2_end meta2_start meta2_length
    opens_only e =
        let h = opening_holds o (length image) (length table) e in
        record { plan = plan_good h.plan; long = record { image_long = h.image_long; table_long = h.table_long } }

    pub opens_every : GoodOpening o image table → open_refusal o (length image) (length table) ≡ 0
    opens_every g =
        let e = needed g.plan in
        open_enough o (length image) (length table) (ap (λ (a : Needed). a.refusal) e)
        (rw (ap (λ (a : Needed). a.image) e) g.long.image_long) (rw (ap (λ (a : Needed). a.cells) e) g.long.table_long)
