-- Each return, by the order in which the order number was found.
use mathlib.Core.Path.{sym, ◌∙◌}
use mathlib.Core.Bool.{or-true}
use native.Mathlib.Omega.{arith}
use borrow.Author.Tests.{lt-ltb}
use Rattle.format.specs.Layout.{meta1_end}
use Rattle.format.specs.Judge.{big_in, ordered_in}
use Rattle.format.proofs.Verdicts.{fails_first}
use Rattle.format.proofs.Judged.{verdict_of}
use Rattle.front.proofs.Answers.{big_ordered, order_passes}
use Rattle.front.proofs.judge_order.Goals as goal
use Rattle.front.proofs.judge_order.Goals.{then-len-ge8+else-field_is+else-field_is-2, else-len-ge8}

pub field_is-requires : goal.field_is-requires
unfolding meta1_end
field_is-requires c = (c.requires 8 c.if-len-ge8.true (omega arith), omega arith)

pub returns-then-field_is-clause-verdict : goal.returns-then-field_is-clause-verdict
unfolding big_in ordered_in
returns-then-field_is-clause-verdict c = order_passes c.args.xs.now _ c.if-len-ge8.true (big_ordered c.args.xs.now (sym c.field_is.ensures ∙ c.if-field_is.true))

pub returns-then-field_is-clause-order : goal.returns-then-field_is-clause-order
unfolding big_in
returns-then-field_is-clause-order c = sym c.if-field_is.true ∙ c.field_is.ensures

pub field_is-requires-then-len-ge8 : goal.field_is-requires-then-len-ge8
unfolding meta1_end
field_is-requires-then-len-ge8 c = (c.requires 8 c.if-len-ge8.true (omega arith), omega arith)

pub returns-then-field_is-2-clause-verdict : goal.returns-then-field_is-2-clause-verdict
unfolding ordered_in
returns-then-field_is-2-clause-verdict c = order_passes c.args.xs.now _ c.if-len-ge8.true (rw (sym c.field_is-then-len-ge8.ensures ∙ c.if-field_is-2.true))

pub returns-then-field_is-2-clause-order : goal.returns-then-field_is-2-clause-order
unfolding big_in
returns-then-field_is-2-clause-order c = sym c.if-field_is.false ∙ c.field_is.ensures

pub returns-clause-verdict : goal.returns-clause-verdict
unfolding big_in ordered_in
returns-clause-verdict c =
    (λ i. verdict_of (c.not_as_needed.ensures i))
    ∙ sym (fails_first _ _ (elim c.if-len-ge8.branch [
      | then-len-ge8+else-field_is+else-field_is-2 w ↦
          rw (sym w.field_is.ensures ∙ w.if-field_is.false, sym w.field_is-then-len-ge8.ensures ∙ w.if-field_is-2.false, or-true)
      | else-len-ge8 w ↦ rw (lt-ltb _ 8 w.if-len-ge8.false)
    ]))
