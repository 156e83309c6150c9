-- The first tests, then the fields.
use mathlib.Core.Path.{◌∙◌}
use native.Mathlib.Omega.{arith}
use Rattle.format.specs.Layout.{meta1_end}
use Rattle.format.specs.Judge.{start_tests, field_tests, fixed_tests}
use Rattle.format.proofs.Accepting.{start_numbered}
use Rattle.format.proofs.Judged.{handed_on, answer_first, answer_next}
use Rattle.front.proofs.Answers.{start_long}
use Rattle.front.proofs.judge_fixed.Goals as goal

pub returns-in_err-big-clause-verdict : goal.returns-in_err-big-clause-verdict
unfolding fixed_tests
returns-in_err-big-clause-verdict c =
    handed_on _ _ c.from_residual.ensures.1 ∙ answer_first (start_tests c.args.xs.now c.args.len) _ _ c.in_err-big.ensures.verdict

pub judge_fields-requires : goal.judge_fields-requires
unfolding meta1_end
judge_fields-requires c = (c.in_ok-big.ensures.order, c.requires 1076 (start_long _ _ c.in_ok-big.ensures.verdict) (omega arith))

pub returns-clause-verdict : goal.returns-clause-verdict
unfolding fixed_tests
returns-clause-verdict c =
    let xs = c.args.xs.now in
    let len = c.args.len in
    answer_next (start_tests xs len) (field_tests xs c.args.file len) (start_numbered xs len) c.in_ok-big.ensures.verdict c.judge_fields.ensures.verdict
