-- The answer by cases of what `plan` says.
use mathlib.Core.Path.{sym, ◌∙◌}
use native.Mathlib.Omega.{arith}
use Rattle.std.proofs.lemmas.Result.{err_from_is_err_and}
use Rattle.format.proofs.Passing.{head_tasks, head_block}
use Rattle.packs.proofs.Packed.{passed}
use Rattle.packing_plan.proofs.Planned.{each, as_long, small_is, all_small, refused, accepted}
use Rattle.packing_plan.proofs.packed_length.Goals as goal

pub returns-in_err-plan : goal.returns-in_err-plan
returns-in_err-plan c =
    let p = err_from_is_err_and c.from_residual.result c.from_residual.ensures.1 in
    rw (p.1, p.2) (refused _ _ c.in_err-plan.ensures.value)

pub packed_end-requires-clause-blocksize_value : goal.packed_end-requires-clause-blocksize_value
packed_end-requires-clause-blocksize_value c =
    let head = (passed _ (sym c.in_ok-plan.ensures.value)).head in
    let few = (head_tasks _ _ head).1 in
    let long = as_long _ _ _ _ (omega (arith, few)) c.in_ok-plan.ensures.totals_after in
    (head_block _ _ head, few, omega (arith, few, long))

pub packed_end-requires-clause-i_value : goal.packed_end-requires-clause-i_value
packed_end-requires-clause-i_value c =
    let passes = c.in_ok-plan.ensures.value in
    let few = (head_tasks _ _ (passed _ (sym passes)).head).1 in
    small_is _ _ _ _ (omega (arith, few)) c.in_ok-plan.ensures.totals_after ∙ all_small _ passes

pub returns : goal.returns
returns c =
    let passes = c.in_ok-plan.ensures.value in
    let few = (head_tasks _ _ (passed _ (sym passes)).head).1 in
    accepted _ _ (each _ _ _ _ (omega (arith, few)) c.in_ok-plan.ensures.totals_after) _ passes c.packed_end.ensures
