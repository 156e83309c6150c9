-- The tests of the record, and then of the totals.
use mathlib.Core.Path.{sym, ◌∙◌}
use native.Mathlib.Omega.{arith}
use borrow.Author.Rules.{rules}
use Rattle.std.proofs.lemmas.Result.{err_from_is_err_and}
use Rattle.lists.proofs.Below.{test_fails, test_holds}
use Rattle.format.proofs.LoadedRecords.{loaded_passed}
use Rattle.packing_plan.proofs.Planned.{as_long, small_is, record_fails, few, total_fails, none_over}
use Rattle.packing_plan.proofs.plan.Goals as goal

pub returns-in_err-test_loaded-clause-value : goal.returns-in_err-test_loaded-clause-value
returns-in_err-test_loaded-clause-value c =
    let p = err_from_is_err_and c.from_residual.result c.from_residual.ensures.1 in
    rw (p.1, p.2) (record_fails _ _ c.in_err-test_loaded.ensures)

pub put_totals-requires-clause-passed : goal.put_totals-requires-clause-passed
put_totals-requires-clause-passed c = loaded_passed _ (sym c.in_ok-test_loaded.ensures)

pub put_totals-requires-clause-n_in_bounds : goal.put_totals-requires-clause-n_in_bounds
put_totals-requires-clause-n_in_bounds c = omega (arith, few _ c.in_ok-test_loaded.ensures, c.requires)

pub totals_ok-requires : goal.totals_ok-requires
totals_ok-requires c =
    let room = few _ c.in_ok-test_loaded.ensures in
    omega (arith, room, as_long _ _ _ _ (omega (arith, room, c.requires)) c.put_totals.ensures)

pub returns-then-not-totals_ok-clause-value : goal.returns-then-not-totals_ok-clause-value
returns-then-not-totals_ok-clause-value c =
    let passes = c.in_ok-test_loaded.ensures in
    let same = small_is _ _ _ _ (omega (arith, few _ passes, c.requires)) c.put_totals.ensures in
    total_fails _ passes (sym same ∙ test_fails c.totals_ok.ensures (search rules))

pub returns-clause-value : goal.returns-clause-value
returns-clause-value c =
    let passes = c.in_ok-test_loaded.ensures in
    let same = small_is _ _ _ _ (omega (arith, few _ passes, c.requires)) c.put_totals.ensures in
    none_over _ passes (sym same ∙ test_holds c.totals_ok.ensures (search rules))
