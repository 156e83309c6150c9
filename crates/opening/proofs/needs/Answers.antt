-- Each return by the tests that led there.
use mathlib.Core.Path.{◌≡◌, sym, ap, ◌∙◌}
use Prim.Native.Nat.{ℕ, ◌*◌}
use native.Mathlib.Omega.{arith}
use Rattle.std.proofs.lemmas.Result.{err_from_is_err_and}
use lib.ListN.{length}
use Rattle.format.specs.declared.head.File.TheVariants.{Single}
use Rattle.format.specs.declared.refusal.Refusal.{Refusal}
use Rattle.format.specs.Refusals.{number_of, first_failing}
use Rattle.format.proofs.Refusals.{some_number}
use Rattle.format.specs.Open.{Opening, opening_of, plan_tests, needs_answer}
use Rattle.format.proofs.Opening.{PlanHolds, plan_holds, plan_sound, plan_shape, plan_number, shape_listed, needs_refused, needs_lengths}
use Rattle.opening.proofs.needs.Goals as goal
use Rattle.opening.proofs.needs.Goals.{Start, In_ok-test_numbers}

-- the opening that the call means
abbrev given : Start → Opening
given s = let a = s.args in opening_of Single a.plan a.ranks.now a.sizes.now a.prefix.now

-- a refusal of the plan's tests, beside two zeros
refused : (s : Start) (r : Refusal) → number_of r ≡ first_failing (plan_tests (given s)) → record { refusal = number_of r; image = 0; cells = 0 } ≡ needs_answer (given s)
refused s r e =
    ap (λ (n : ℕ). record { refusal = n; image = 0; cells = 0 }) e ∙ sym (needs_refused (given s) (omega (arith, e, some_number r)))

-- both tests of the plan passed
passed : (c : In_ok-test_numbers) → let a = c.args in first_failing (plan_tests (opening_of Single a.plan a.ranks.now a.sizes.now a.prefix.now)) ≡ 0
passed c = plan_number _ (sym c.in_ok-test_shape.ensures) ∙ sym c.in_ok-test_numbers.ensures

known : (c : In_ok-test_numbers) → let a = c.args in PlanHolds (opening_of Single a.plan a.ranks.now a.sizes.now a.prefix.now)
known c = plan_holds _ (passed c)

pub returns-in_err-test_shape : goal.returns-in_err-test_shape
returns-in_err-test_shape c =
    let s : Start = (goal.at.returns-in_err-test_shape c).Start in
    let e = c.in_err-test_shape.ensures in
    let p = err_from_is_err_and c.from_residual.result c.from_residual.ensures.1 in
    rw (p.1, p.2) (refused s _ (e ∙ sym (plan_shape (given s) (omega (arith, e, some_number c.in_err-test_shape.field-0.0)))))

pub test_numbers-requires : goal.test_numbers-requires
test_numbers-requires c = sym (shape_listed _ _ _ _ _ _ (sym c.in_ok-test_shape.ensures))

pub returns-in_err-test_numbers : goal.returns-in_err-test_numbers
returns-in_err-test_numbers c =
    let s : Start = (goal.at.returns-in_err-test_numbers c).Start in
    let p = err_from_is_err_and c.from_residual-in_err-test_numbers.result c.from_residual-in_err-test_numbers.ensures.1 in
    rw (p.1, p.2) (refused s _ (c.in_err-test_numbers.ensures ∙ sym (plan_number (given s) (sym c.in_ok-test_shape.ensures))))

pub overflow_cast-n : goal.overflow_cast-n
overflow_cast-n c = omega (arith, (known (goal.at.overflow_cast-n c).In_ok-test_numbers).few_tasks)

pub invariant_of-layout : goal.invariant_of-layout
invariant_of-layout c = record { sound = plan_sound _ (known (goal.at.invariant_of-layout c).In_ok-test_numbers) }

pub meta2_end-requires : goal.meta2_end-requires
meta2_end-requires c = (known (goal.at.meta2_end-requires c).In_ok-test_numbers).few

pub returns : goal.returns
returns c =
    ap (λ (end : ℕ). record { refusal = 0; image = end; cells = length c.args.ranks.now * c.args.plan.planned }) c.meta2_end.ensures
    ∙ sym (needs_lengths _ (passed (goal.at.returns c).In_ok-test_numbers))
