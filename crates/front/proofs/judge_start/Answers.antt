-- Each return, by the tests that led there.
use mathlib.Core.Bool.{Bool, true, or-true}
use mathlib.Core.Path.{◌≡◌, sym, ◌∙◌}
use mathlib.Core.List.{List, [], ◌∷◌}
use Prim.Native.Nat.{ℕ, ◌≤◌}
use native.Mathlib.Omega.{arith}
use borrow.Author.Tests.{lt-ltb, le-ltb}
use Rattle.std.specs.Prelude.{nat_eq}
use Rattle.std.specs.List.{starts_with}
use Rattle.format.specs.Meta1.{magic, fixed_length}
use Rattle.format.specs.Refusals.{verdict}
use Rattle.format.specs.Judge.{magic_in, start_tests}
use Rattle.front.specs.Judging.{order_test}
use Rattle.front.proofs.Answers.{magic_starts, end_test}
use Rattle.format.proofs.Verdicts.{fails_first, passes_first, passes_last}
use Rattle.format.proofs.Judged.{verdict_of, handed_on, answer_first, answer_next}
use Rattle.front.proofs.judge_start.Goals as goal
use Rattle.front.proofs.judge_start.Goals.{then-len-lt4-via-then-len-lt4, then-len-lt4-via-else-len-lt4+then-not-starts_with}

-- the mark is there, or is not, as the code found
found_is : (xs : List ℕ) {found answer : Bool} → found ≡ starts_with nat_eq xs magic → found ≡ answer → magic_in xs ≡ answer
found_is xs is e = sym (magic_starts xs) ∙ sym is ∙ e

-- where it is there
mark_passes : (xs : List ℕ) (len : ℕ) → 4 ≤ len → magic_in xs ≡ true
    → verdict (start_tests xs len) ≡ verdict (order_test xs len ∷ end_test len fixed_length ∷ [])
unfolding start_tests
mark_passes xs len l e = passes_first _ _ (rw (le-ltb len 4 l, e))

pub returns-then-len-lt4-clause-verdict : goal.returns-then-len-lt4-clause-verdict
unfolding start_tests
returns-then-len-lt4-clause-verdict c =
    (λ i. verdict_of (c.not_as_needed.ensures i))
    ∙ sym (fails_first _ _ (elim c.then-len-lt4.branch [
      | then-len-lt4-via-then-len-lt4 w ↦ rw (lt-ltb _ 4 w.if-len-lt4.true)
      | then-len-lt4-via-else-len-lt4+then-not-starts_with w ↦ rw (found_is _ w.starts_with.ensures.value w.if-not-starts_with.true, or-true)
    ]))

pub returns-in_err-big-clause-verdict : goal.returns-in_err-big-clause-verdict
unfolding start_tests
returns-in_err-big-clause-verdict c =
    handed_on _ _ c.from_residual.ensures.1
    ∙ answer_first (order_test c.args.xs.now c.args.len ∷ []) _ _ c.in_err-big.ensures.verdict
    ∙ sym (mark_passes _ _ c.if-len-lt4.false (found_is _ c.starts_with.ensures.value c.if-not-starts_with.false))

pub returns-then-len-needed-clause-verdict : goal.returns-then-len-needed-clause-verdict
unfolding start_tests
returns-then-len-needed-clause-verdict c =
    (λ i. verdict_of (c.not_as_needed-then-len-needed.ensures i))
    ∙ answer_next (order_test c.args.xs.now c.args.len ∷ []) _ (omega arith, tt) c.in_ok-big.ensures.verdict
    (sym (fails_first (end_test c.args.len fixed_length) [] (lt-ltb _ 1076 c.if-len-needed.true)))
    ∙ sym (mark_passes _ _ c.if-len-lt4.false (found_is _ c.starts_with.ensures.value c.if-not-starts_with.false))

pub returns-clause-verdict : goal.returns-clause-verdict
unfolding start_tests
returns-clause-verdict c =
    answer_next (order_test c.args.xs.now c.args.len ∷ []) _ (omega arith, tt) c.in_ok-big.ensures.verdict
    (sym (passes_last (end_test c.args.len fixed_length) (le-ltb _ 1076 c.if-len-needed.false)))
    ∙ sym (mark_passes _ _ c.if-len-lt4.false (found_is _ c.starts_with.ensures.value c.if-not-starts_with.false))
