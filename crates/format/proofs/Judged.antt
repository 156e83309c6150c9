-- What code answers to a load's tests, a Result, is their verdict: where the first of two lists passes and where it fails, and of lists that are
-- asked one after the other until one of them fails.
use mathlib.Core.Path.{◌≡◌, refl, sym, ap, subst, ◌∙◌}
use mathlib.Core.List.{List, ◌++◌}
use mathlib.Core.Logic.{⊎_elim}
use Prim.Native.Nat.{ℕ, zero, suc, ◌+◌, ◌<◌}
use native.Mathlib.Nat.{not-suc-le-zero, eq-or-lt_of_le, le_of_suc-le-suc}
use native.Mathlib.Numerals.{add-one}
use Rattle.std.specs.Prelude.{Result, Ok, Err, IsErrAnd}
use Rattle.lists.specs.Below.{join_below}
use Rattle.format.specs.declared.fault.Broken.{Broken}
use Rattle.format.specs.Refusals.{Test, Verdict, first_failing, first_fault, verdict, passed, number_of, judged}
use Rattle.format.proofs.Refusals.{Numbered, some_number}
use Rattle.format.proofs.Verdicts.{verdict_passes, verdict_fails, each_join}

-- the verdict of what is broken, which is `judged` of an Err
abbrev pub verdict_of : Broken → Verdict
verdict_of b = record { refusal = number_of b.refusal; fault = b.fault }

pub broken_fails : (ts : List Test) (b : Broken) → verdict_of b ≡ verdict ts → 0 < first_failing ts
broken_fails ts b e = subst (λ (r : ℕ). 0 < r) (λ i. (e i).refusal) (some_number b.refusal)

pub passed_passes : (ts : List Test) → passed ≡ verdict ts → first_failing ts ≡ 0
passed_passes ts e = λ i. (sym e i).refusal

-- the exit of a `?` hands on what was found broken
pub handed_on : {A : Type 0} (r : Result A Broken) (b : Broken) → IsErrAnd r (λ e. e ≡ b) → judged r ≡ verdict_of b
handed_on (Ok x) b same = absurd same
handed_on (Err e) b same = λ i. verdict_of (same i)

-- ---- two lists

-- the first passes, and the second is asked
pub answer_next : (xs ys : List Test) → Numbered xs → passed ≡ verdict xs → {v : Verdict} → v ≡ verdict ys → v ≡ verdict (xs ++ ys)
answer_next xs ys numbered before here = here ∙ sym (verdict_passes xs ys numbered (passed_passes xs before))

-- the first fails
pub answer_first : (xs ys : List Test) (b : Broken) → verdict_of b ≡ verdict xs → verdict_of b ≡ verdict (xs ++ ys)
answer_first xs ys b e = e ∙ sym (verdict_fails xs ys (broken_fails xs b e))

-- ---- lists asked until one of them fails: before the first, after one more, and at the first that fails

module _ (f : ℕ → List Test) (numbered : (k : ℕ) → Numbered (f k)) where
  pub ask_none : passed ≡ verdict (join_below 0 f)
  unfolding join_below first_failing first_fault
  ask_none = refl

  pub ask_more : (k : ℕ) → passed ≡ verdict (join_below k f) → passed ≡ verdict (f k) → passed ≡ verdict (join_below (k + 1) f)
  unfolding join_below
  ask_more k before here = answer_next (join_below k f) (f k) (each_join _ f numbered k) before here ∙ ap (λ (j : ℕ). verdict (join_below j f)) (sym (add-one k))

  pub ask_fails : (n k : ℕ) → k < n → passed ≡ verdict (join_below k f) → (b : Broken) → verdict_of b ≡ verdict (f k)
      → verdict_of b ≡ verdict (join_below n f)
  unfolding join_below
  ask_fails zero k l before b here = absurd (not-suc-le-zero l)
  ask_fails (suc n) k l before b here =
      ⊎_elim
      (λ e. subst (λ (j : ℕ). verdict_of b ≡ verdict (join_below (suc j) f)) e
      (answer_next (join_below k f) (f k) (each_join _ f numbered k) before here))
      (λ lt. answer_first (join_below n f) (f n) b (ask_fails n k lt before b here))
      (eq-or-lt_of_le (le_of_suc-le-suc l))
