-- Laws of `verdict`: one list after another, all tests passed, and a field that stands n times.
use mathlib.Core.Path.{◌≡◌, refl, sym, subst, ◌∙◌}
use mathlib.Core.Bool.{Bool, true, false, cond, not, ◌&&◌}
use mathlib.Core.List.{List, [], ◌∷◌, ◌++◌}
use Prim.Native.Nat.{ℕ, zero, suc, ◌<◌}
use native.Mathlib.Omega.{arith}
use Rattle.lists.specs.Below.{all_below, first_not, join_below, list_below}
use Rattle.lists.proofs.Below.{first_none, first_below}
use Rattle.format.specs.declared.fault.Fault.{Fault}
use Rattle.format.specs.Refusals.{Verdict}
use Rattle.format.specs.Refusals.{Test, test_at, first_failing, first_fault, verdict, passed}
use Rattle.format.proofs.Refusals.{Each, Numbered, next_passes}

-- one test is asked: it fails, or the others are asked
pub fails_first : (t : Test) (ts : List Test) → t.fails ≡ true → verdict (t ∷ ts) ≡ record { refusal = t.number; fault = t.fault }
unfolding first_failing first_fault
fails_first t ts e = rw e

pub passes_first : (t : Test) (ts : List Test) → t.fails ≡ false → verdict (t ∷ ts) ≡ verdict ts
unfolding first_failing first_fault
passes_first t ts e = rw e

pub passes_last : (t : Test) → t.fails ≡ false → verdict (t ∷ []) ≡ passed
unfolding first_failing first_fault
passes_last t e = rw e

-- where the first list passes, the second is asked
pub verdict_passes : (xs ys : List Test) → Numbered xs → first_failing xs ≡ 0 → verdict (xs ++ ys) ≡ verdict ys
verdict_passes [] ys h e = refl
verdict_passes (t ∷ ts) ys h e =
    let (passes, rest) = next_passes t ts h.0 e in
    passes_first t (ts ++ ys) passes ∙ verdict_passes ts ys h.1 rest

-- where a test of the first fails, the second is not asked
pub verdict_fails : (xs ys : List Test) → 0 < first_failing xs → verdict (xs ++ ys) ≡ verdict xs
unfolding first_failing
verdict_fails [] ys h = absurd (omega arith)
verdict_fails (t ∷ ts) ys h = go t.fails refl (verdict_fails ts ys)
  where
    go : (b : Bool) → t.fails ≡ b → (0 < first_failing ts → verdict (ts ++ ys) ≡ verdict ts) → verdict (t ∷ (ts ++ ys)) ≡ verdict (t ∷ ts)
    go true e rest = fails_first t (ts ++ ys) e ∙ sym (fails_first t ts e)
    go false e rest = passes_first t (ts ++ ys) e ∙ rest (rw e at h) ∙ sym (passes_first t ts e)

-- where all pass, nothing is broken
pub verdict_none : (ts : List Test) → Numbered ts → first_failing ts ≡ 0 → verdict ts ≡ passed
unfolding first_failing first_fault
verdict_none [] h e = refl
verdict_none (t ∷ ts) h e =
    let (passes, rest) = next_passes t ts h.0 e in
    passes_first t ts passes ∙ verdict_none ts h.1 rest

-- ---- n lists of tests, one after the other

pub each_append : (P : Test → Type 0) (xs ys : List Test) → Each P xs → Each P ys → Each P (xs ++ ys)
each_append P [] ys h k = k
each_append P (t ∷ ts) ys h k = (h.0, each_append P ts ys h.1 k)

pub each_join : (P : Test → Type 0) (f : ℕ → List Test) → ((k : ℕ) → Each P (f k)) → (n : ℕ) → Each P (join_below n f)
unfolding join_below
each_join P f h zero = tt
each_join P f h (suc n) = each_append P (join_below n f) (f n) (each_join P f h n) (h n)

-- list k passes where p k holds, and gives the verdict v k where it does not: the first that does not pass counts
module _ (f : ℕ → List Test) (p : ℕ → Bool) (v : ℕ → Verdict) (numbered : (k : ℕ) → Numbered (f k)) (some : (k : ℕ) → 0 < (v k).refusal)
    (gives : (k : ℕ) → verdict (f k) ≡ cond (p k) passed (v k)) where
  pub join_verdict : (n : ℕ) → verdict (join_below n f) ≡ cond (all_below n p) passed (v (first_not n p))
  unfolding join_below all_below first_not first_failing first_fault
  join_verdict zero = refl
  join_verdict (suc n) = go (all_below n p) refl (join_verdict n)
    where
      before : List Test
      before = join_below n f

      go : (a : Bool) → all_below n p ≡ a → verdict before ≡ cond (all_below n p) passed (v (first_not n p))
          → verdict (before ++ f n) ≡ cond (all_below n p && p n) passed (v (cond (all_below n p && p n) (suc n) (first_not n p)))
      go true all e =
          let none : verdict before ≡ passed = e ∙ rw all in
          let zero : first_failing before ≡ 0 = λ i. (none i).refusal in
          rw (all, first_none p n all) (verdict_passes before (f n) (each_join _ f numbered n) zero ∙ gives n ∙ last (p n))
        where
          last : (b : Bool) → cond b passed (v n) ≡ cond b passed (v (cond b (suc n) n))
          last true = refl
          last false = refl
      go false all e =
          let found : verdict before ≡ v (first_not n p) = e ∙ rw all in
          let number : (v (first_not n p)).refusal ≡ first_failing before = λ i. (sym found i).refusal in
          rw all (verdict_fails before (f n) (subst (λ (r : ℕ). 0 < r) number (some (first_not n p))) ∙ found)

  -- all pass exactly where each does
  pub join_hold : (n : ℕ) → first_failing (join_below n f) ≡ 0 → all_below n p ≡ true
  join_hold n e = go (all_below n p) refl
    where
      go : (b : Bool) → all_below n p ≡ b → all_below n p ≡ true
      go true all = all
      go false all =
          let found : verdict (join_below n f) ≡ v (first_not n p) = join_verdict n ∙ rw all in
          let number : first_failing (join_below n f) ≡ (v (first_not n p)).refusal = λ i. (found i).refusal in
          absurd (omega (arith, some (first_not n p)))

  pub join_pass : (n : ℕ) → all_below n p ≡ true → first_failing (join_below n f) ≡ 0
  join_pass n all =
      let none : verdict (join_below n f) ≡ passed = join_verdict n ∙ rw all in
      (λ i. (none i).refusal)

-- a field that stands n times is n tests with one number
module _ (number : ℕ) (some : 0 < number) (fault : ℕ → Fault) (p : ℕ → Bool) where
  abbrev field_test : ℕ → Test
  field_test i = test_at number (fault i) (not (p i))

  abbrev broken : ℕ → Verdict
  broken i = record { refusal = number; fault = fault i }

  one_test : (i : ℕ) → verdict (field_test i ∷ []) ≡ cond (p i) passed (broken i)
  unfolding first_failing first_fault
  one_test i = go (p i)
    where
      go : (b : Bool) → verdict (test_at number (fault i) (not b) ∷ []) ≡ cond b passed (broken i)
      go true = refl
      go false = refl

  pub fields_numbered : (n : ℕ) → Numbered (list_below n field_test)
  fields_numbered = each_join (λ t. 0 < t.number) (λ i. field_test i ∷ []) (λ i. (some, tt))

  pub fields_verdict : (n : ℕ) → verdict (list_below n field_test) ≡ cond (all_below n p) passed (broken (first_not n p))
  fields_verdict = join_verdict (λ i. field_test i ∷ []) p broken (λ i. (some, tt)) (λ i. some) one_test

  pub fields_hold : (n : ℕ) → first_failing (list_below n field_test) ≡ 0 → all_below n p ≡ true
  fields_hold = join_hold (λ i. field_test i ∷ []) p broken (λ i. (some, tt)) (λ i. some) one_test

  pub fields_pass : (n : ℕ) → all_below n p ≡ true → first_failing (list_below n field_test) ≡ 0
  fields_pass = join_pass (λ i. field_test i ∷ []) p broken (λ i. (some, tt)) (λ i. some) one_test

  -- the first that breaks its rule is the one that is answered
  pub fields_first : {i n : ℕ} → i ≡ first_not n p → i < n → verdict (list_below n field_test) ≡ broken i
  fields_first {i} {n} e l = fields_verdict n ∙ rw (first_below p e l, ← e)
