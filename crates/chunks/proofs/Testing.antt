-- Tests that follow others: a refusal by the first is the answer, and where these pass it is the answer of the next.
use mathlib.Core.Path.{◌≡◌, sym, ◌∙◌}
use mathlib.Core.List.{List, ◌++◌}
use Prim.Native.Nat.{ℕ}
use native.Mathlib.Omega.{arith}
use Rattle.format.specs.declared.refusal.Refusal.{Refusal}
use Rattle.format.specs.Refusals.{Test, first_failing, number_of}
use Rattle.format.proofs.Refusals.{Numbered, some_number, first_fails, first_passes}

module _ (xs ys : List Test) where
  pub first_refuses : (refusal : Refusal) → number_of refusal ≡ first_failing xs → number_of refusal ≡ first_failing (xs ++ ys)
  first_refuses refusal e = e ∙ sym (first_fails xs ys (omega (arith, some_number refusal)))

  pub next_answers : {number : ℕ} → Numbered xs → 0 ≡ first_failing xs → number ≡ first_failing ys → number ≡ first_failing (xs ++ ys)
  next_answers above passes e = e ∙ sym (first_passes xs ys above (sym passes))
