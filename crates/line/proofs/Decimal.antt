-- What `{}` writes of a number is the decimal of the specification: both take the last digit off and go on with the tenth.
use Rattle.std.proofs.Common.{◌≡◌, refl, Bool, true, false, cond, ℕ, zero, suc, ◌+◌, ◌/◌, ◌%◌, ◌^◌, ◌≤◌, ◌<◌, List, [], ◌∷◌, ◌++◌, ap, ◌∙◌, arith}
use native.Mathlib.Nat.{pow-suc}
use lib.Dec.{ltb}
use borrow.Author.Tests.{ltb-true, ltb-false}
use Rattle.std.specs.Fmt.{decimal as written}
use Rattle.std.proofs.lemmas.Fmt.{decimal_digit, decimal_step}
use Rattle.format.specs.Line.{places, last_digits, decimal, widest}

-- a number that needs no more than `most` digits after the first
digits_are : (most n : ℕ) → n < 10 ^ suc most → n < 2 ^ 64 → written n ≡ last_digits (places most n) n
digits_are zero n few small =
    let one : n < 10 = omega (arith, pow-suc 10 0) in
    rw (decimal_digit n one) (ap (λ (d : ℕ). (48 + d) ∷ []) (omega arith))
digits_are (suc most) n few small = by_digit (ltb n 10) refl (λ fewer. digits_are most (n / 10) fewer (omega arith))
  where
    by_digit : (b : Bool) → ltb n 10 ≡ b → (n / 10 < 10 ^ suc most → written (n / 10) ≡ last_digits (places most (n / 10)) (n / 10))
        → written n ≡ last_digits (cond b 1 (suc (places most (n / 10)))) n
    by_digit true t rest = let one : n < 10 = ltb-true n 10 t in rw (decimal_digit n one) (ap (λ (d : ℕ). (48 + d) ∷ []) (omega arith))
    by_digit false f rest =
        let more : 10 ≤ n = ltb-false n 10 f in
        decimal_step n more small ∙ ap (λ (ds : List ℕ). ds ++ ((48 + n % 10) ∷ [])) (rest (omega (arith, pow-suc 10 (suc most))))

pub decimal_is : (n : ℕ) → n < 2 ^ 64 → written n ≡ decimal n
decimal_is n small = digits_are widest n (omega arith) small
