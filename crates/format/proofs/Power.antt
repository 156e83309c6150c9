-- Powers of two: they are exactly the numbers with one set digit, their trailing zeros are the exponent, and blocksizes are such powers.
use mathlib.Core.Path.{◌≡◌, refl, sym, ap, ◌∙◌, subst}
use mathlib.Core.Bool.{Bool, true, false, false≢true}
use Prim.Native.Nat.{ℕ, zero, suc, ◌+◌, ◌-◌, ◌*◌, ◌/◌, ◌%◌, ◌^◌, ◌<◌, ◌≤◌}
use native.Mathlib.Nat.{mod-lt, div-add-mod', pow-suc, le_of_suc-le-suc, div-lt_iff_lt-mul, one-mul, add-zero, lt_of_not-le, not-le_of_lt, le_trans, le_of_eq}
use native.Mathlib.Omega.{arith}
use borrow.Author.Tests.{eqb-true, eq-eqb, ne_eqb}
use lib.Arith.{lt-one}
use lib.Count.{ones, ones_step, ones_cat, count_trailing_zeros, under}
use lib.Dec.{eqb, lit<}
use lib.IntN.{pos}
use lib.Pow.{pow_pos, pow-add, pow_mono}
use Rattle.endian.specs.Signed.{within}
use Rattle.lists.proofs.Below.{and_left, and_right, any_at, any_of}
use Rattle.format.specs.Limits.{word_bits, min_blocksize, max_blocksize, max_size, power_of_two, blocksize_rule}
use Rattle.endian.proofs.Signed.{within_facts, within_holds}

half_lt : {n : ℕ} (k : ℕ) → n < 2 ^ suc k → n / 2 < 2 ^ k
half_lt {n} k h = (div-lt_iff_lt-mul (lit< tt)).1 (subst (λ (x : ℕ). n < x) (pow-suc 2 k) h)

-- a number with no set digit is 0
ones_zero : (k n : ℕ) → n < 2 ^ k → ones n ≡ 0 → n ≡ 0
ones_zero zero n h e = lt-one h
ones_zero (suc k) n h e =
    let s = ones_step n in
    let q : n / 2 ≡ 0 = ones_zero k (n / 2) (half_lt k h) (omega arith) in
    omega (arith, div-add-mod' n 2)

-- a number with one set digit is the power that its trailing zeros say
ones_one : (k b : ℕ) → b < 2 ^ k → ones b ≡ 1 → b ≡ 2 ^ count_trailing_zeros k b
unfolding ones count_trailing_zeros
ones_one zero b h e = absurd (let z : ones b ≡ 0 = ap ones (lt-one h) in omega arith)
ones_one (suc k) b h e = go (b % 2) refl (λ q. ones_one k (b / 2) (half_lt k h) q)
  where
    go : (d : ℕ) → b % 2 ≡ d → (ones (b / 2) ≡ 1 → b / 2 ≡ 2 ^ count_trailing_zeros k (b / 2)) → b ≡ 2 ^ under d (count_trailing_zeros k (b / 2))
    go zero z rest =
        let i = rest (omega (arith, ones_step b)) in
        rw pow-suc (omega (arith, div-add-mod' b 2))
    go (suc d) z rest =
        let m = mod-lt b (lit< {m = 0} {n = 2} tt) in
        let q : b / 2 ≡ 0 = ones_zero k (b / 2) (half_lt k h) (omega (arith, ones_step b)) in
        omega (arith, div-add-mod' b 2)

-- and it has fewer than k of them
ones_one_lt : (k b : ℕ) → b < 2 ^ k → ones b ≡ 1 → count_trailing_zeros k b < k
ones_one_lt k b h e =
    lt_of_not-le (λ (g : k ≤ count_trailing_zeros k b). not-le_of_lt h (le_trans (pow_mono g) (le_of_eq (sym (ones_one k b h e)))))

ones_power : (j : ℕ) → ones (2 ^ j) ≡ 1
unfolding ones
ones_power j = ap ones (sym (one-mul (2 ^ j)) ∙ sym (add-zero (1 * 2 ^ j))) ∙ ones_cat j 1 0 (pow_pos j)

-- the test holds of 2 ^ j alone, for each j below the digits of a word
pub power_of_two_holds : (b : ℕ) → power_of_two b ≡ true → (j : ℕ) × (b ≡ 2 ^ j)
unfolding power_of_two
power_of_two_holds b e =
    let r = any_at (λ j. eqb b (2 ^ j)) word_bits e in
    (r.0, eqb-true b (2 ^ r.0) r.2)

power_holds : (j : ℕ) → j < word_bits → power_of_two (2 ^ j) ≡ true
unfolding power_of_two
power_holds j l = any_of (λ i. eqb (2 ^ j) (2 ^ i)) word_bits j l (eq-eqb (2 ^ j) (2 ^ j) refl)

-- a power of two that is no greater than the greatest blocksize
pub power_within : (b j : ℕ) → b ≡ 2 ^ j → b ≤ max_blocksize → power_of_two b ≡ true
power_within b j e l = rw e (power_holds j (lt_of_not-le (λ (g : word_bits ≤ j). omega (arith, pow_mono g))))

-- a count of ones equal to one proves the power of two, and no other count does
pub count_decides : (b : ℕ) → b < 2 ^ word_bits → eqb (ones b) 1 ≡ power_of_two b
count_decides b h = go (power_of_two b) refl
  where
    go : (t : Bool) → power_of_two b ≡ t → eqb (ones b) 1 ≡ t
    go true e =
        let r = power_of_two_holds b e in
        eq-eqb (ones b) 1 (ap ones r.1 ∙ ones_power r.0)
    go false e =
        ne_eqb (ones b) 1
        (λ o. false≢true (sym e ∙ ap power_of_two (ones_one word_bits b h o) ∙ power_holds (count_trailing_zeros word_bits b) (ones_one_lt word_bits b h o)))

-- a blocksize is a power of two between its limits, and each such power is one
pub blocksize_facts : (b : ℕ) → blocksize_rule (pos b) ≡ true → (min_blocksize ≤ b) × (b ≤ max_blocksize) × (power_of_two b ≡ true)
unfolding blocksize_rule
blocksize_facts b e =
    let w = within_facts min_blocksize max_blocksize b (and_left (within min_blocksize max_blocksize (pos b)) (power_of_two b) e) in
    (w.0, w.1, and_right (within min_blocksize max_blocksize (pos b)) (power_of_two b) e)

pub blocksize_holds : (b : ℕ) → min_blocksize ≤ b → b ≤ max_blocksize → power_of_two b ≡ true → blocksize_rule (pos b) ≡ true
unfolding blocksize_rule
blocksize_holds b l h p = rw (within_holds min_blocksize max_blocksize b l h) p

-- the exponent of a blocksize of k digits
pub blocksize_power : (k b : ℕ) → b < 2 ^ k → blocksize_rule (pos b) ≡ true → b ≡ 2 ^ count_trailing_zeros k b
blocksize_power k b h e =
    let r = power_of_two_holds b (blocksize_facts b e).2 in
    ones_one k b h (ap ones r.1 ∙ ones_power r.0)

-- the greatest size is a multiple of every blocksize
pub blocksize_divides : (b : ℕ) → blocksize_rule (pos b) ≡ true → (q : ℕ) × (max_size ≡ q * b)
blocksize_divides b e =
    let f = blocksize_facts b e in
    let (j, p) = power_of_two_holds b f.2 in
    let small : j ≤ 30 = le_of_suc-le-suc (lt_of_not-le (λ (g : 31 ≤ j). omega (arith, pow_mono g))) in
    let whole : 30 ≡ 30 - j + j = omega arith in
    (2 ^ (30 - j), ap (λ (k : ℕ). 2 ^ k) whole ∙ pow-add 2 (30 - j) j ∙ ap (λ (x : ℕ). 2 ^ (30 - j) * x) (sym p))
