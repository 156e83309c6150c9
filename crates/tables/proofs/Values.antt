-- What a value's bits say of its rule, against their top bit and a mask of all ones or none, and the number that a value is.
use Rattle.std.proofs.Common.{◌≡◌, ℕ, zero, suc, ◌+◌, ◌-◌, ◌/◌, ◌%◌, ◌^◌, ◌<◌, Bool, true, false, cond, ◌&&◌, T, ltb, leb, ℤ, pos, negsuc, nat_abs, sym, refl, ◌∙◌, ap₂, zero-le, mod-eq_of_lt, arith, w64, Fits, SFits, ltb-false, ltb-true, le-ltb, lt-ltb, ne_eqb, le-leb, leb-false, leb-true}
use borrow.Author.Tests.{lt-leb}
use lib.Bits.{bit_and, bit_or, bit_xor, or_lt, or_add_and, and_le_l, and_le_r, and_mask, and_zero_l, and_zero_r, and_shr, xor_add_and, xor_zero_r}
use lib.Signed.{lt_z, non_neg, mag}
use Rattle.endian.specs.Signed.{bits_of}
use Rattle.format.specs.Meta2.{value_rule}

abbrev ones : ℕ
ones = 18446744073709551615

-- the top bit of two numbers together
pub or_top : (a b : ℕ) → ltb (bit_or a b) (2 ^ 63) ≡ (ltb a (2 ^ 63) && ltb b (2 ^ 63))
or_top a b = go (ltb a (2 ^ 63)) (ltb b (2 ^ 63)) refl refl
  where
    go : (p q : Bool) → ltb a (2 ^ 63) ≡ p → ltb b (2 ^ 63) ≡ q → ltb (bit_or a b) (2 ^ 63) ≡ (p && q)
    go true true e f = lt-ltb _ _ (or_lt 63 a b (ltb-true a (2 ^ 63) e) (ltb-true b (2 ^ 63) f))
    go true false e f = le-ltb (bit_or a b) (2 ^ 63) (omega (arith, ltb-false b (2 ^ 63) f, or_add_and a b, and_le_l a b))
    go false q e f = le-ltb (bit_or a b) (2 ^ 63) (omega (arith, ltb-false a (2 ^ 63) e, or_add_and a b, and_le_r a b))

-- neither b nor d, which is lim less b and wraps, has the top bit exactly where b is at most lim
pub at_most : (lim b d : ℕ) → lim < 2 ^ 63 → b < 2 ^ 64 → d < 2 ^ 64 → (d + b) % 2 ^ 64 ≡ lim
    → (ltb b (2 ^ 63) && ltb d (2 ^ 63)) ≡ leb b lim
at_most lim b d h l m e = go (leb b lim) refl (ltb b (2 ^ 63)) refl
  where
    go : (q : Bool) → leb b lim ≡ q → (p : Bool) → ltb b (2 ^ 63) ≡ p → (p && ltb d (2 ^ 63)) ≡ q
    go true f true g = let u = leb-true b lim f in lt-ltb d (2 ^ 63) (omega arith)
    go true f false g = let u = leb-true b lim f in let v = ltb-false b (2 ^ 63) g in absurd (omega arith)
    go false f true g = let u = leb-false b lim f in let v = ltb-true b (2 ^ 63) g in le-ltb d (2 ^ 63) (omega arith)
    go false f false g = refl

-- of all ones: what they leave, and turn round
and_all : (b : ℕ) → b < 2 ^ 64 → bit_and b ones ≡ b
and_all b l = and_mask b 64 ∙ mod-eq_of_lt l

xor_all : (b : ℕ) → b < 2 ^ 64 → bit_xor b ones ≡ ones - b
xor_all b l = omega (arith, xor_add_and b ones, and_all b l)

-- the machine's difference of two words, with the second added again
pub sub_wraps : (a b : ℕ) → a < 2 ^ 64 → b < 2 ^ 64 → ((a + (2 ^ 64 - b)) % 2 ^ 64 + b) % 2 ^ 64 ≡ a
sub_wraps a b l m = omega arith

pub sub_small : (a b : ℕ) → (a + (2 ^ 64 - b)) % 2 ^ 64 < 2 ^ 64
sub_small a b = omega arith

-- a number that wraps to 0 with a bit added
bit_none : (r : ℕ) → r < 2 ^ 64 → (r + 0) % 2 ^ 64 ≡ 0 → r ≡ 0
bit_none r l e = omega arith

bit_one : (r : ℕ) → r < 2 ^ 64 → (r + 1) % 2 ^ 64 ≡ 0 → r ≡ ones
bit_one r l e = omega arith

-- chunk k + 1 is not used where the count has no top bit, and the count less k + 1, which wraps, has it; the mask is 0 less that bit
pub top_small : (d e : ℕ) → d < 2 ^ 64 → bit_and d e / 2 ^ 63 < 2 ^ 64
top_small d e l = omega (arith, and_le_l d e)

pub mask_is : (count k d r : ℕ) → k < 2 ^ 63 → count < 2 ^ 64 → d < 2 ^ 64 → (d + (k + 1)) % 2 ^ 64 ≡ count → r < 2 ^ 64
    → (r + bit_and d (ones - count) / 2 ^ 63) % 2 ^ 64 ≡ 0 → r ≡ cond (ltb k count) 0 ones
mask_is count k d r small hc hd e hr f = go (ltb k count) refl (ltb count (2 ^ 63)) refl
  where
    -- the bit, where the top bits of d and of the count turned round are x and y
    bit : (x y : ℕ) → d / 2 ^ 63 ≡ x → (ones - count) / 2 ^ 63 ≡ y → bit_and d (ones - count) / 2 ^ 63 ≡ bit_and x y
    bit x y p q = and_shr d (ones - count) 63 ∙ ap₂ bit_and p q

    go : (u : Bool) → ltb k count ≡ u → (p : Bool) → ltb count (2 ^ 63) ≡ p → r ≡ cond u 0 ones
    go true g true h =
        let u = ltb-true k count g in
        let v = ltb-true count (2 ^ 63) h in
        bit_none r hr (rw (bit 0 _ (omega arith) refl ∙ and_zero_l ((ones - count) / 2 ^ 63)) at f)
    go true g false h =
        let v = ltb-false count (2 ^ 63) h in
        bit_none r hr (rw (bit _ 0 refl (omega arith) ∙ and_zero_r (d / 2 ^ 63)) at f)
    go false g p h =
        let u = ltb-false k count g in
        bit_one r hr (rw (bit 1 1 (omega arith) (omega arith)) at f)

-- the bits of a value, turned round where its chunk is not used, are at most what the chunk holds, or 0, exactly where it keeps its rule
module _ (holds : ℕ) (small : holds < 2 ^ 63) where
  used_bits : (z : ℤ) → mag z < 2 ^ 63 → leb (bits_of 63 z) holds ≡ value_rule true holds z
  unfolding value_rule
  used_bits (pos n) l = rw (le-leb 0 n zero-le)
  used_bits (negsuc n) l = lt-leb (bits_of 63 (negsuc n)) holds (omega arith)

  unused_bits : (z : ℤ) → mag z < 2 ^ 63 → leb (ones - bits_of 63 z) 0 ≡ value_rule false holds z
  unfolding value_rule
  unused_bits (pos n) l = lt-leb (ones - n) 0 (omega arith)
  unused_bits (negsuc zero) l = le-leb (ones - bits_of 63 (negsuc 0)) 0 (omega arith)
  unused_bits (negsuc (suc n)) l =
      lt-leb (ones - bits_of 63 (negsuc (suc n))) 0 (omega arith) ∙ sym (ne_eqb (suc n) 0 (λ e. omega arith))

  pub masked : (used : Bool) (z : ℤ) {bits m : ℕ} → mag z < 2 ^ 63 → bits ≡ bits_of 63 z → bits < 2 ^ 64 → m ≡ cond used 0 ones
      → leb (bit_xor bits m) (bit_and holds (ones - m)) ≡ value_rule used holds z
  masked true z l f b e = rw (e, xor_zero_r, and_all holds (omega arith), f) (used_bits z l)
  masked false z {bits} l f b e = rw (e, and_zero_r, xor_all bits b, f) (unused_bits z l)

-- a value that is not negative is a number without a sign
pub value_casts : (z : ℤ) → SFits w64 z → lt_z z (pos 0) ≡ false → T (non_neg z) × Fits w64 (nat_abs z)
value_casts (pos n) f l = (tt, record { fits = omega arith })
value_casts (negsuc n) f l = absurd (let z : ◌≡◌ {A = ℕ} 0 1 = cc in omega arith)
