-- Fields that are read without a sign: a rule that bounds each field by less than the sign bit says the same of the signed fields and of their
-- unsigned readings.
use mathlib.Core.Path.{◌≡◌, refl, sym, ap, ap₂, ◌∙◌}
use mathlib.Core.Bool.{Bool, true, false, not, ◌&&◌}
use Prim.Native.Nat.{ℕ, ◌^◌, ◌<◌, ◌≤◌}
use native.Mathlib.Omega.{arith}
use lib.Dec.{ltb, eqb}
use lib.IntN.{ℤ, pos}
use borrow.Author.Tests.{ltb-true, ltb-false, ne_eqb}
use Rattle.lists.specs.Below.{all_below, greatest_below}
use Rattle.endian.specs.Signed.{signed, within, same_z, natural}
use Rattle.lists.proofs.Below.{all_at, all_cong, greatest_cong}
use Rattle.endian.proofs.Signed.{signed_low, signed_high, within_facts, within_signed}
use Rattle.format.specs.Limits.{max_rank, is_new, rank_rule}
use Rattle.format.specs.Meta2.{least_count, counts_rule}

-- two tests that agree where a first one holds
and_agree : (a b c : Bool) → (a ≡ true → b ≡ c) → (a && b) ≡ (a && c)
and_agree true b c h = h refl
and_agree false b c h = refl

-- a field compares with one below the sign bit as its unsigned reading does
same_signed : (h m n : ℕ) → n < 2 ^ h → same_z (signed h m) (signed h n) ≡ eqb m n
same_signed h m n l = rw (signed_low h n l) (go (ltb m (2 ^ h)) refl)
  where
    go : (b : Bool) → ltb m (2 ^ h) ≡ b → same_z (signed h m) (pos n) ≡ eqb m n
    go true e = rw (signed_low h m (ltb-true _ _ e))
    go false e =
        let high : 2 ^ h ≤ m = ltb-false _ _ e in
        rw (signed_high h m high) (sym (ne_eqb m n (λ e. omega arith)))

-- n fields of h + 1 bits, f their bits, and g a reading of them
module _ (h n : ℕ) (f g : ℕ → ℕ) (reads : (i : ℕ) → i < n → g i ≡ f i) where
  -- a range test of each says the same of both
  pub all_unsigned : (lo hi : ℕ) → hi < 2 ^ h
      → all_below n (λ i. within lo hi (pos (g i))) ≡ all_below n (λ i. within lo hi (signed h (f i)))
  all_unsigned lo hi l =
      all_cong (λ i. within lo hi (pos (g i))) (λ i. within lo hi (signed h (f i))) n
      (λ i m. ap (λ (v : ℕ). within lo hi (pos v)) (reads i m) ∙ sym (within_signed lo hi h (f i) l))

  -- where the test holds, each field is what is read
  field_unsigned : (lo hi : ℕ) → hi < 2 ^ h → all_below n (λ i. within lo hi (pos (g i))) ≡ true
      → (i : ℕ) → i < n → pos (g i) ≡ signed h (f i)
  field_unsigned lo hi l e i m =
      let w = within_facts lo hi (g i) (all_at (λ j. within lo hi (pos (g j))) n i m e) in
      let small : f i < 2 ^ h = omega (arith, reads i m) in
      ap pos (reads i m) ∙ sym (signed_low h (f i) small)

  pub natural_unsigned : (lo hi : ℕ) → hi < 2 ^ h → all_below n (λ i. within lo hi (pos (g i))) ≡ true
      → (i : ℕ) → i < n → g i ≡ natural (signed h (f i))
  natural_unsigned lo hi l e i m = ap natural (field_unsigned lo hi l e i m)

  -- so does a rule that has a range test first, and then looks at the n fields alone
  rule_unsigned : (lo hi : ℕ) → hi < 2 ^ h → (rest : (ℕ → ℤ) → Bool)
      → ((x y : ℕ → ℤ) → ((i : ℕ) → i < n → x i ≡ y i) → rest x ≡ rest y)
      → (all_below n (λ i. within lo hi (pos (g i))) && rest (λ i. pos (g i)))
      ≡ (all_below n (λ i. within lo hi (signed h (f i))) && rest (λ i. signed h (f i)))
  rule_unsigned lo hi l rest same =
      and_agree (all_below n (λ i. within lo hi (pos (g i)))) (rest (λ i. pos (g i))) (rest (λ i. signed h (f i)))
      (λ e. same (λ i. pos (g i)) (λ i. signed h (f i)) (field_unsigned lo hi l e))
      ∙ ap (λ (b : Bool). b && rest (λ i. signed h (f i))) (all_unsigned lo hi l)

  -- a rank, ranks, sizes and counts
  pub rank_unsigned : max_rank < 2 ^ h → (i : ℕ) → i < n → rank_rule (λ i. pos (g i)) i ≡ rank_rule (λ i. signed h (f i)) i
  unfolding rank_rule is_new
  rank_unsigned l i m =
      and_agree _ (is_new (λ i. pos (g i)) i) (is_new (λ i. signed h (f i)) i)
      (λ e.
      let w = within_facts 0 max_rank (g i) e in
      all_cong (λ j. not (same_z (pos (g j)) (pos (g i)))) (λ j. not (same_z (signed h (f j)) (signed h (f i)))) i
      (λ j k. ap not (ap₂ (λ (a b : ℕ). eqb a b) (reads j (omega arith)) (reads i m) ∙ sym (same_signed h (f j) (f i) (omega (arith, reads i m))))))
      ∙ ap (λ (b : Bool). b && is_new (λ i. signed h (f i)) i)
      (ap (λ (v : ℕ). within 0 max_rank (pos v)) (reads i m) ∙ sym (within_signed 0 max_rank h (f i) l))

  pub counts_unsigned : (format maxchunks : ℕ) → maxchunks < 2 ^ h
      → counts_rule format n maxchunks (λ i. pos (g i)) ≡ counts_rule format n maxchunks (λ i. signed h (f i))
  unfolding counts_rule
  counts_unsigned format maxchunks l =
      rule_unsigned (least_count format) maxchunks l (λ x. eqb (greatest_below n (λ i. natural (x i))) maxchunks)
      (λ x y same.
      ap (λ (m : ℕ). eqb m maxchunks) (greatest_cong (λ i. natural (x i)) (λ i. natural (y i)) n (λ i m. ap natural (same i m))))
