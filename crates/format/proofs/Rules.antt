-- The rules for lists of numbers and for META2 as facts about each of them, and back: where a rule holds, a number is not negative, in its range,
-- and so on.
use mathlib.Core.Path.{◌≡◌, refl, sym, ◌∙◌}
use mathlib.Core.Bool.{Bool, true, false, not, false≢true}
use Prim.Native.Nat.{ℕ, suc, ◌*◌, ◌≤◌, ◌<◌}
use native.Mathlib.Nat.{le_antisymm, le_of_suc-le-suc, lt_of_not-le, mul-le-mul_right}
use native.Mathlib.Omega.{arith}
use lib.Dec.{ltb, eqb}
use lib.IntN.{ℤ}
use borrow.Author.Tests.{lt-ltb, le-ltb, ltb-true, ltb-false, eqb-true, eq-eqb}
use Rattle.lists.specs.Below.{all_below, greatest_below}
use Rattle.endian.specs.Signed.{within, same_z, natural}
use Rattle.lists.proofs.Below.{and_left, and_right, all_at, all_of, all_cong, all_both, greatest_at, greatest_ge, greatest_le}
use Rattle.endian.proofs.Signed.{InRange, within_natural, same_z_eq, same_z_refl}
use Rattle.format.specs.Limits.{max_tasks, min_blocksize, max_blocksize, max_size, max_rank, power_of_two, tasks_rule, blocksize_rule, is_new, all_different, ranks_rule, rank_rule, sizes_rule}
use Rattle.format.specs.Meta2.{value_index, unused, value_rule, values_rule, least_count, counts_rule}

-- ---- blocksize, ranks and sizes

pub blocksize_natural : (z : ℤ) → blocksize_rule z ≡ true → InRange min_blocksize max_blocksize z
unfolding blocksize_rule
blocksize_natural z e = within_natural min_blocksize max_blocksize z (and_left _ (power_of_two (natural z)) e)

pub tasks_natural : (z : ℤ) → tasks_rule z ≡ true → InRange 1 max_tasks z
unfolding tasks_rule
tasks_natural z e = within_natural 1 max_tasks z e

module _ (n : ℕ) (rank : ℕ → ℤ) where
  ranks_apart : ranks_rule n rank ≡ true → (i j : ℕ) → j < i → i < n → rank j ≡ rank i → ⊥
  unfolding ranks_rule all_different is_new
  ranks_apart e i j l h same =
      let d = all_at _ i j l (all_at _ n i h (and_right (all_below n (λ i. within 0 max_rank (rank i))) (all_different n rank) e)) in
      false≢true (rw (same, same_z_refl) at d)

  pub ranks_within : ranks_rule n rank ≡ true → (i : ℕ) → i < n → within 0 max_rank (rank i) ≡ true
  unfolding ranks_rule
  ranks_within e i l = all_at (λ i. within 0 max_rank (rank i)) n i l (and_left _ (all_different n rank) e)

  pub ranks_differ : ranks_rule n rank ≡ true → (i j : ℕ) → i < n → j < n → rank i ≡ rank j → i ≡ j
  ranks_differ e i j l h same =
      le_antisymm
      (le_of_suc-le-suc (lt_of_not-le (λ (m : j < i). ranks_apart e i j m l (sym same))))
      (le_of_suc-le-suc (lt_of_not-le (λ (m : i < j). ranks_apart e j i m h same)))

  pub ranks_hold : ((i : ℕ) → i < n → within 0 max_rank (rank i) ≡ true)
      → ((i j : ℕ) → i < n → j < n → rank i ≡ rank j → i ≡ j) → ranks_rule n rank ≡ true
  unfolding ranks_rule all_different is_new
  ranks_hold range differ =
      rw (all_of (λ i. within 0 max_rank (rank i)) n range)
      (all_of _ n (λ i h. all_of _ i (λ j l. other i j l h (same_z (rank j) (rank i)) refl)))
    where
      other : (i j : ℕ) → j < i → i < n → (b : Bool) → same_z (rank j) (rank i) ≡ b → not b ≡ true
      other i j l h true e = absurd (omega (arith, differ j i (omega arith) h (same_z_eq (rank j) (rank i) e)))
      other i j l h false e = refl

  -- the rule of all is the rule of each
  pub ranks_each : ranks_rule n rank ≡ all_below n (rank_rule rank)
  unfolding ranks_rule all_different rank_rule
  ranks_each = sym (all_both (λ i. within 0 max_rank (rank i)) (is_new rank) n)

module _ (n : ℕ) (size : ℕ → ℤ) where
  pub sizes_within : sizes_rule n size ≡ true → (i : ℕ) → i < n → within 1 max_size (size i) ≡ true
  unfolding sizes_rule
  sizes_within e i l = all_at (λ i. within 1 max_size (size i)) n i l e

  pub sizes_hold : ((i : ℕ) → i < n → within 1 max_size (size i) ≡ true) → sizes_rule n size ≡ true
  unfolding sizes_rule
  sizes_hold range = all_of _ n range

-- ---- META2's counts

module _ (format n m : ℕ) (count : ℕ → ℤ) where
  pub counts_within : counts_rule format n m count ≡ true → (i : ℕ) → i < n → within (least_count format) m (count i) ≡ true
  unfolding counts_rule
  counts_within e i l = all_at (λ i. within (least_count format) m (count i)) n i l (and_left _ (eqb (greatest_below n (λ i. natural (count i))) m) e)

  pub counts_greatest : counts_rule format n m count ≡ true → 0 < n → (i : ℕ) × (i < n) × (natural (count i) ≡ m)
  unfolding counts_rule
  counts_greatest e some =
      let g = greatest_at (λ i. natural (count i)) n some in
      (g.0, g.1, g.2 ∙ eqb-true _ m (and_right (all_below n (λ i. within (least_count format) m (count i))) _ e))

  pub counts_hold : ((i : ℕ) → i < n → within (least_count format) m (count i) ≡ true) → (i : ℕ) → i < n → natural (count i) ≡ m
      → counts_rule format n m count ≡ true
  unfolding counts_rule
  counts_hold range i l top =
      let f : ℕ → ℕ = λ i. natural (count i) in
      rw (all_of (λ i. within (least_count format) m (count i)) n range)
      (eq-eqb (greatest_below n f) m
      (le_antisymm (greatest_le f n m (λ j h. (within_natural (least_count format) m (count j) (range j h)).2)) (omega (arith, greatest_ge f n i l))))

-- ---- META2's values: where they stand, those of used chunks, and the others

pub value_index_lt : (n m k i : ℕ) → i < n → k < m → value_index n k i < n * m
value_index_lt n m k i l h = omega (arith, mul-le-mul_right {m = suc k} {n = m} n h)

-- the rule looks at what the n tasks have, and at n·m values
pub values_agree : (n m : ℕ) (holds holds' count count' : ℕ → ℕ) (value value' : ℕ → ℤ)
    → ((i : ℕ) → i < n → holds i ≡ holds' i) → ((i : ℕ) → i < n → count i ≡ count' i) → ((j : ℕ) → j < n * m → value j ≡ value' j)
    → values_rule n m holds count value ≡ values_rule n m holds' count' value'
unfolding values_rule
values_agree n m holds holds' count count' value value' sizes counts values =
    all_cong _ _ m
    (λ k h.
    all_cong (λ i. value_rule (ltb k (count i)) (holds i) (value (value_index n k i)))
    (λ i. value_rule (ltb k (count' i)) (holds' i) (value' (value_index n k i))) n
    (λ i l. rw (sizes i l, counts i l, values (value_index n k i) (value_index_lt n m k i l h))))

module _ (n m : ℕ) (holds count : ℕ → ℕ) (value : ℕ → ℤ) where
  value_at : values_rule n m holds count value ≡ true → (i k : ℕ) → i < n → k < m
      → value_rule (ltb k (count i)) (holds i) (value (value_index n k i)) ≡ true
  unfolding values_rule
  value_at e i k l h = all_at _ n i l (all_at _ m k h e)

  pub values_used : values_rule n m holds count value ≡ true → (i k : ℕ) → i < n → k < m → k < count i
      → within 0 (holds i) (value (value_index n k i)) ≡ true
  unfolding value_rule
  values_used e i k l h u = rw (lt-ltb k (count i) u) at (value_at e i k l h)

  pub values_unused : values_rule n m holds count value ≡ true → (i k : ℕ) → i < n → k < m → count i ≤ k
      → value (value_index n k i) ≡ unused
  unfolding value_rule
  values_unused e i k l h u = same_z_eq (value (value_index n k i)) unused (rw (le-ltb k (count i) u) at (value_at e i k l h))

  pub values_hold : ((i k : ℕ) → i < n → k < m → k < count i → within 0 (holds i) (value (value_index n k i)) ≡ true)
      → ((i k : ℕ) → i < n → count i ≤ k → k < m → value (value_index n k i) ≡ unused) → values_rule n m holds count value ≡ true
  unfolding values_rule value_rule
  values_hold used other = all_of _ m (λ k h. all_of _ n (λ i l. go i k l h (ltb k (count i)) refl))
    where
      go : (i k : ℕ) → i < n → k < m → (b : Bool) → ltb k (count i) ≡ b → value_rule b (holds i) (value (value_index n k i)) ≡ true
      go i k l h true e = used i k l h (ltb-true _ _ e)
      go i k l h false e = rw (other i k l (ltb-false _ _ e) h) refl

  -- what holds of m chunks holds of fewer
  pub values_fewer : values_rule n m holds count value ≡ true → (k : ℕ) → k ≤ m → values_rule n k holds count value ≡ true
  unfolding values_rule
  values_fewer e k l = all_of _ k (λ j h. all_at _ m j (omega arith) e)
