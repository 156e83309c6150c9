-- Laws of what is answered about a container: a chunk size is given for every number that an opening takes; zeros that follow a prefix do not count,
-- and the prefix that an opening was given is found again in META1.
use mathlib.Core.Path.{◌≡◌, refl, sym, ap, ◌∙◌}
use mathlib.Core.Bool.{Bool, true, false, cond}
use mathlib.Core.List.{List, [], ◌∷◌, ◌++◌}
use Prim.Native.Nat.{ℕ, zero, suc, ◌+◌, ◌-◌, ◌≤◌, ◌<◌}
use native.Mathlib.Omega.{arith}
use lib.Dec.{eqb}
use lib.IntN.{pos}
use lib.ListN.{length, take, drop, replicate}
use lib.Seq.{take-take, take-append-le}
use Rattle.format.specs.Meta1.{prefix_at, prefix_length, padded}
use Rattle.format.specs.About.{size_tests, chunk_size_answer, before_zero}
use Rattle.endian.specs.Signed.{within}
use Rattle.format.specs.Limits.{max_size, blocksize_rule}
use Rattle.format.specs.Layout.{capacity}
use Rattle.format.specs.Refusals.{first_failing}
use Rattle.format.specs.Container.{InBounds}
use Rattle.endian.proofs.Signed.{within_holds}
use Rattle.format.proofs.Power.{blocksize_holds, power_within}

-- a chunk size, by the rules of the blocksize and of the size
module _ (size b : ℕ) where
  pub size_given : blocksize_rule (pos b) ≡ true → within 1 max_size (pos size) ≡ true
      → chunk_size_answer size b ≡ record { refusal = 0; bytes = capacity b size }
  unfolding chunk_size_answer size_tests first_failing
  size_given block fits = rw (block, fits)

  pub size_refused_5 : blocksize_rule (pos b) ≡ false → chunk_size_answer size b ≡ record { refusal = 5; bytes = 0 }
  unfolding chunk_size_answer size_tests first_failing
  size_refused_5 block = rw block

  pub size_refused_9 : blocksize_rule (pos b) ≡ true → within 1 max_size (pos size) ≡ false
      → chunk_size_answer size b ≡ record { refusal = 9; bytes = 0 }
  unfolding chunk_size_answer size_tests first_failing
  size_refused_9 block fits = rw (block, fits)

-- so of every task within the bounds
pub size_bounded : {b n : ℕ} {rank size : ℕ → ℕ} → InBounds b n rank size → (i : ℕ) → i < n
    → chunk_size_answer (size i) b ≡ record { refusal = 0; bytes = capacity b (size i) }
size_bounded {b} h i l =
    let (j, e) = h.blocksize_power in
    let r = h.blocksize_range in
    let s = h.sizes_range i l in
    size_given _ b (blocksize_holds b r.0 r.1 (power_within b j e r.1)) (within_holds 1 max_size _ s.0 s.1)

pub before_zero_zeros : (xs : List ℕ) (k : ℕ) → before_zero (xs ++ replicate k 0) ≡ before_zero xs
unfolding before_zero
before_zero_zeros [] zero = refl
before_zero_zeros [] (suc k) = refl
before_zero_zeros (x ∷ xs) k = ap (λ (n : ℕ). cond (eqb x 0) 0 (1 + n)) (before_zero_zeros xs k)

pub before_zero_le : (xs : List ℕ) → before_zero xs ≤ length xs
unfolding before_zero
before_zero_le [] = omega arith
before_zero_le (x ∷ xs) = go (eqb x 0) (before_zero_le xs)
  where
    go : (b : Bool) → before_zero xs ≤ length xs → cond b 0 (1 + before_zero xs) ≤ length (x ∷ xs)
    go true l = omega arith
    go false l = omega arith

-- where the field of the prefix holds a prefix and zeros
module _ (image prefix : List ℕ) (short : length prefix ≤ prefix_length)
    (there : take prefix_length (drop prefix_at image) ≡ padded prefix) where
  pub prefix_found : before_zero (take prefix_length (drop prefix_at image)) ≡ before_zero prefix
  prefix_found = ap before_zero there ∙ before_zero_zeros prefix (prefix_length - length prefix)

  pub prefix_bytes : take (before_zero prefix) (drop prefix_at image) ≡ take (before_zero prefix) prefix
  prefix_bytes =
      let few = before_zero_le prefix in
      sym (take-take (before_zero prefix) prefix_length (drop prefix_at image) (omega (arith, few)))
      ∙ ap (take (before_zero prefix)) there ∙ take-append-le (before_zero prefix) prefix _ few
