-- What numbers within the limits give: bounds on each size and on each part of an offset, far below what 64 bits hold.
use mathlib.Core.Path.{◌≡◌, sym}
use mathlib.Core.Bool.{true}
use mathlib.Core.List.{List}
use Prim.Native.Nat.{ℕ, ◌+◌, ◌*◌, ◌≤◌, ◌<◌}
use native.Mathlib.Nat.{mul-le-mul, mul-le-mul_right, le_refl, le_trans, le_of_eq}
use native.Mathlib.Omega.{arith}
use lib.IntN.{pos}
use lib.ListN.{get_or}
use Rattle.endian.specs.Signed.{within}
use Rattle.lists.proofs.Below.{all_at, all_of, sum_le}
use Rattle.format.specs.Limits.{max_tasks, max_size, max_blocks, blocksize_rule, sizes_rule, Sound}
use Rattle.format.specs.Layout.{meta1_end, round_up, data_start, extended, extended_before, globalskip, meta2_length}
use Rattle.format.proofs.Power.{blocksize_facts, blocksize_divides}
use Rattle.format.proofs.Rounding.{round_up_least}
use Rattle.endian.proofs.Signed.{within_facts}

-- the greatest size is a multiple of every blocksize, so that rounding up to one does not go over it
pub round_up_small : (b x : ℕ) → blocksize_rule (pos b) ≡ true → x ≤ max_size → round_up b x ≤ max_size
round_up_small b x e l =
    let f = blocksize_facts b e in
    let m = blocksize_divides b e in
    le_trans (round_up_least b x m.0 (omega arith) (omega arith)) (le_of_eq (sym m.1))

pub data_start_small : (b n : ℕ) → blocksize_rule (pos b) ≡ true → n ≤ max_tasks → data_start b n ≤ max_size
unfolding data_start meta1_end
data_start_small b n e l = round_up_small b (meta1_end n) e (omega arith)

pub meta2_length_small : (n m : ℕ) → n ≤ max_tasks → m ≤ max_blocks → meta2_length n m ≤ 8 * max_tasks * (1 + max_blocks)
unfolding meta2_length
meta2_length_small n m l h =
    let words : 8 * n ≤ 8 * max_tasks = omega arith in
    let rows : 1 + m ≤ 1 + max_blocks = omega arith in
    mul-le-mul words rows

module _ {b n : ℕ} {sizes : List ℕ} (sound : Sound b n sizes) where
  pub sound_size : (i : ℕ) → i < n → (1 ≤ get_or sizes i 0) × (get_or sizes i 0 ≤ max_size)
  unfolding sizes_rule
  sound_size i l =
      within_facts 1 max_size (get_or sizes i 0) (all_at (λ j. within 1 max_size (pos (get_or sizes j 0))) n i l sound.sized)

  -- the first tasks of sound ones are sound
  pub sound_fewer : (m : ℕ) → m ≤ n → Sound b m sizes
  unfolding sizes_rule
  sound_fewer m l = record {
    block = sound.block;
    tasks = omega arith;
    listed = omega arith;
    sized = all_of _ m (λ i h. all_at (λ j. within 1 max_size (pos (get_or sizes j 0))) n i (omega arith) sound.sized);
  }

  pub extended_before_small : (i : ℕ) → i ≤ n → extended_before b (λ j. get_or sizes j 0) i ≤ max_tasks * max_size
  unfolding extended_before extended
  extended_before_small i l =
      le_trans
      (sum_le (λ j. extended b (get_or sizes j 0)) i max_size
      (λ j h. round_up_small b (get_or sizes j 0) sound.block (sound_size j (omega arith)).1))
      (mul-le-mul_right max_size (le_trans l sound.tasks))

  globalskip_small : globalskip b n (λ j. get_or sizes j 0) ≤ max_tasks * max_size
  unfolding globalskip
  globalskip_small = extended_before_small n (le_refl n)

  -- m rounds of chunks
  pub rounds_small : (m : ℕ) → m ≤ max_blocks → m * globalskip b n (λ j. get_or sizes j 0) ≤ max_blocks * (max_tasks * max_size)
  rounds_small m l = mul-le-mul l globalskip_small
