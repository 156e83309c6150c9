-- Where chunks lie: after META1, each within its own blocks, and all before META2, for any number of tasks and any sizes; and how far META2 can
-- reach within the limits. Of what a chunk holds, the laws of its place use only `capacity_fits`.
use mathlib.Core.Path.{◌≡◌, ap, sym, ◌∙◌}
use mathlib.Core.Bool.{true}
use mathlib.Core.List.{List}
use Prim.Native.Nat.{ℕ, suc, ◌+◌, ◌-◌, ◌*◌, ◌/◌, ◌%◌, ◌^◌, ◌≤◌, ◌<◌}
use native.Mathlib.Nat.{le_refl, le_antisymm, lt_of_le_of_lt, lt_of_not-le, le_of_suc-le-suc, mul-add, mul-one}
use native.Mathlib.Nat.{add-mul, mul_assoc, suc-mul, mul-le-mul_left, mul-le-mul_right, mul-add-div_right, div-mul-le_self}
use native.Mathlib.Omega.{arith}
use lib.Arith.{digits_div, digits_mod}
use lib.IntN.{pos}
use lib.ListN.{get_or}
use Rattle.lists.proofs.Below.{sum_none, sum_more, sum_step, sum_cong, sum_multiple}
use Rattle.format.specs.Limits.{max_size, max_blocks, blocksize_rule, Sound}
use Rattle.format.specs.Layout.{meta1_end, data_start, extended, capacity, extended_before, globalskip, chunk_start, meta2_start, meta2_length, meta2_end}
use Rattle.format.proofs.Bounds.{round_up_small, data_start_small, rounds_small, meta2_length_small}
use Rattle.format.proofs.Rounding.{round_up_multiple, round_up_ge}

pub meta1_before_data : (b n : ℕ) → 0 < b → meta1_end n ≤ data_start b n
unfolding data_start
meta1_before_data b n h = round_up_ge b (meta1_end n) h

-- all that the laws of a chunk's place ask of `capacity`
capacity_fits : (b c : ℕ) → capacity b c ≤ extended b c
unfolding capacity
capacity_fits b c = le_refl (extended b c)

-- a chunk holds what was requested, and no chunk more than the greatest size
pub capacity_enough : (b c : ℕ) → 0 < b → c ≤ capacity b c
unfolding capacity extended
capacity_enough b c h = round_up_ge b c h

pub capacity_small : (b c : ℕ) → blocksize_rule (pos b) ≡ true → c ≤ max_size → capacity b c ≤ max_size
unfolding capacity extended
capacity_small b c e l = round_up_small b c e l

-- the extended sizes before the first task, and before the next one
pub extended_before_none : (b : ℕ) (size : ℕ → ℕ) → extended_before b size 0 ≡ 0
unfolding extended_before
extended_before_none b size = sum_none (λ j. extended b (size j))

pub extended_before_more : (b : ℕ) (size : ℕ → ℕ) (i : ℕ) → extended_before b size (i + 1) ≡ extended_before b size i + extended b (size i)
unfolding extended_before
extended_before_more b size i = sum_more (λ j. extended b (size j)) i

-- the extended sizes before a task, with its own, are at most those before a later one
pub extended_before_step : (b : ℕ) (size : ℕ → ℕ) (i n : ℕ) → i < n → extended_before b size i + extended b (size i) ≤ extended_before b size n
unfolding extended_before
extended_before_step b size i n l = sum_step (λ j. extended b (size j)) i n l

pub chunk_after_data : (b n : ℕ) (size : ℕ → ℕ) (task chunk : ℕ) → data_start b n ≤ chunk_start b n size task chunk
unfolding chunk_start
chunk_after_data b n size task chunk = omega arith

-- a chunk ends before its round of chunks does, and the last round ends where META2 starts
pub chunk_before_meta2 : (b n : ℕ) (size : ℕ → ℕ) (task chunk maxchunks : ℕ) → 1 ≤ task → task ≤ n → 1 ≤ chunk → chunk ≤ maxchunks
    → chunk_start b n size task chunk + capacity b (size (task - 1)) ≤ meta2_start b n size maxchunks
unfolding chunk_start meta2_start globalskip
chunk_before_meta2 b n size task chunk maxchunks t1 tn c1 cm =
    let whole : suc (chunk - 1) ≤ maxchunks = omega arith in
    omega (
      arith,
      capacity_fits b (size (task - 1)),
      extended_before_step b size (task - 1) n (omega arith),
      suc-mul (chunk - 1) (extended_before b size n),
      mul-le-mul_right (extended_before b size n) whole,
    )

-- every chunk starts at a multiple of b
extended_before_multiple : (b : ℕ) (size : ℕ → ℕ) (i : ℕ) → (q : ℕ) × (extended_before b size i ≡ q * b)
unfolding extended_before extended
extended_before_multiple b size i = sum_multiple (λ j. extended b (size j)) b i (λ j. round_up_multiple b (size j))

chunk_start_multiple : (b n : ℕ) (size : ℕ → ℕ) (task chunk : ℕ) → (q : ℕ) × (chunk_start b n size task chunk ≡ q * b)
unfolding chunk_start data_start globalskip
chunk_start_multiple b n size task chunk =
    let d = round_up_multiple b (meta1_end n) in
    let e = extended_before_multiple b size (task - 1) in
    let g = extended_before_multiple b size n in
    (d.0 + e.0 + (chunk - 1) * g.0, rw (d.1, e.1, g.1) (simp (add-mul, mul_assoc)))

module _ (b n : ℕ) (size : ℕ → ℕ) (positive : 0 < b) where
  -- a byte of a task's chunk lies in the task's part of a round
  in_round : (s i : ℕ) → s < n → i < capacity b (size s) → extended_before b size s + i < globalskip b n size
  unfolding globalskip
  in_round s i l h = omega (arith, capacity_fits b (size s), extended_before_step b size s n l)

  not_later : (s t i j : ℕ) → i < capacity b (size s) → extended_before b size s + i ≡ extended_before b size t + j → t ≤ s
  not_later s t i j h e =
      le_of_suc-le-suc
      (lt_of_not-le (λ (l : s < t). omega (arith, capacity_fits b (size s), extended_before_step b size s t l)))

  -- two bytes that chunks hold at one offset are of one task and one chunk
  pub same_byte : (s t k l i j : ℕ) → 1 ≤ s → s ≤ n → 1 ≤ t → t ≤ n → 1 ≤ k → 1 ≤ l
      → i < capacity b (size (s - 1)) → j < capacity b (size (t - 1))
      → chunk_start b n size s k + i ≡ chunk_start b n size t l + j → (s ≡ t) × (k ≡ l)
  unfolding chunk_start
  same_byte s t k l i j s1 sn t1 tn k1 l1 hi hj e =
      let g : ℕ = globalskip b n size in
      let x : ℕ = extended_before b size (s - 1) + i in
      let y : ℕ = extended_before b size (t - 1) + j in
      let f : (k - 1) * g + x ≡ (l - 1) * g + y = omega arith in
      let a : x < g = in_round (s - 1) i (omega arith) hi in
      let c : y < g = in_round (t - 1) j (omega arith) hj in
      let chunks : k - 1 ≡ l - 1 = sym (digits_div (k - 1) a) ∙ ap (λ (z : ℕ). z / g) f ∙ digits_div (l - 1) c in
      let rest : x ≡ y = sym (digits_mod (k - 1) a) ∙ ap (λ (z : ℕ). z % g) f ∙ digits_mod (l - 1) c in
      let tasks : s - 1 ≡ t - 1 = le_antisymm (not_later (t - 1) (s - 1) j i hj (sym rest)) (not_later (s - 1) (t - 1) i j hi rest) in
      (omega arith, omega arith)

  -- the first byte of the block of a chunk's byte
  block_start : (task chunk i : ℕ) → (chunk_start b n size task chunk + i) / b * b ≡ chunk_start b n size task chunk + i / b * b
  block_start task chunk i =
      let m = chunk_start_multiple b n size task chunk in
      rw (m.1, mul-add-div_right positive m.0 i) (add-mul m.0 (i / b) b)

  -- two bytes that chunks hold in one file-system block are of one task and one chunk
  pub same_block : (s t k l i j : ℕ) → 1 ≤ s → s ≤ n → 1 ≤ t → t ≤ n → 1 ≤ k → 1 ≤ l
      → i < capacity b (size (s - 1)) → j < capacity b (size (t - 1))
      → (chunk_start b n size s k + i) / b ≡ (chunk_start b n size t l + j) / b → (s ≡ t) × (k ≡ l)
  same_block s t k l i j s1 sn t1 tn k1 l1 hi hj e =
      same_byte s t k l (i / b * b) (j / b * b) s1 sn t1 tn k1 l1
      (lt_of_le_of_lt (div-mul-le_self i b) hi)
      (lt_of_le_of_lt (div-mul-le_self j b) hj)
      (sym (block_start s k i) ∙ ap (λ (z : ℕ). z * b) e ∙ block_start t l j)

-- more chunks end later
pub meta2_end_mono : (b n : ℕ) (size : ℕ → ℕ) (m m' : ℕ) → m ≤ m' → meta2_end b n size m ≤ meta2_end b n size m'
unfolding meta2_end meta2_start meta2_length
meta2_end_mono b n size m m' l =
    let more : 1 + m ≤ 1 + m' = omega arith in
    omega (arith, mul-le-mul_right (globalskip b n size) l, mul-le-mul_left (8 * n) more)

-- the layout looks only at the sizes of the n tasks
module _ (b n : ℕ) (size size' : ℕ → ℕ) (agree : (i : ℕ) → i < n → size i ≡ size' i) where
  extended_before_agree : (i : ℕ) → i ≤ n → extended_before b size i ≡ extended_before b size' i
  unfolding extended_before
  extended_before_agree i l =
      sum_cong (λ j. extended b (size j)) (λ j. extended b (size' j)) i (λ j h. ap (extended b) (agree j (omega arith)))

  globalskip_agree : globalskip b n size ≡ globalskip b n size'
  unfolding globalskip
  globalskip_agree = extended_before_agree n (le_refl n)

  pub chunk_start_agree : (task chunk : ℕ) → task ≤ n → chunk_start b n size task chunk ≡ chunk_start b n size' task chunk
  unfolding chunk_start
  chunk_start_agree task chunk l = rw (extended_before_agree (task - 1) (omega arith), globalskip_agree)

  pub meta2_start_agree : (m : ℕ) → meta2_start b n size m ≡ meta2_start b n size' m
  unfolding meta2_start
  meta2_start_agree m = rw globalskip_agree

  pub meta2_end_agree : (m : ℕ) → meta2_end b n size m ≡ meta2_end b n size' m
  unfolding meta2_end
  meta2_end_agree m = rw (meta2_start_agree m)

-- within the limits no offset comes near to what 64 bits hold
pub meta2_end_small : {b n : ℕ} {sizes : List ℕ} → Sound b n sizes → (m : ℕ) → m ≤ max_blocks → meta2_end b n (λ j. get_or sizes j 0) m < 2 ^ 62
unfolding meta2_end meta2_start
meta2_end_small {b} {n} sound m l =
    omega (arith, data_start_small b n sound.block sound.tasks, rounds_small sound m l, meta2_length_small n m sound.tasks l)

-- META2 is its counts, and then its values
pub meta2_parts : (n m : ℕ) → meta2_length n m ≡ 8 * n + 8 * (n * m)
unfolding meta2_length
meta2_parts n m = simp (mul-add, mul-one, mul_assoc)
