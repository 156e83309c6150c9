-- The parts of META1 that are stored together: how long each is, and that stored one after the other they are what opening stores from 1 on.
use mathlib.Core.Path.{◌≡◌, refl, ap, sym, ◌∙◌}
use mathlib.Core.Bool.{Bool, true, false}
use mathlib.Core.List.{List, [], ◌++◌, flatten, append_assoc, append-nil}
use Prim.Native.Nat.{ℕ, ◌+◌, ◌-◌, ◌*◌, ◌≤◌}
use native.Mathlib.Omega.{arith}
use lib.IntN.{ℤ, pos}
use lib.ListN.{length, drop, replicate, length-append, length-drop, length-replicate, replicate-append-replicate}
use Rattle.lists.specs.Below.{join_below}
use Rattle.endian.specs.Signed.{signed_digits}
use Rattle.lists.specs.Stores.{Spends}
use Rattle.endian.proofs.Number.{length_digits}
use Rattle.endian.proofs.Signed.{length_numbers}
use Rattle.lists.proofs.Stores.{spends_same, run_first, run_then}
use Rattle.format.specs.Limits.{blocksize_rule}
use Rattle.format.specs.Layout.{meta1_end, data_start}
use Rattle.format.proofs.Chunks.{meta1_before_data}
use Rattle.format.proofs.Power.{blocksize_facts}
use Rattle.format.proofs.Stored.{length_padded}
use Rattle.format.specs.declared.head.Head.{Head}
use Rattle.format.specs.Record.{is_big}
use Rattle.format.specs.Meta1.{magic, order_number, prefix_length, fixed_length, last_at, padded, last_fields, meta1_front, meta1, opening_bytes}
use Rattle.emit.specs.Parts.{versions, shape, first_fields}

-- ---- lengths

pub length_versions : (big : Bool) (version patch : ℤ) (format : ℕ) → length (versions big version patch format) ≡ 20
unfolding versions
length_versions big version patch format = simp (length-append, length_digits)

pub length_shape : (big : Bool) (blocksize n files file : ℕ) → length (shape big blocksize n files file) ≡ 32
unfolding shape
length_shape big blocksize n files file = simp (length-append, length_digits)

pub length_first : (big : Bool) (h : Head) → length (first_fields big h) ≡ 52
length_first big h =
    rw length-append (omega (arith, length_versions big h.version h.patch h.format, length_shape big h.blocksize h.n h.files h.file))

length_fixed : (big : Bool) (h : Head) (prefix : List ℕ) → length prefix ≤ prefix_length
    → length (drop 1 (first_fields big h) ++ padded prefix) ≡ 1075
length_fixed big h prefix l =
    let first = length_first big h in
    let all = length_padded prefix l in
    length-append (drop 1 (first_fields big h)) (padded prefix) ∙ rw length-drop (omega arith)

-- META1 ends before D
pub opening_fits : (b n : ℕ) → blocksize_rule (pos b) ≡ true → last_at n + 12 ≤ data_start b n
unfolding meta1_end
opening_fits b n e = omega (arith, meta1_before_data b n (let f = blocksize_facts b e in omega arith))

-- ---- what opening stores

-- fields that are 0, as zeros
flags_zero : (big : Bool) → signed_digits big 8 (pos 0) ++ signed_digits big 8 (pos 0) ≡ replicate 16 0
flags_zero true = refl
flags_zero false = refl

last_zero : (big : Bool) → last_fields big 0 0 ≡ replicate 12 0
unfolding last_fields
last_zero true = refl
last_zero false = refl

zeros_parts : (big : Bool) (k : ℕ) → replicate (12 + k) 0 ≡ last_fields big 0 0 ++ replicate k 0
zeros_parts big k = sym (replicate-append-replicate 12 k 0) ∙ ap (λ (l : List ℕ). l ++ replicate k 0) (sym (last_zero big))

-- the pieces of META1's front, grouped as they are stored
regroup : (a b c d e f g k l m n z o p q : List ℕ) → m ++ n ≡ z
    → ((((((((a ++ b) ++ c) ++ d) ++ e) ++ ((((f ++ g) ++ k) ++ l) ++ z)) ++ o) ++ p) ++ q)
    ≡ a ++ (b ++ (c ++ (d ++ (e ++ (f ++ (g ++ (k ++ (l ++ (m ++ (n ++ (o ++ (p ++ (q ++ [])))))))))))))
regroup a b c d e f g k l m n z o p q flags = rw (← flags) (simp (append_assoc, append-nil))

module _ (h : Head) (rank size : ℕ → ℕ) (prefix : List ℕ) where
  -- the fields before the prefix in two groups, the prefix and both lists, all without the first byte
  front_parts :
      ((drop 1 (first_fields (is_big h) h) ++ padded prefix)
      ++ join_below h.n (λ i. signed_digits (is_big h) 8 (pos (rank i))))
      ++ join_below h.n (λ i. signed_digits (is_big h) 8 (pos (size i)))
      ≡ drop 1 (meta1_front h rank size prefix)
  unfolding versions shape meta1_front flatten
  front_parts =
      let four = signed_digits (is_big h) 4 in
      let zero = signed_digits (is_big h) 8 (pos 0) in
      regroup (drop 1 magic) (four (pos order_number)) (four h.version) (four h.patch) (four (pos h.format)) (four (pos h.blocksize))
      (four (pos h.n)) (four (pos h.files)) (four (pos h.file)) zero zero (replicate 16 0) (padded prefix)
      (join_below h.n (λ i. signed_digits (is_big h) 8 (pos (rank i)))) (join_below h.n (λ i. signed_digits (is_big h) 8 (pos (size i))))
      (flags_zero (is_big h))

  -- and then zeros from one store: the last two fields and all up to D
  opening_parts : last_at h.n + 12 ≤ data_start h.blocksize h.n
      → (((drop 1 (first_fields (is_big h) h) ++ padded prefix)
      ++ join_below h.n (λ i. signed_digits (is_big h) 8 (pos (rank i))))
      ++ join_below h.n (λ i. signed_digits (is_big h) 8 (pos (size i))))
      ++ replicate (data_start h.blocksize h.n - last_at h.n) 0
      ≡ drop 1 (opening_bytes h rank size prefix)
  unfolding opening_bytes meta1 meta1_front flatten meta1_end
  opening_parts fits =
      let k : ℕ = data_start h.blocksize h.n - meta1_end h.n in
      let split : data_start h.blocksize h.n - last_at h.n ≡ 12 + k = omega arith in
      rw (front_parts, split, zeros_parts (is_big h)) (sym (append_assoc (drop 1 (meta1_front h rank size prefix)) (last_fields (is_big h) 0 0) (replicate k 0)))

  -- four runs, each where the last ended, from 1 on
  pub rest_stored : (budget : ℕ) (xs : List ℕ) {ys₁ ys₂ ys₃ ys₄ : List ℕ} {r₁ r₂ r₃ r₄ end : ℕ} → length prefix ≤ prefix_length
      → blocksize_rule (pos h.blocksize) ≡ true → data_start h.blocksize h.n ≤ length xs → end ≡ data_start h.blocksize h.n
      → Spends budget xs 1 (drop 1 (first_fields (is_big h) h) ++ padded prefix) ys₁ r₁
      → Spends r₁ ys₁ fixed_length (join_below h.n (λ i. signed_digits (is_big h) 8 (pos (rank i)))) ys₂ r₂
      → Spends r₂ ys₂ (fixed_length + 8 * h.n) (join_below h.n (λ i. signed_digits (is_big h) 8 (pos (size i)))) ys₃ r₃
      → Spends r₃ ys₃ (last_at h.n) (replicate (end - last_at h.n) 0) ys₄ r₄
      → Spends budget xs 1 (drop 1 (opening_bytes h rank size prefix)) ys₄ r₄
  rest_stored budget xs {end = end} short block room e s₁ s₂ s₃ s₄ =
      let fits = opening_fits h.blocksize h.n block in
      let gap : ℕ = data_start h.blocksize h.n - last_at h.n in
      let fixed = run_first budget xs 1 _ 1075 (length_fixed (is_big h) h prefix short) s₁ in
      let ranks = run_then budget xs 1 _ _ (8 * h.n) fixed (length_numbers (is_big h) 8 h.n (λ i. pos (rank i))) s₂ (omega arith) in
      let sizes = run_then budget xs 1 _ _ (8 * h.n) ranks (length_numbers (is_big h) 8 h.n (λ i. pos (size i))) s₃ (omega arith) in
      let rest : end - last_at h.n ≡ gap = omega arith in
      let place : last_at h.n ≡ fixed_length + 8 * h.n + 8 * h.n = omega arith in
      let zeros = spends_same place (ap (λ (k : ℕ). replicate k 0) rest) s₄ in
      spends_same refl (opening_parts fits) (run_then budget xs 1 _ (replicate gap 0) gap sizes (length-replicate gap 0) zeros (omega arith)).spends
