-- The front of a packed image as the runs that are stored one after the other.
use mathlib.Core.Path.{◌≡◌, refl, sym, ap, ap₂, ◌∙◌}
use mathlib.Core.Bool.{Bool, true, false}
use mathlib.Core.List.{List, [], ◌++◌, flatten, append_assoc, append-nil}
use Prim.Native.Nat.{ℕ, ◌+◌, ◌-◌, ◌*◌, ◌≤◌}
use native.Mathlib.Omega.{arith}
use lib.IntN.{pos}
use lib.ListN.{length, take, drop, replicate, length-append, length-drop, length-replicate}
use lib.Seq.{length-take-le, take-append-le, drop_at}
use Rattle.lists.specs.Below.{join_below, list_below}
use Rattle.lists.specs.Splice.{splice}
use Rattle.lists.specs.Stores.{Spends}
use Rattle.lists.proofs.Below.{join_cong}
use Rattle.lists.proofs.Stores.{spends_same, run_first, run_then}
use Rattle.endian.specs.Signed.{signed_digits}
use Rattle.endian.proofs.Signed.{length_numbers}
use Rattle.format.specs.Limits.{blocksize_rule}
use Rattle.format.specs.Layout.{meta1_end, data_start}
use Rattle.format.specs.declared.head.Head.{Head}
use Rattle.format.specs.Record.{entry, rank_of, is_big}
use Rattle.format.specs.Meta1.{magic, order_number, fixed_length, last_at, padded, last_fields, meta1_front, meta1}
use Rattle.format.specs.Reads.{Container}
use Rattle.format.proofs.Stored.{length_padded, length_last}
use Rattle.emit.specs.Parts.{versions, shape, first_fields}
use Rattle.emit.proofs.Parts.{length_first, opening_fits}
use Rattle.packs.specs.Pack.{flags_at, packed_size, packed_most, packed_start, packed_meta1}
use Rattle.packing_stores.specs.Front.{own_fields, front_bytes}
use Rattle.packing_stores.proofs.Chunks.{begins_at}

-- ---- lists of bytes

flags_zero : (big : Bool) → signed_digits big 8 (pos 0) ++ signed_digits big 8 (pos 0) ≡ replicate 16 0
flags_zero true = refl
flags_zero false = refl

-- the pieces of META1's front, grouped as they are made
regroup : (a b c d e f g k l m n z o p q : List ℕ) → m ++ n ≡ z
    → ((((a ++ b) ++ c) ++ d) ++ e) ++ ((((f ++ g) ++ k) ++ l) ++ z) ++ (o ++ (p ++ q))
    ≡ a ++ (b ++ (c ++ (d ++ (e ++ (f ++ (g ++ (k ++ (l ++ (m ++ (n ++ (o ++ (p ++ (q ++ [])))))))))))))
regroup a b c d e f g k l m n z o p q flags = rw (← flags) (simp (append_assoc, append-nil))

-- a splice that begins in the first of some lists and ends where the second does
splice_over_two : (a p t l own : List ℕ) (k : ℕ) → k ≤ length a → k + length own ≡ length a + length p
    → splice ((a ++ (p ++ t)) ++ l) k own ≡ take k a ++ (own ++ (t ++ l))
unfolding splice
splice_over_two a p t l own k fits ends =
    let whole : (a ++ (p ++ t)) ++ l ≡ a ++ (p ++ (t ++ l)) = simp append_assoc in
    let first : take k ((a ++ (p ++ t)) ++ l) ≡ take k a = ap (take k) whole ∙ take-append-le k a (p ++ (t ++ l)) fits in
    let last : drop (k + length own) ((a ++ (p ++ t)) ++ l) ≡ t ++ l =
    ap (drop (k + length own)) (whole ∙ sym (append_assoc a p (t ++ l))) ∙ drop_at (a ++ p) (t ++ l) _ (length-append a p ∙ sym ends) in
    ap₂ (λ (u v : List ℕ). u ++ (own ++ v)) first last

as_runs : (f o r s l z : List ℕ) → ((((f ++ o) ++ r) ++ s) ++ l) ++ z ≡ (f ++ (o ++ ((r ++ s) ++ l))) ++ z
as_runs f o r s l z = simp append_assoc

-- ---- the fields up to the ranks

pub length_own : (image : List ℕ) → fixed_length ≤ length image → length (own_fields image) ≡ 1040
length_own image l = length-take-le 1040 (drop flags_at image) (simp length-drop (omega arith))

-- those of the head but for the first byte and the flags
abbrev pub head_fields : Head → List ℕ
head_fields h = take 35 (drop 1 (first_fields (is_big h) h))

pub length_head : (big : Bool) (h : Head) → length (take 35 (drop 1 (first_fields big h))) ≡ 35
length_head big h = length-take-le 35 (drop 1 (first_fields big h)) (simp length-drop (omega (arith, length_first big h)))

module _ (h : Head) (rank size : ℕ → ℕ) where
  abbrev ranks : List ℕ
  ranks = join_below h.n (λ i. signed_digits (is_big h) 8 (pos (rank i)))

  abbrev sizes : List ℕ
  sizes = join_below h.n (λ i. signed_digits (is_big h) 8 (pos (size i)))

  front_parts : first_fields (is_big h) h ++ (padded [] ++ (ranks ++ sizes)) ≡ meta1_front h rank size []
  unfolding versions shape meta1_front flatten
  front_parts =
      let four = signed_digits (is_big h) 4 in
      let zero = signed_digits (is_big h) 8 (pos 0) in
      regroup magic (four (pos order_number)) (four h.version) (four h.patch) (four (pos h.format)) (four (pos h.blocksize))
      (four (pos h.n)) (four (pos h.files)) (four (pos h.file)) zero zero (replicate 16 0) (padded []) ranks sizes (flags_zero (is_big h))

  module _ (image : List ℕ) (long : fixed_length ≤ length image) (m start : ℕ) where
    abbrev gap : ℕ
    gap = data_start h.blocksize h.n - meta1_end h.n

    spliced : splice (meta1 h rank size [] m start) flags_at (own_fields image)
        ≡ take 36 (first_fields (is_big h) h) ++ (own_fields image ++ ((ranks ++ sizes) ++ last_fields (is_big h) m start))
    unfolding meta1
    spliced =
        let first = length_first (is_big h) h in
        ap (λ (l : List ℕ). splice (l ++ last_fields (is_big h) m start) flags_at (own_fields image)) (sym front_parts)
        ∙ splice_over_two (first_fields (is_big h) h) (padded []) (ranks ++ sizes) (last_fields (is_big h) m start) (own_fields image) 36 (omega arith)
        (omega (arith, length_own image long, length_padded [] (omega arith)))

    runs_are : ((((head_fields h ++ own_fields image) ++ ranks) ++ sizes) ++ last_fields (is_big h) m start) ++ replicate gap 0
        ≡ drop 1 (front_bytes h rank size image m start)
    unfolding front_bytes versions
    runs_are =
        as_runs (head_fields h) (own_fields image) ranks sizes (last_fields (is_big h) m start) (replicate gap 0)
        ∙ ap (λ (l : List ℕ). drop 1 (l ++ replicate gap 0)) (sym spliced)

    -- five runs, each where the last ended, from 1 on
    pub front_stored : (budget : ℕ) (xs : List ℕ) {ys₁ ys₂ ys₃ ys₄ ys₅ : List ℕ} {r₁ r₂ r₃ r₄ r₅ : ℕ} → blocksize_rule (pos h.blocksize) ≡ true
        → data_start h.blocksize h.n ≤ length xs → Spends budget xs 1 (head_fields h ++ own_fields image) ys₁ r₁
        → Spends r₁ ys₁ fixed_length ranks ys₂ r₂ → Spends r₂ ys₂ (fixed_length + 8 * h.n) sizes ys₃ r₃
        → Spends r₃ ys₃ (last_at h.n) (last_fields (is_big h) m start) ys₄ r₄ → Spends r₄ ys₄ (meta1_end h.n) (replicate gap 0) ys₅ r₅
        → Spends budget xs 1 (drop 1 (front_bytes h rank size image m start)) ys₅ r₅
    unfolding meta1_end
    front_stored budget xs block room s₁ s₂ s₃ s₄ s₅ =
        let fits = opening_fits h.blocksize h.n block in
        let fixed : length (head_fields h ++ own_fields image) ≡ 1075 =
        rw length-append (omega (arith, length_head (is_big h) h, length_own image long)) in
        let first = run_first budget xs 1 _ 1075 fixed s₁ in
        let second = run_then budget xs 1 _ _ (8 * h.n) first (length_numbers (is_big h) 8 h.n (λ i. pos (rank i))) s₂ (omega arith) in
        let third = run_then budget xs 1 _ _ (8 * h.n) second (length_numbers (is_big h) 8 h.n (λ i. pos (size i))) s₃ (omega arith) in
        let at_last : last_at h.n ≡ fixed_length + 8 * h.n + 8 * h.n = omega arith in
        let fourth = run_then budget xs 1 _ _ 12 third (length_last (is_big h) m start) (spends_same at_last refl s₄) (omega arith) in
        let at-end : meta1_end h.n ≡ fixed_length + 8 * h.n + 8 * h.n + 12 = omega arith in
        spends_same refl runs_are
        (run_then budget xs 1 _ (replicate gap 0) gap fourth (length-replicate gap 0) (spends_same at-end refl s₅) (omega arith)).spends

-- with the packed sizes it is the front of the packed image
pub front_packed : (c : Container) (sizes : List ℕ) → take c.loaded.head.n sizes ≡ list_below c.loaded.head.n (packed_size c)
    → front_bytes c.loaded.head (rank_of c.lists) (entry sizes) c.image (packed_most c) (packed_start c)
    ≡ packed_meta1 c ++ replicate (data_start c.loaded.head.blocksize c.loaded.head.n - meta1_end c.loaded.head.n) 0
unfolding front_bytes packed_meta1 meta1 meta1_front flatten
front_packed c xs e =
    let h = c.loaded.head in
    let same = join_cong (λ i. signed_digits (is_big h) 8 (pos (entry xs i))) (λ i. signed_digits (is_big h) 8 (pos (packed_size c i))) h.n
    (λ i l. ap (λ (v : ℕ). signed_digits (is_big h) 8 (pos v)) (begins_at (packed_size c) h.n xs e i l)) in
    rw same
