-- What is stored is read back: each field of META1 before the last two from an image that starts with them, these two where they stand, and each
-- number of META2.
use mathlib.Core.Path.{◌≡◌, refl, sym, ap, ap₂, ◌∙◌}
use mathlib.Core.Bool.{Bool, true, false}
use mathlib.Core.List.{List, [], ◌∷◌, ◌++◌, flatten, append_assoc, append-nil}
use Prim.Native.Nat.{ℕ, ◌+◌, ◌*◌, ◌^◌, ◌<◌, ◌≤◌}
use native.Mathlib.Nat.{zero-add}
use native.Mathlib.Omega.{arith}
use lib.Dec.{lit<}
use lib.IntN.{ℤ, pos}
use lib.ListN.{length, take, drop, replicate, length-append, length-replicate, take-append-drop}
use lib.Seq.{take_at, drop_at, drop-drop}
use lib.Signed.{mag}
use Rattle.lists.specs.Below.{join_below}
use Rattle.endian.specs.Signed.{sign_bit, signed_at, signed_digits}
use Rattle.endian.proofs.Number.{length_digits}
use Rattle.lists.proofs.Pieces.{total, Widths, none, more, length_pieces, drop_pieces, append_pieces}
use Rattle.endian.proofs.Signed.{length_numbers, signed_there, signed_listed}
use Rattle.format.specs.Layout.{meta1_end, data_start, meta2_length}
use Rattle.format.specs.declared.head.Head.{Head}
use Rattle.format.specs.Record.{is_big}
use Rattle.format.specs.Meta1
use Rattle.format.specs.Meta2
use Rattle.format.proofs.Chunks.{meta2_parts}

pub length_padded : (prefix : List ℕ) → length prefix ≤ Meta1.prefix_length → length (Meta1.padded prefix) ≡ Meta1.prefix_length
length_padded prefix l = simp (length-append, length-replicate) (omega arith)

-- ---- META1

-- how long each field of META1's front is
abbrev widths : ℕ → List ℕ
widths n = 4 ∷ 4 ∷ 4 ∷ 4 ∷ 4 ∷ 4 ∷ 4 ∷ 4 ∷ 4 ∷ 8 ∷ 8 ∷ Meta1.prefix_length ∷ 8 * n ∷ 8 * n ∷ []

-- in front of pieces of known lengths
front_widths : (h : Head) (rank size : ℕ → ℕ) (prefix : List ℕ) {ps : List (List ℕ)} {ws : List ℕ} → length prefix ≤ Meta1.prefix_length
    → Widths ps ws → Widths (Meta1.front_fields h rank size prefix ++ ps) (widths h.n ++ ws)
front_widths h rank size prefix short rest =
    let four = length_digits (is_big h) 4 in
    let eight = length_digits (is_big h) 8 in
    let numbers = length_numbers (is_big h) 8 h.n in
    more refl
    (more (four _) (more (four _) (more (four _) (more (four _) (more (four _) (more (four _) (more (four _) (more (four _)
    (more (eight _) (more (eight _)
    (more (length_padded prefix short) (more (numbers (λ i. pos (rank i))) (more (numbers (λ i. pos (size i))) rest)))))))))))))

length_front : (h : Head) (rank size : ℕ → ℕ) (prefix : List ℕ) → length prefix ≤ Meta1.prefix_length → length (Meta1.meta1_front h rank size prefix) ≡ Meta1.last_at h.n
unfolding Meta1.meta1_front
length_front h rank size prefix short = length_pieces (front_widths h rank size prefix short none) ∙ omega arith

pub length_last : (big : Bool) (maxchunks start : ℕ) → length (Meta1.last_fields big maxchunks start) ≡ 12
unfolding Meta1.last_fields
length_last big maxchunks start = simp (length-append, length_digits)

pub length_meta1 : (h : Head) (rank size : ℕ → ℕ) (prefix : List ℕ) (maxchunks start : ℕ) → length prefix ≤ Meta1.prefix_length
    → length (Meta1.meta1 h rank size prefix maxchunks start) ≡ meta1_end h.n
unfolding Meta1.meta1 meta1_end
length_meta1 h rank size prefix maxchunks start short =
    simp (length-append, length_last) (omega (arith, length_front h rank size prefix short))

-- what opening stores reaches to D
pub length_opening : (h : Head) (rank size : ℕ → ℕ) (prefix : List ℕ) → length prefix ≤ Meta1.prefix_length
    → meta1_end h.n ≤ data_start h.blocksize h.n → length (Meta1.opening_bytes h rank size prefix) ≡ data_start h.blocksize h.n
unfolding Meta1.opening_bytes
length_opening h rank size prefix short fits =
    simp (length-append, length-replicate) (omega (arith, length_meta1 h rank size prefix 0 0 short))

-- its front is META1's
pub opening_front : (h : Head) (rank size : ℕ → ℕ) (prefix : List ℕ) → length prefix ≤ Meta1.prefix_length
    → take (Meta1.last_at h.n) (Meta1.opening_bytes h rank size prefix) ≡ Meta1.meta1_front h rank size prefix
unfolding Meta1.opening_bytes Meta1.meta1
opening_front h rank size prefix short =
    rw append_assoc (take_at (Meta1.meta1_front h rank size prefix) _ (Meta1.last_at h.n) (length_front h rank size prefix short))

-- and start_of_varheader is 0
pub opening_start : (h : Head) (rank size : ℕ → ℕ) (prefix : List ℕ) → length prefix ≤ Meta1.prefix_length
    → take 8 (drop (Meta1.start_at h.n) (Meta1.opening_bytes h rank size prefix)) ≡ replicate 8 0
unfolding Meta1.opening_bytes Meta1.meta1 Meta1.last_fields
opening_start h rank size prefix short =
    ap (take 8)
    (sym (drop-drop 4 (Meta1.last_at h.n) _)
    ∙ ap (drop 4)
    (ap (drop (Meta1.last_at h.n)) (append_assoc (Meta1.meta1_front h rank size prefix) _ _)
    ∙ drop_at (Meta1.meta1_front h rank size prefix) _ (Meta1.last_at h.n) (length_front h rank size prefix short)))
    ∙ zeros (is_big h) _
  where
    zeros : (big : Bool) (after : List ℕ) → take 8 (drop 4 ((signed_digits big 4 (pos 0) ++ signed_digits big 8 (pos 0)) ++ after)) ≡ replicate 8 0
    zeros true after = refl
    zeros false after = refl

-- ---- META1 up to its last two fields, read back from an image that starts with it

module _ (h : Head) (rank size : ℕ → ℕ) (prefix : List ℕ) (image : List ℕ) (short : length prefix ≤ Meta1.prefix_length)
    (front : take (Meta1.last_at h.n) image ≡ Meta1.meta1_front h rank size prefix) where
  abbrev after : List ℕ
  after = drop (Meta1.last_at h.n) image

  -- its fields and what follows them, in pieces
  abbrev all : List (List ℕ)
  all = Meta1.front_fields h rank size prefix ++ (after ∷ [])

  whole : image ≡ flatten all
  unfolding Meta1.meta1_front flatten
  whole =
      let fields : List (List ℕ) = Meta1.front_fields h rank size prefix in
      sym (take-append-drop (Meta1.last_at h.n) image) ∙ ap₂ ◌++◌ front (sym (append-nil after)) ∙ append_pieces fields (after ∷ [])

  -- where the first k pieces end
  abbrev end : ℕ → ℕ
  end k = total (take k (widths h.n ++ (length after ∷ [])))

  from : (k at : ℕ) → end k ≡ at → drop at image ≡ flatten (drop k all)
  from k at e =
      ap (drop at) whole ∙ ap (λ (b : ℕ). drop b (flatten all)) (sym e) ∙ drop_pieces (front_widths h rank size prefix short (more refl none)) k

  -- a field that is piece k
  field : (k at w : ℕ) (z : ℤ) (others : List (List ℕ)) → end k ≡ at → drop k all ≡ signed_digits (is_big h) w z ∷ others
      → 0 < w → mag z < 2 ^ sign_bit w → signed_at (is_big h) w image at ≡ z
  unfolding flatten
  field k at w z others e f some l = signed_there (is_big h) w z image (flatten others) at some (from k at e ∙ ap flatten f) l

  -- and one of the numbers that piece k holds
  listed : (k at : ℕ) (f : ℕ → ℕ) (others : List (List ℕ)) → end k ≡ at
      → drop k all ≡ join_below h.n (λ i. signed_digits (is_big h) 8 (pos (f i))) ∷ others
      → (i : ℕ) → i < h.n → f i < 2 ^ 63 → signed_at (is_big h) 8 image (at + 8 * i) ≡ pos (f i)
  unfolding flatten
  listed k at f others e same i l m =
      signed_listed (is_big h) 8 h.n (λ j. pos (f j)) image (flatten others) at (lit< tt) (from k at e ∙ ap flatten same) i l m

  pub magic_back : take (length Meta1.magic) image ≡ Meta1.magic
  unfolding flatten
  magic_back = ap (take 4) whole

  pub prefix_back : take Meta1.prefix_length (drop Meta1.prefix_at image) ≡ Meta1.padded prefix
  unfolding flatten
  prefix_back =
      ap (take Meta1.prefix_length) (from 11 Meta1.prefix_at refl)
      ∙ take_at (Meta1.padded prefix) _ Meta1.prefix_length (length_padded prefix short)

  pub order_back : Meta1.order_field (is_big h) image ≡ pos Meta1.order_number
  order_back = field 1 4 4 (pos Meta1.order_number) _ refl refl (lit< tt) (lit< tt)

  pub version_back : mag h.version < 2 ^ 31 → Meta1.version_field (is_big h) image ≡ h.version
  version_back l = field 2 8 4 h.version _ refl refl (lit< tt) l

  pub patch_back : mag h.patch < 2 ^ 31 → Meta1.patch_field (is_big h) image ≡ h.patch
  patch_back l = field 3 12 4 h.patch _ refl refl (lit< tt) l

  pub format_back : h.format < 2 ^ 31 → Meta1.format_field (is_big h) image ≡ pos h.format
  format_back l = field 4 16 4 (pos h.format) _ refl refl (lit< tt) l

  pub blocksize_back : h.blocksize < 2 ^ 31 → Meta1.blocksize_field (is_big h) image ≡ pos h.blocksize
  blocksize_back l = field 5 20 4 (pos h.blocksize) _ refl refl (lit< tt) l

  pub tasks_back : h.n < 2 ^ 31 → Meta1.tasks_field (is_big h) image ≡ pos h.n
  tasks_back l = field 6 24 4 (pos h.n) _ refl refl (lit< tt) l

  pub files_back : h.files < 2 ^ 31 → Meta1.files_field (is_big h) image ≡ pos h.files
  files_back l = field 7 28 4 (pos h.files) _ refl refl (lit< tt) l

  pub file_number_back : h.file < 2 ^ 31 → Meta1.file_number_field (is_big h) image ≡ pos h.file
  file_number_back l = field 8 32 4 (pos h.file) _ refl refl (lit< tt) l

  pub rank_back : (i : ℕ) → i < h.n → rank i < 2 ^ 63 → Meta1.rank_field (is_big h) image i ≡ pos (rank i)
  rank_back = listed 12 Meta1.fixed_length rank _ refl refl

  pub size_back : (i : ℕ) → i < h.n → size i < 2 ^ 63 → Meta1.size_field (is_big h) image h.n i ≡ pos (size i)
  size_back = listed 13 (Meta1.fixed_length + 8 * h.n) size _ (omega arith) refl

-- ---- its last two fields, read back where they stand

module _ (big : Bool) (maxchunks start n : ℕ) (image : List ℕ)
    (last : take 12 (drop (Meta1.last_at n) image) ≡ Meta1.last_fields big maxchunks start) where
  abbrev first : List ℕ
  first = signed_digits big 4 (pos maxchunks)

  abbrev others : List ℕ
  others = signed_digits big 8 (pos start) ++ drop 12 (drop (Meta1.last_at n) image)

  split : drop (Meta1.last_at n) image ≡ first ++ others
  unfolding Meta1.last_fields
  split =
      let rest : List ℕ = drop 12 (drop (Meta1.last_at n) image) in
      sym (take-append-drop 12 (drop (Meta1.last_at n) image)) ∙ ap (λ (l : List ℕ). l ++ rest) last ∙ append_assoc first _ rest

  pub maxchunks_back : maxchunks < 2 ^ 31 → Meta1.maxchunks_field big image n ≡ pos maxchunks
  maxchunks_back l = signed_there big 4 (pos maxchunks) image others (Meta1.last_at n) (lit< tt) split l

  pub start_back : start < 2 ^ 63 → Meta1.start_field big image n ≡ pos start
  start_back l =
      signed_there big 8 (pos start) image _ (Meta1.start_at n) (lit< tt)
      (sym (drop-drop 4 (Meta1.last_at n) image) ∙ ap (drop 4) split ∙ drop_at first others 4 (length_digits big 4 _)) l

-- ---- META2

module _ (big : Bool) (n m : ℕ) (count : ℕ → ℕ) (value : ℕ → ℤ) where
  abbrev counts : List ℕ
  counts = join_below n (λ i. signed_digits big 8 (pos (count i)))

  abbrev values : List ℕ
  values = join_below (n * m) (λ j. signed_digits big 8 (value j))

  counts_end : length counts ≡ 8 * n
  counts_end = length_numbers big 8 n (λ i. pos (count i))

  pub length_meta2 : length (Meta2.meta2 big n m count value) ≡ meta2_length n m
  unfolding Meta2.meta2
  length_meta2 = length-append counts values ∙ ap₂ ◌+◌ counts_end (length_numbers big 8 (n * m) value) ∙ sym (meta2_parts n m)

  pub count_back : (i : ℕ) → i < n → count i < 2 ^ 63 → Meta2.count_field big (Meta2.meta2 big n m count value) i ≡ pos (count i)
  unfolding Meta2.meta2
  count_back i l h =
      ap (signed_at big 8 (counts ++ values)) (sym (zero-add (8 * i)))
      ∙ signed_listed big 8 n (λ k. pos (count k)) (counts ++ values) values 0 (lit< tt) refl i l h

  pub value_back : (j : ℕ) → j < n * m → mag (value j) < 2 ^ 63 → Meta2.value_field big (Meta2.meta2 big n m count value) n j ≡ value j
  unfolding Meta2.meta2
  value_back =
      signed_listed big 8 (n * m) value (counts ++ values) [] (8 * n) (lit< tt)
      (drop_at counts values (8 * n) counts_end ∙ sym (append-nil values))
