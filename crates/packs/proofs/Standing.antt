-- Where the parts of a packed container stand in the second image: the fields of META1, those that are taken over, each chunk, and META2.
use mathlib.Core.Path.{◌≡◌, refl, sym, ap, ◌∙◌}
use mathlib.Core.Bool.{Bool, true, false, cond}
use mathlib.Core.List.{List, [], ◌++◌, append_assoc}
use mathlib.Core.Logic.{◌⊎◌, ⊎_elim}
use Prim.Native.Nat.{ℕ, zero, suc, ◌+◌, ◌-◌, ◌*◌, ◌≤◌, ◌<◌}
use native.Mathlib.Nat.{le_refl}
use native.Mathlib.Omega.{arith}
use lib.Dec.{ltb, eqb}
use lib.ListN.{length, take, drop, replicate, length-append, length-replicate, length-drop}
use lib.Seq.{length-take-le, take_all, take-take, take_at, drop_at, drop-drop}
use borrow.Author.Tests.{ltb-true, ltb-false}
use Rattle.lists.specs.Below.{join_below, sum_below}
use Rattle.lists.specs.Splice.{splice}
use Rattle.lists.proofs.Below.{length_joined, sum_step}
use Rattle.lists.proofs.Splice.{part_front, length_splice, splice_here, splice_before, splice_after}
use Rattle.endian.specs.Number.{number}
use Rattle.endian.specs.Signed.{signed, sign_bit, signed_at}
use Rattle.format.specs.Layout.{meta1_end, data_start, capacity, extended_before, globalskip, chunk_start, meta2_start, meta2_length, meta2_end}
use Rattle.format.specs.declared.head.Head.{Head}
use Rattle.format.specs.Meta1.{fixed_length, last_at, last_fields, meta1_front, meta1}
use Rattle.format.specs.Meta2.{meta2}
use Rattle.format.specs.Refusals.{first_failing}
use Rattle.format.specs.Record.{rank_of, is_big, end_at}
use Rattle.format.specs.Reads.{Container, stream_of}
use Rattle.format.proofs.Chunks.{meta1_before_data}
use Rattle.format.proofs.Stored.{length_last, length_meta1, length_meta2}
use Rattle.packs.specs.Pack
use Rattle.packs.proofs.Packed.{passed, positive, stream_long, total_fits, chunk_long, chunks_long, own_short, front_long, packed_long}
use Rattle.packs.proofs.Packed.{tests_pass, second_long, image_is}

module _ {ℓ} {A : Type ℓ} where
  -- a part of the first of two lists
  part_first : (at w : ℕ) (xs ys : List A) → at + w ≤ length xs → take w (drop at (xs ++ ys)) ≡ take w (drop at xs)
  part_first at w xs ys h =
      ap (λ (l : List A). take w (drop at (l ++ ys))) (sym (take_all (length xs) xs (le_refl (length xs))))
      ∙ part_front at w (length xs) xs ys h (le_refl (length xs))

  -- one of joined lists, each of its own length
  part_joined : (f : ℕ → List A) (g : ℕ → ℕ) (n : ℕ) → ((i : ℕ) → i < n → length (f i) ≡ g i) → (i : ℕ) → i < n
      → take (g i) (drop (sum_below i g) (join_below n f)) ≡ f i
  unfolding join_below
  part_joined f g zero long i l = absurd (omega arith)
  part_joined f g (suc n) long i l = go (ltb i n) refl (λ h. part_joined f g n (λ j k. long j (omega arith)) i h)
    where
      whole : length (join_below n f) ≡ sum_below n g
      whole = length_joined f g n (λ j h. long j (omega arith))

      go : (t : Bool) → ltb i n ≡ t → (i < n → take (g i) (drop (sum_below i g) (join_below n f)) ≡ f i)
          → take (g i) (drop (sum_below i g) (join_below n f ++ f n)) ≡ f i
      go true t earlier =
          let h : i < n = ltb-true _ _ t in
          part_first (sum_below i g) (g i) (join_below n f) (f n) (omega (arith, whole, sum_step g i n h))
          ∙ earlier h
      go false t earlier =
          let same : i ≡ n = omega (arith, ltb-false i n t) in
          rw same
          (ap (take (g n)) (drop_at (join_below n f) (f n) (sum_below n g) whole) ∙ take_all (g n) (f n) (omega (arith, long n (omega arith))))

module _ (c : Container) (second : List ℕ) (e : Pack.pack_refusal c second ≡ 0) where
  abbrev h : Head
  h = c.loaded.head

  abbrev n : ℕ
  n = h.n

  abbrev b : ℕ
  b = h.blocksize

  abbrev most : ℕ
  most = Pack.packed_most c

  abbrev image : List ℕ
  image = Pack.pack_image c second

  pass : first_failing (Pack.pack_tests c) ≡ 0
  pass = tests_pass c second e

  -- META1 of the record, before flags and prefix are put into it
  abbrev pub plain : List ℕ
  plain = meta1 h (rank_of c.lists) (Pack.packed_size c) [] most (Pack.packed_start c)

  abbrev own : List ℕ
  own = take (fixed_length - Pack.flags_at) (drop Pack.flags_at c.image)

  abbrev zeros : List ℕ
  zeros = replicate (data_start b n - meta1_end n) 0

  abbrev chunks : List ℕ
  chunks = cond (eqb most 0) [] (join_below n (Pack.packed_chunk c))

  abbrev pub last : List ℕ
  last = meta2 (is_big h) n most (Pack.packed_count c) (Pack.packed_cell c)

  abbrev later : List ℕ
  later = drop (0 + length (Pack.packed_bytes c)) second

  split : image ≡ Pack.packed_meta1 c ++ (zeros ++ (chunks ++ (last ++ later)))
  unfolding splice Pack.packed_bytes
  split = image_is c second e ∙ simp append_assoc

  pub image_long : Pack.packed_length c ≤ length image
  image_long =
      let l = packed_long c pass in
      let fits : 0 + length (Pack.packed_bytes c) ≤ length second = omega (arith, l, second_long c second e) in
      rw (image_is c second e, length_splice second 0 (Pack.packed_bytes c) fits) (second_long c second e)

  -- ---- META1

  plain_long : length plain ≡ meta1_end n
  plain_long = length_meta1 h (rank_of c.lists) (Pack.packed_size c) [] most (Pack.packed_start c) (omega arith)

  own_fits : Pack.flags_at + length own ≤ length plain
  unfolding meta1_end
  own_fits = omega (arith, own_short c pass, plain_long)

  in_front : (at w : ℕ) → at + w ≤ meta1_end n → take w (drop at image) ≡ take w (drop at (Pack.packed_meta1 c))
  in_front at w l =
      ap (λ (l : List ℕ). take w (drop at l)) split ∙ part_first at w (Pack.packed_meta1 c) _ (omega (arith, front_long c pass))

  -- outside flags and prefix it is the record's
  pub plain_part : (at w : ℕ) → at + w ≤ meta1_end n → (at + w ≤ Pack.flags_at) ⊎ (fixed_length ≤ at)
      → take w (drop at image) ≡ take w (drop at plain)
  unfolding Pack.packed_meta1
  plain_part at w l out =
      in_front at w l
      ∙ ⊎_elim (λ before. splice_before plain Pack.flags_at own own_fits at w before)
      (λ behind. ap (take w) (splice_after plain Pack.flags_at own own_fits at (omega (arith, own_short c pass)))) out

  pub plain_field : (big : Bool) (w at : ℕ) → at + w ≤ meta1_end n → (at + w ≤ Pack.flags_at) ⊎ (fixed_length ≤ at)
      → signed_at big w image at ≡ signed_at big w plain at
  plain_field big w at l out = ap (λ (l : List ℕ). signed (sign_bit w) (number big l)) (plain_part at w l out)

  front_fields_hold : length (meta1_front h (rank_of c.lists) (Pack.packed_size c) []) ≡ last_at n
  unfolding meta1 meta1_end
  front_fields_hold =
      let l = length-append (meta1_front h (rank_of c.lists) (Pack.packed_size c) []) (last_fields (is_big h) most (Pack.packed_start c)) in
      omega (arith, plain_long, length_last (is_big h) most (Pack.packed_start c))

  pub plain_front : take (last_at n) plain ≡ meta1_front h (rank_of c.lists) (Pack.packed_size c) []
  unfolding meta1
  plain_front = take_at (meta1_front h (rank_of c.lists) (Pack.packed_size c) []) _ (last_at n) front_fields_hold

  pub plain_last : take 12 (drop (last_at n) plain) ≡ last_fields (is_big h) most (Pack.packed_start c)
  unfolding meta1
  plain_last =
      let l = length_last (is_big h) most (Pack.packed_start c) in
      ap (take 12) (drop_at (meta1_front h (rank_of c.lists) (Pack.packed_size c) []) _ (last_at n) front_fields_hold)
      ∙ take_all 12 (last_fields (is_big h) most (Pack.packed_start c)) (omega arith)

  -- flags and prefix are the image's
  pub own_there : take (fixed_length - Pack.flags_at) (drop Pack.flags_at image) ≡ own
  unfolding Pack.packed_meta1 end_at meta2_end meta2_start meta1_end
  own_there =
      let long : fixed_length ≤ length c.image = omega (arith, (passed c pass).image_long, meta1_before_data b n (positive c pass)) in
      let l : length own ≡ 1040 = length-take-le 1040 (drop Pack.flags_at c.image) (simp length-drop (omega arith)) in
      in_front Pack.flags_at 1040 (omega arith)
      ∙ ap (λ (k : ℕ). take k (drop Pack.flags_at (splice plain Pack.flags_at own))) (sym l) ∙ splice_here plain Pack.flags_at own own_fits

  -- ---- META2

  data_end : length (Pack.packed_meta1 c ++ zeros) ≡ data_start b n
  data_end = simp (length-append, length-replicate) (omega (arith, front_long c pass, meta1_before_data b n (positive c pass)))

  from_data : drop (data_start b n) image ≡ chunks ++ (last ++ later)
  from_data =
      ap (drop (data_start b n)) (split ∙ sym (append_assoc (Pack.packed_meta1 c) zeros (chunks ++ (last ++ later))))
      ∙ drop_at (Pack.packed_meta1 c ++ zeros) (chunks ++ (last ++ later)) (data_start b n) data_end

  pub meta2_there : take (meta2_length n most) (drop (Pack.packed_start c) image) ≡ last
  unfolding meta2_start
  meta2_there =
      let g : ℕ = most * globalskip b n (Pack.packed_size c) in
      ap (take (meta2_length n most))
      (sym (drop-drop g (data_start b n) image) ∙ ap (drop g) from_data ∙ drop_at chunks (last ++ later) g (chunks_long c pass))
      ∙ take_at last later (meta2_length n most) (length_meta2 (is_big h) n most (Pack.packed_count c) (Pack.packed_cell c))

  -- ---- the chunks, where there are any

  module _ (some : most ≡ 1) (i : ℕ) (l : i < n) where
    chunk_there : take (capacity b (Pack.packed_size c i)) (drop (chunk_start b n (Pack.packed_size c) (i + 1) 1) image) ≡ Pack.packed_chunk c i
    unfolding chunk_start extended_before capacity
    chunk_there =
        let all : List ℕ = join_below n (Pack.packed_chunk c) in
        let w : ℕ = capacity b (Pack.packed_size c i) in
        let x : ℕ = extended_before b (Pack.packed_size c) i in
        let z : i + 1 - 1 ≡ i = omega arith in
        let place : chunk_start b n (Pack.packed_size c) (i + 1) 1 ≡ data_start b n + x = rw z (omega arith) in
        let are : chunks ≡ all = rw some in
        let long = length_joined (Pack.packed_chunk c) (λ i. capacity b (Pack.packed_size c i)) n (chunk_long c pass) in
        let fits : x + w ≤ length all = omega (arith, long, sum_step (λ i. capacity b (Pack.packed_size c i)) i n l) in
        ap (λ (k : ℕ). take w (drop k image)) place
        ∙ ap (take w) (sym (drop-drop x (data_start b n) image) ∙ ap (drop x) (from_data ∙ ap (λ (l : List ℕ). l ++ (last ++ later)) are))
        ∙ part_first x w all (last ++ later) fits
        ∙ part_joined (Pack.packed_chunk c) (λ i. capacity b (Pack.packed_size c i)) n (chunk_long c pass) i l

    pub stream_there : take (Pack.total c i) (drop (chunk_start b n (Pack.packed_size c) (i + 1) 1) image) ≡ stream_of c (i + 1)
    unfolding Pack.packed_chunk
    stream_there =
        sym (take-take (Pack.total c i) (capacity b (Pack.packed_size c i)) _ (total_fits c pass i))
        ∙ ap (take (Pack.total c i)) chunk_there
        ∙ take_at (stream_of c (i + 1)) _ (Pack.total c i) (stream_long c pass i l)
