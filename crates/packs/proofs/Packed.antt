-- Where packing is accepted: what its tests give, how long its bytes are, what its stores leave and what is found of them where they are cut.
use mathlib.Core.Path.{◌≡◌, refl, ap, ◌∙◌}
use mathlib.Core.Bool.{Bool, true, false, cond}
use mathlib.Core.List.{List, [], ◌∷◌, flatten}
use Prim.Native.Nat.{ℕ, zero, suc, ◌+◌, ◌-◌, ◌*◌, ◌≤◌, ◌<◌}
use native.Mathlib.Omega.{arith}
use lib.Dec.{eqb}
use lib.ListN.{length, take, drop, get_or, length-append, length-replicate, length-drop, length-take}
use lib.Seq.{length-take-le, take_all}
use borrow.Author.Tests.{ltb-false, not-false, not-true}
use Rattle.lists.specs.Below.{join_below}
use Rattle.lists.specs.Splice.{splice}
use Rattle.lists.specs.Stores.{Store, applied, byte_stores, first_stores, found}
use Rattle.lists.proofs.Below.{all_at, greatest_le, length_joined}
use Rattle.lists.proofs.Splice.{length_splice}
use Rattle.lists.proofs.Stores.{found_none, found_all, applied_around}
use Rattle.format.specs.Limits.{max_size}
use Rattle.format.specs.Layout.{meta1_end, capacity, globalskip, extended_before, meta2_start, meta2_end}
use Rattle.format.specs.Meta1.{fixed_length, meta1_front, meta1}
use Rattle.format.specs.Meta2.{least_count}
use Rattle.format.specs.Refusals.{first_failing}
use Rattle.format.specs.Record.{rank_of, is_big, record_tests}
use Rattle.format.specs.Reads.{Container, loaded_tests, chunks_used, written_in, chunk_bytes, stream_of, total_of}
use Rattle.format.specs.Passed.{Passed}
use Rattle.format.proofs.Refusals.{Numbered, both_pass, none_fails, when_accepted}
use Rattle.format.proofs.Formats.{least_one}
use Rattle.format.proofs.Power.{blocksize_facts}
use Rattle.format.proofs.Chunks.{meta1_before_data, capacity_enough}
use Rattle.format.proofs.Passing.{head_block, chunk_inside, cell_range, count_few}
use Rattle.format.proofs.LoadedRecords.{loaded_numbered, loaded_passed}
use Rattle.format.proofs.Stored.{length_meta1, length_meta2}
use Rattle.packs.specs.Pack

-- ---- the tests

pack_numbered : (c : Container) → Numbered (Pack.pack_tests c)
unfolding Pack.pack_tests loaded_tests record_tests
pack_numbered c = omega arith

module _ (c : Container) (e : first_failing (Pack.pack_tests c) ≡ 0) where
  abbrev n : ℕ
  n = c.loaded.head.n

  abbrev b : ℕ
  b = c.loaded.head.blocksize

  pub packed_passes : first_failing (loaded_tests c) ≡ 0
  unfolding Pack.pack_tests
  packed_passes = (both_pass (loaded_tests c) _ (loaded_numbered c) e).0

  pub passed : Passed c.loaded.head c.lists c.loaded.maxchunks c.image c.table
  passed = loaded_passed c packed_passes

  pub total_small : (i : ℕ) → i < n → Pack.total c i ≤ max_size
  unfolding Pack.pack_tests
  total_small i l =
      let last = (both_pass (loaded_tests c) _ (loaded_numbered c) e).1 in
      ltb-false _ _ (not-true _ (all_at _ n i l (not-false _ (none_fails _ (omega arith, tt) last).0)))

  -- ---- the chunks

  -- a chunk in use is whole in the image; `Readable` asks for the length of the lists beside, which packing does not look at
  part_long : (i k : ℕ) → i < n → k < chunks_used c (i + 1) → length (chunk_bytes c (i + 1) (k + 1)) ≡ written_in c (i + 1) (k + 1)
  unfolding chunk_bytes written_in chunks_used
  part_long i k l u =
      let few = count_few passed (i + 1) (omega arith) (omega arith) in
      let z : k + 1 - 1 ≡ k = omega arith in
      let holds = (cell_range passed (i + 1) (omega arith) (omega arith) k u).2 in
      let inside = chunk_inside passed (i + 1) (omega arith) (omega arith) (k + 1) (omega arith) (omega arith) in
      length-take-le (written_in c (i + 1) (k + 1)) _ (simp length-drop (rw z (omega arith)))

  -- a task's stream has its total
  pub stream_long : (i : ℕ) → i < n → length (stream_of c (i + 1)) ≡ Pack.total c i
  unfolding stream_of total_of
  stream_long i l = length_joined _ _ (chunks_used c (i + 1)) (λ k u. part_long i k l u)

  pub positive : 0 < b
  positive = let f = blocksize_facts b (head_block _ _ passed.head) in omega arith

  pub total_fits : (i : ℕ) → Pack.total c i ≤ capacity b (Pack.packed_size c i)
  total_fits i = omega (arith, capacity_enough b (Pack.packed_size c i) positive)

  pub chunk_long : (i : ℕ) → i < n → length (Pack.packed_chunk c i) ≡ capacity b (Pack.packed_size c i)
  unfolding Pack.packed_chunk
  chunk_long i l = simp (length-append, length-replicate) (omega (arith, stream_long i l, total_fits i))

  -- ---- the whole

  abbrev most : ℕ
  most = Pack.packed_most c

  pub count_one : (i : ℕ) → Pack.packed_count c i ≤ 1
  count_one i = go (eqb (Pack.total c i) 0)
    where
      go : (t : Bool) → cond t (least_count c.loaded.head.format) 1 ≤ 1
      go true = least_one _
      go false = omega arith

  pub most_one : most ≤ 1
  most_one = greatest_le (Pack.packed_count c) n 1 (λ i l. count_one i)

  abbrev chunks : List ℕ
  chunks = cond (eqb most 0) [] (join_below n (Pack.packed_chunk c))

  joined_long : length (join_below n (Pack.packed_chunk c)) ≡ globalskip b n (Pack.packed_size c)
  unfolding globalskip extended_before capacity
  joined_long = length_joined (Pack.packed_chunk c) (λ i. capacity b (Pack.packed_size c i)) n chunk_long

  pub chunks_long : length chunks ≡ most * globalskip b n (Pack.packed_size c)
  chunks_long = go most refl
    where
      go : (m : ℕ) → most ≡ m → length (cond (eqb m 0) [] (join_below n (Pack.packed_chunk c))) ≡ m * globalskip b n (Pack.packed_size c)
      go zero z = omega arith
      go (suc zero) z = joined_long ∙ omega arith
      go (suc (suc m)) z = absurd (omega (arith, most_one))

  pub own_short : length (take (fixed_length - Pack.flags_at) (drop Pack.flags_at c.image)) ≤ 1040
  own_short = omega (arith, length-take (fixed_length - Pack.flags_at) (drop Pack.flags_at c.image))

  pub front_long : length (Pack.packed_meta1 c) ≡ meta1_end n
  unfolding Pack.packed_meta1 meta1_end
  front_long =
      let plain = length_meta1 c.loaded.head (rank_of c.lists) (Pack.packed_size c) [] most (Pack.packed_start c) (omega arith) in
      length_splice _ Pack.flags_at _ (omega (arith, own_short, plain)) ∙ plain

  pub packed_long : length (Pack.packed_bytes c) ≡ Pack.packed_length c
  unfolding Pack.packed_bytes Pack.packed_length meta2_end meta2_start
  packed_long =
      simp (length-append, length-replicate)
      (omega (
        arith,
        front_long,
        meta1_before_data b n positive,
        chunks_long,
        length_meta2 (is_big c.loaded.head) n most (Pack.packed_count c) (Pack.packed_cell c),
      ))

-- the mark's first byte is the packed container's
begins : (c : Container) → 115 ∷ drop 1 (Pack.packed_bytes c) ≡ Pack.packed_bytes c
unfolding Pack.packed_bytes Pack.packed_meta1 splice meta1 meta1_front flatten
begins c = refl

-- ---- what is stored

module _ (c : Container) (second : List ℕ) (e : Pack.pack_refusal c second ≡ 0) where
  pub tests_pass : first_failing (Pack.pack_tests c) ≡ 0
  unfolding Pack.pack_refusal
  tests_pass = (both_pass (Pack.pack_tests c) _ (pack_numbered c) e).0

  pub second_long : Pack.packed_length c ≤ length second
  unfolding Pack.pack_refusal
  second_long = ltb-false _ _ (none_fails _ (omega arith, tt) (both_pass (Pack.pack_tests c) _ (pack_numbered c) e).1).0

  pub stores_are : Pack.pack_stores c second ≡ Pack.packed_stores c
  unfolding Pack.pack_stores
  stores_are = when_accepted _ _ _ e

  pub image_is : Pack.pack_image c second ≡ splice second 0 (Pack.packed_bytes c)
  unfolding Pack.pack_image Pack.packed_stores
  image_is =
      ap (applied second) stores_are ∙ applied_around second 0 115 (drop 1 (Pack.packed_bytes c)) ∙ ap (splice second 0) (begins c)

  long : length (Pack.packed_bytes c) ≡ Pack.packed_length c
  long = packed_long c tests_pass

  some : 1 ≤ Pack.packed_length c
  some = let f = ap length (begins c) in omega (arith, long)

  pub nothing_yet : Pack.pack_found c second 0 ≡ second
  unfolding Pack.pack_found
  nothing_yet = found_none second _

  -- from the first store up to the last but one the first byte is 0
  pub first_zero : (b : ℕ) → 1 ≤ b → b ≤ Pack.packed_length c → get_or (Pack.pack_found c second b) 0 0 ≡ 0
  unfolding Pack.pack_found Pack.packed_stores found first_stores applied splice
  first_zero b l last =
      let cut : b - 1 - length (drop 1 (Pack.packed_bytes c)) ≡ 0 = rw length-drop (omega (arith, long)) in
      let zero : List ℕ = 0 ∷ [] in
      let all : take b zero ≡ zero = take_all b zero l in
      ap (λ (ss : List Store). get_or (found b second ss) 0 0) stores_are ∙ rw (cut, all)

  pub found_whole : (b : ℕ) → Pack.packed_length c + 1 ≤ b → Pack.pack_found c second b ≡ Pack.pack_image c second
  unfolding Pack.pack_found Pack.pack_image Pack.packed_stores byte_stores
  found_whole b l = found_all b second (Pack.pack_stores c second) (rw (stores_are, length-drop) (omega (arith, long, some)))
