-- What is read of a container, with the record and the table that loading handed back, is what the container says, and what is refused gets its
-- own number.
use mathlib.Core.Path.{◌≡◌, refl, sym, ap, ap₂, ◌∙◌}
use mathlib.Core.Bool.{true, false, and-false}
use mathlib.Core.List.{List}
use mathlib.Core.Logic.{◌⊎◌, ⊎_elim}
use Prim.Native.Nat.{ℕ, ◌+◌, ◌-◌, ◌*◌, ◌≤◌, ◌<◌, min}
use native.Mathlib.Nat.{add-sub_cancel}
use native.Mathlib.Omega.{arith}
use borrow.Author.Tests.{lt-ltb, le-ltb, lt-leb}
use lib.IntN.{ℤ, pos}
use lib.ListN.{length, take, drop}
use Rattle.endian.specs.Signed.{within, natural}
use Rattle.lists.specs.Splice.{splice}
use Rattle.lists.proofs.Below.{sum_cong, join_cong}
use Rattle.endian.proofs.Signed.{within_holds}
use Rattle.format.specs.declared.head.File.{File}
use Rattle.format.specs.Refusals.{first_failing}
use Rattle.format.specs.Meta2.{value_index, unused}
use Rattle.format.specs.Record.{cell, rank_of, size_of, count_of, start_of, end_at, head_sound, cells_agree}
use Rattle.format.proofs.Refusals.{first_passes, first_fails, when_accepted}
use Rattle.format.proofs.Rules.{values_agree}
use Rattle.format.proofs.About.{size_bounded}
use Rattle.format.proofs.Stripes.{length_lists, rank_made, size_made, count_made}
use Rattle.format.proofs.Judging.{suits_holds}
use Rattle.format.proofs.Record.{order_sound, holds_agree, start_of_agree, end_at_agree}
use Rattle.format.specs.declared.loaded.Loaded.{Loaded}
use Rattle.format.specs.Loaded.{loaded_sound, loaded_of}
use Rattle.format.specs.Container.{Contents, HasMeta1, HasMeta2, Says}
use Rattle.format.specs.Load.{load_refusal, load_answer, load_table}
use Rattle.format.specs.Reads.{Container, container_of, loaded_tests, read_tests, chunks_used, written_in, chunk_bytes, chunk_refusal, chunk_part, stream_of, total_of, total_answer, read_refusal, read_answer, read_output, loaded_from}
use Rattle.format.specs.About.{chunk_size_answer, whole_refusal, length_answer, prefix_answer}
use Rattle.container.specs.Format.{bytes_said, stream_said, total_said, ReadsBack, RefusesBack}
use Rattle.format.proofs.Formats.{format_kept}
use Rattle.format.proofs.InBounds.{block_kept, tasks_kept, ranks_kept, sizes_kept}
use Rattle.format.proofs.Every.{head_said, lists_said, few, maxchunks_kept, counts_kept, values_kept, loaded_is, lists_are, table_long, says}
use Rattle.container.proofs.Refusing.{total_number, read_number}
use Rattle.format.proofs.Passing.{record_passes}
use Rattle.format.proofs.LoadedRecords.{loaded_numbered}
use Rattle.format.proofs.Readable.{read_numbered, readable}
use Rattle.format.proofs.Stream.{chunk_length, chunk_passes, counted}

-- a number counted from 1 that is 0 or past the last
within_none : (n number : ℕ) → (number ≡ 0) ⊎ (n < number) → within 1 n (pos number) ≡ false
within_none n number none = ⊎_elim (λ e. rw e refl) (λ l. rw (lt-leb number n l, and-false)) none

-- the record as it is made, with any table whose cells say what the container says
module _ (f : File) (image : List ℕ) (s : Contents) (one : HasMeta1 f image s) (two : HasMeta2 image s) (table : List ℤ)
    (wide : s.n * s.maxchunks ≤ length table)
    (used_cells : (i k : ℕ) → i < s.n → k < s.count i → cell table (value_index s.n k i) ≡ pos (s.written k i))
    (unused_cells : (i k : ℕ) → i < s.n → s.count i ≤ k → k < s.maxchunks → cell table (value_index s.n k i) ≡ unused) where
  abbrev made : Loaded
  made = loaded_of (head_said f s) s.maxchunks 0

  abbrev loaded : Container
  loaded = container_of f made (lists_said s) image table

  rank_is : (i : ℕ) → i < s.n → rank_of (lists_said s) i ≡ s.rank i
  rank_is i l = rank_made s.n s.rank s.size s.count (few f image s one two) i l

  size_is : (i : ℕ) → i < s.n → size_of (lists_said s) i ≡ s.size i
  size_is i l = size_made s.n s.rank s.size s.count (few f image s one two) i l

  count_is : (i : ℕ) → i < s.n → count_of (lists_said s) i ≡ s.count i
  count_is i l = count_made s.n s.rank s.size s.count (few f image s one two) i l

  -- ---- its tests pass

  loaded_sound_holds : loaded_sound f made (lists_said s) ≡ true
  unfolding loaded_sound head_sound
  loaded_sound_holds =
      rw (
        order_sound s.big,
        format_kept one.format_known,
        block_kept one.bounds,
        tasks_kept one.bounds,
        ranks_kept one.bounds _ (λ i l. ap pos (rank_is i l)),
        sizes_kept one.bounds _ (λ i l. ap pos (size_is i l)),
        maxchunks_kept f image s one two,
        counts_kept f image s one two _ (λ i l. ap pos (count_is i l)),
      )
      (suits_holds f (head_said f s) refl refl)

  cells_agree_holds : cells_agree (head_said f s) (lists_said s) s.maxchunks table ≡ true
  unfolding cells_agree
  cells_agree_holds =
      values_agree s.n s.maxchunks _ _ _ _ _ _ (holds_agree (head_said f s) (size_of (lists_said s)) s.size size_is) (λ i l. refl) (λ j l. refl)
      ∙ values_kept f image s one two _ _ count_is used_cells unused_cells

  loaded_passes : first_failing (loaded_tests loaded) ≡ 0
  unfolding loaded_tests end_at
  loaded_passes =
      record_passes 0 (loaded_sound f made (lists_said s)) (head_said f s) (lists_said s) s.maxchunks image table refl loaded_sound_holds
      (rw (end_at_agree (head_said f s) (size_of (lists_said s)) s.size size_is s.maxchunks) two.fits) wide cells_agree_holds

  module _ (i : ℕ) (l : i < s.n) where
    passes : first_failing (read_tests loaded (i + 1)) ≡ 0
    unfolding read_tests first_failing
    passes =
        first_passes (loaded_tests loaded) _ (loaded_numbered loaded) loaded_passes
        ∙ rw (within_holds 1 s.n (i + 1) (omega arith) (omega arith))

    -- ---- what is read is what the container says

    used_is : chunks_used loaded (i + 1) ≡ s.count i
    unfolding chunks_used
    used_is = rw (add-sub_cancel i 1) (count_is i l)

    written_is : (k : ℕ) → k < s.count i → written_in loaded (i + 1) (k + 1) ≡ s.written k i
    unfolding written_in
    written_is k u = rw (add-sub_cancel i 1, add-sub_cancel k 1) (ap natural (used_cells i k l u))

    bytes_are : (k : ℕ) → k < s.count i → chunk_bytes loaded (i + 1) (k + 1) ≡ bytes_said image s i k
    unfolding chunk_bytes bytes_said start_of
    bytes_are k u =
        let start = start_of_agree (head_said f s) (size_of (lists_said s)) s.size size_is (i + 1) (k + 1) (omega arith) in
        ap₂ (λ (n at : ℕ). take n (drop at image)) (written_is k u) start

    stream_is : stream_of loaded (i + 1) ≡ stream_said image s i
    unfolding stream_of stream_said
    stream_is = rw used_is (join_cong _ _ (s.count i) bytes_are)

    total_is : total_of loaded (i + 1) ≡ total_said s i
    unfolding total_of total_said
    total_is = rw used_is (sum_cong _ _ (s.count i) written_is)

    each_passes : (k : ℕ) → k < s.count i → chunk_refusal loaded (i + 1) (k + 1) ≡ 0
    each_passes k u = chunk_passes loaded (i + 1) (k + 1) passes (omega arith) (rw used_is (omega arith))

    chunk_whole : (k : ℕ) → k < s.count i → length (bytes_said image s i k) ≡ s.written k i
    chunk_whole k u =
        let r = readable loaded (i + 1) (length_lists s.n s.rank s.size s.count) passes in
        ap length (sym (bytes_are k u)) ∙ chunk_length loaded (i + 1) r k (rw used_is u) ∙ written_is k u

    read_passes : (p : ℕ) → p ≤ total_said s i → read_refusal loaded (i + 1) p ≡ 0
    unfolding read_refusal first_failing
    read_passes p h =
        first_passes (read_tests loaded (i + 1)) _ (read_numbered loaded (i + 1)) passes
        ∙ rw (le-ltb (total_of loaded (i + 1)) p (rw total_is h))

  made_reads : ReadsBack image s loaded
  unfolding chunk_part total_answer read_answer read_output length_answer prefix_answer whole_refusal end_at
  made_reads = record {
    chunks = λ i k l u. each_passes i l k u;
    parts = λ i k l u. when_accepted _ _ _ (each_passes i l k u) ∙ bytes_are i l k u;
    whole = λ i k l u. chunk_whole i l k u;
    totals = λ i l. when_accepted _ _ _ (passes i l) ∙ ap (counted 0) (total_is i l);
    copied = λ i p out l h. when_accepted _ _ _ (read_passes i l p h) ∙ ap (λ (t : ℕ). counted 0 (min (length out) (t - p))) (total_is i l);
    streams = λ i p out l h.
        when_accepted _ _ _ (read_passes i l p h) ∙ ap (λ (xs : List ℕ). splice out 0 (take (length out) (drop p xs))) (stream_is i l);
    ends =
        when_accepted _ _ _ loaded_passes
        ∙ ap (counted 0) (end_at_agree (head_said f s) (size_of (lists_said s)) s.size size_is s.maxchunks);
    sizes = λ i l. ap (λ (size : ℕ). chunk_size_answer size s.blocksize) (size_is i l) ∙ size_bounded one.bounds i l;
    prefixed = when_accepted _ _ _ loaded_passes;
  }

  -- ---- what is refused

  tests_none : (task : ℕ) → (task ≡ 0) ⊎ (s.n < task) → first_failing (read_tests loaded task) ≡ 14
  unfolding read_tests first_failing
  tests_none task none =
      first_passes (loaded_tests loaded) _ (loaded_numbered loaded) loaded_passes ∙ rw (within_none s.n task none)

  made_refuses : RefusesBack s loaded
  unfolding chunk_refusal read_refusal first_failing
  made_refuses = record {
    no_task = λ task chunk p out none.
        let e = tests_none task none in
        let some : 0 < first_failing (read_tests loaded task) = omega arith in (
          first_fails (read_tests loaded task) _ some ∙ e,
          total_number loaded task ∙ e,
          read_number loaded task p out ∙ first_fails (read_tests loaded task) _ some ∙ e,
        );
    no_chunk = λ i chunk l none.
        first_passes (read_tests loaded (i + 1)) _ (read_numbered loaded (i + 1)) (passes i l)
        ∙ rw (used_is i l, within_none (s.count i) chunk none);
    past_total = λ i p out l past.
        read_number loaded (i + 1) p out
        ∙ first_passes (read_tests loaded (i + 1)) _ (read_numbered loaded (i + 1)) (passes i l)
        ∙ rw (lt-ltb (total_of loaded (i + 1)) p (rw (total_is i l) past));
  }

module _ (f : File) (image : List ℕ) (s : Contents) (one : HasMeta1 f image s) (two : HasMeta2 image s) (table : List ℤ)
    (e : load_refusal f image (length table) ≡ 0) where
  said : Says f s (load_answer f image table).loaded (load_answer f image table).lists table (load_table f image table)
  said = says f image s one two table e

  wide_enough : s.n * s.maxchunks ≤ length (load_table f image table)
  wide_enough = rw said.as_long (table_long f image s one two table e)

  pub reads_back : ReadsBack image s (loaded_from f image table)
  reads_back =
      rw (loaded_is f image s one two table e, lists_are f image s one two table e)
      (made_reads f image s one two (load_table f image table) wide_enough said.used_cells said.unused_cells)

  pub refuses_back : RefusesBack s (loaded_from f image table)
  refuses_back =
      rw (loaded_is f image s one two table e, lists_are f image s one two table e)
      (made_refuses f image s one two (load_table f image table) wide_enough said.used_cells said.unused_cells)

  -- and what these go by
  pub tests_back : first_failing (loaded_tests (loaded_from f image table)) ≡ 0
  tests_back =
      rw (loaded_is f image s one two table e, lists_are f image s one two table e)
      (loaded_passes f image s one two (load_table f image table) wide_enough said.used_cells said.unused_cells)

  pub stream_back : (i : ℕ) → i < s.n → stream_of (loaded_from f image table) (i + 1) ≡ stream_said image s i
  stream_back i l =
      rw (loaded_is f image s one two table e, lists_are f image s one two table e)
      (stream_is f image s one two (load_table f image table) wide_enough said.used_cells said.unused_cells i l)

  pub total_back : (i : ℕ) → i < s.n → total_of (loaded_from f image table) (i + 1) ≡ total_said s i
  total_back i l =
      rw (loaded_is f image s one two table e, lists_are f image s one two table e)
      (total_is f image s one two (load_table f image table) wide_enough said.used_cells said.unused_cells i l)
