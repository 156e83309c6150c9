-- What a load answers, from what the code finds as it goes through its tests.
use mathlib.Core.Path.{◌≡◌, refl, ap, ap₂, sym, ◌∙◌}
use mathlib.Core.Bool.{cond, not}
use mathlib.Core.List.{List, [], ◌∷◌, ◌++◌}
use mathlib.Core.Logic.{⊎_elim}
use Prim.Native.Nat.{ℕ, suc, ◌+◌, ◌-◌, ◌*◌, ◌^◌, ◌<◌, ◌≤◌}
use native.Mathlib.Nat.{eq-zero-or-pos}
use native.Mathlib.Omega.{arith}
use borrow.Author.Tests.{lt-ltb, le-ltb}
use lib.Dec.{ltb}
use lib.IntN.{ℤ, pos}
use lib.ListN.{length, take, drop, length-drop}
use lib.Seq.{length-take-le}
use Rattle.endian.specs.Number.{number_at}
use Rattle.endian.specs.Signed.{sign_bit}
use Rattle.lists.specs.Splice.{splice}
use Rattle.lists.proofs.Below.{and_left, join_cong}
use Rattle.endian.proofs.Signed.{within_holds}
use Rattle.format.specs.Limits.{max_tasks, max_size, max_blocks, Sound}
use Rattle.format.specs.Layout.{meta2_length, meta2_end}
use Rattle.format.specs.declared.head.Head.{Head}
use Rattle.format.specs.declared.head.File.{File}
use Rattle.meta1.specs.declared.Last.{Last}
use Rattle.format.specs.declared.fault.Broken.{Broken}
use Rattle.format.specs.declared.loaded.Loaded.{Loaded}
use Rattle.format.specs.Kinds
use Rattle.format.specs.declared.fault.Fault.{Fault}
use Rattle.format.specs.Refusals.{Test, Verdict, test_at, fault_of, no_fault, first_failing, verdict, passed, number_of}
use Rattle.format.specs.Meta2.{meta2_part, value_field, value_index, unused, value_rule, least_count, counts_rule}
use Rattle.format.specs.Record.{head_of, no_head, sizes_of, size_of, lists_of, filled, no_lists, is_big, meta2_at, end_at, with_counts}
use Rattle.format.specs.Judge.{number_fault, tasks_in, maxchunks_in, head_in, rank_in, size_in, meta2_in, fixed_tests, rank_tests, requested_tests, rest_tests, meta1_tests, count_in, values_in, count_tests, greatest_test, value_test, value_tests, counts_tests, meta2_tests}
use Rattle.front.specs.Judging.{HeadRead}
use Rattle.meta1.specs.Judging.{last_in, lists_read}
use Rattle.meta2.specs.Judging.{Meta2There}
use Rattle.format.proofs.Refusals.{both_pass, when_accepted, when_refused, number_is}
use Rattle.format.proofs.Verdicts.{fails_first, passes_first, verdict_passes}
use Rattle.format.proofs.Rules.{sizes_hold}
use Rattle.format.proofs.Unsigned.{all_unsigned, natural_unsigned}
use Rattle.format.proofs.Filled.{filled_cong}
use Rattle.format.proofs.Record.{holds_agree, meta2_at_agree, end_at_agree}
use Rattle.format.proofs.Stripes.{length_lists, length_sizes, size_made, counts_put}
use Rattle.format.proofs.Accepting.{Meta1Holds, fixed_numbered, rank_numbered, size_numbered, meta1_numbered, meta1_holds, block_in, tasks_in_hold, size_in_holds, maxchunks_in_holds, meta2_holds}
use Rattle.meta1.proofs.Answers.{lists_are}
use Rattle.format.specs.declared.loaded.LoadAnswer.{LoadAnswer}
use Rattle.format.specs.Loaded.{loaded_of, no_loaded}
use Rattle.format.specs.Load.{meta2_bytes, loaded_in, lists_in, load_tests, load_refusal, load_fault, check_answer, load_table}
use Rattle.format.specs.Passed.{Meta2Fits}
use Rattle.format.proofs.Judged.{verdict_of, broken_fails, passed_passes, answer_first, answer_next}
use Rattle.format.proofs.LoadTests.{load_holds}

some_number : {r : ℕ} → (r ≡ 0 → ⊥) → 0 < r
some_number some = ⊎_elim (λ none. absurd (some none)) (λ l. l) (eq-zero-or-pos _)

-- ---- the defaults are zeros

pub fault_zeros : (f : Fault)
    → (f.place ≡ 0) × ((f.says ≡ pos 0) × ((f.least ≡ pos 0) × ((f.most ≡ pos 0) × ((f.field ≡ 0) × ((f.task ≡ 0) × (f.chunk ≡ 0))))))
    → f ≡ no_fault
fault_zeros f (place, (says, (least, (most, (field, (task, chunk)))))) =
    λ i. fault_of (field i) (task i) (chunk i) (place i) (says i) (least i) (most i)

pub head_zeros : (h : Head)
    → (h.order ≡ 0)
    × ((h.version ≡ pos 0) × ((h.patch ≡ pos 0) × ((h.format ≡ 0) × ((h.blocksize ≡ 0) × ((h.n ≡ 0) × ((h.files ≡ 0) × (h.file ≡ 0)))))))
    → h ≡ no_head
head_zeros h (order, (version, (patch, (format, (blocksize, (n, (files, file))))))) =
    λ i. head_of (order i) (version i) (patch i) (format i) (blocksize i) (n i) (files i) (file i)

-- ---- what C is handed

module _ (f : File) (image : List ℕ) (cells : ℕ) where
  -- accepted, the record and its lists
  pub accepted_answer : passed ≡ verdict (load_tests f image cells) → {loaded : Loaded} {lists : List ℕ} → loaded ≡ loaded_in image
      → lists ≡ lists_in image
      → record { loaded = loaded; lists = lists; refusal = 0; fault = no_fault } ≡ check_answer f image cells
  unfolding check_answer load_refusal
  accepted_answer passes loaded_is lists_is =
      (λ i. record { loaded = loaded_is i; lists = lists_is i; refusal = 0; fault = no_fault })
      ∙ sym (when_accepted (first_failing (load_tests f image cells)) _ _ (passed_passes (load_tests f image cells) passes))

  -- refused, what is broken, with a record of zeros
  pub refused_answer : (b : Broken) → verdict_of b ≡ verdict (load_tests f image cells)
      → record { loaded = no_loaded; lists = no_lists; refusal = number_of b.refusal; fault = b.fault } ≡ check_answer f image cells
  unfolding check_answer load_refusal load_fault
  refused_answer b e =
      (λ i. record { loaded = no_loaded; lists = no_lists; refusal = (e i).refusal; fault = (e i).fault })
      ∙ sym (when_refused (first_failing (load_tests f image cells)) _ _ (broken_fails (load_tests f image cells) b e))

  -- ---- refused by the fixed fields of META1, and by the rest of it

  pub at_fixed : (b : Broken) → verdict_of b ≡ verdict (fixed_tests image f (length image)) → verdict_of b ≡ verdict (load_tests f image cells)
  unfolding load_tests meta1_tests
  at_fixed b e = answer_first (meta1_tests image f (length image)) _ b (answer_first (fixed_tests image f (length image)) _ b e)

  pub at_rest : passed ≡ verdict (fixed_tests image f (length image)) → (b : Broken) → verdict_of b ≡ verdict (rest_tests image (length image))
      → verdict_of b ≡ verdict (load_tests f image cells)
  unfolding load_tests meta1_tests
  at_rest fixed b e =
      answer_first (meta1_tests image f (length image)) _ b
      (answer_next (fixed_tests image f (length image)) (rest_tests image (length image)) (fixed_numbered image f (length image)) fixed e)

-- ---- META1 accepted: what META2 is judged by, and where it stands

module _ (f : File) (image : List ℕ) (zero : first_failing (meta1_tests image f (length image)) ≡ 0) where
  first : Meta1Holds f image (length image)
  first = meta1_holds image f (length image) zero

  few_tasks : tasks_in image ≤ max_tasks
  unfolding tasks_in
  few_tasks = (tasks_in_hold first.front).2

  few_chunks : maxchunks_in image ≤ max_blocks
  unfolding maxchunks_in
  few_chunks = (maxchunks_in_holds first).2

  ends : meta2_in image + meta2_length (tasks_in image) (maxchunks_in image) ≤ length image
  unfolding meta2_in meta2_at end_at meta2_end head_in
  ends = first.fits

  -- the lists of ranks and sizes, with any counts
  module _ (count : ℕ → ℕ) where
    abbrev listed : List ℕ
    listed = lists_of (tasks_in image) (rank_in image) (size_in image) count

    size_is : (i : ℕ) → i < tasks_in image → size_of listed i ≡ size_in image i
    size_is = size_made (tasks_in image) (rank_in image) (size_in image) count few_tasks

    sound_sizes : Sound (head_in image).blocksize (tasks_in image) (sizes_of listed)
    unfolding head_in size_in
    sound_sizes =
        record {
          block = rw (block_in first.front).0 at first.front.blocksize;
          tasks = few_tasks;
          listed = omega (arith, few_tasks, length_sizes listed (length_lists (tasks_in image) (rank_in image) (size_in image) count));
          sized = sizes_hold _ _ (λ i l. rw (size_is i l) (within_holds 1 max_size _ (size_in_holds first.front i l).1 (size_in_holds first.front i l).2));
        }

-- test 13 looks at what chunks of the head's tasks hold
meta2_agree : (h : Head) (size size' : ℕ → ℕ) (m at : ℕ) (part : List ℕ) → ((i : ℕ) → i < h.n → size i ≡ size' i)
    → meta2_tests h size m at part ≡ meta2_tests h size' m at part
unfolding meta2_tests counts_tests count_tests greatest_test value_tests value_test
meta2_agree h size size' m at part same =
    let count = count_in h part in
    let value : ℕ → ℕ → ℤ = λ k i. value_field (is_big h) part h.n (value_index h.n k i) in
    ap (λ (values : List Test). counts_tests h size m at part ++ values)
    (join_cong _ _ m
    (λ k _.
    join_cong _ _ h.n
    (λ i l.
    ap
    (λ (held : ℕ).
    test_at 13
    (fault_of Kinds.value (suc i) (suc k) (at + 8 * h.n + 8 * value_index h.n k i) (value k i) (cond (ltb k (count i)) (pos 0) unused)
    (cond (ltb k (count i)) (pos held) unused))
    (not (value_rule (ltb k (count i)) held (value k i)))
    ∷ [])
    (holds_agree h size size' same i l))))

-- the counts that are read without a sign, where test 13 passes
counts_are : (h : Head) (size : ℕ → ℕ) (m at : ℕ) (part : List ℕ) → m ≤ max_blocks → first_failing (meta2_tests h size m at part) ≡ 0
    → filled h.n (λ i. number_at (is_big h) 8 part (8 * i)) ≡ filled h.n (count_in h part)
unfolding count_in counts_rule
counts_are h size m at part small zero =
    let f : ℕ → ℕ = λ i. number_at (is_big h) 8 part (8 * i) in
    let range = and_left _ _ (meta2_holds h size m part at zero).counts in
    filled_cong h.n f (count_in h part)
    (natural_unsigned (sign_bit 8) h.n f f (λ i l. refl) (least_count h.format) m (omega arith)
    (all_unsigned (sign_bit 8) h.n f f (λ i l. refl) (least_count h.format) m (omega arith) ∙ range))

-- what the code has of META1: the head, maxchunks and META2's start, and lists with no count
pub record Found (f : File) (image : List ℕ) (h : Head) (last : Last) (lists : List ℕ) : Type 0 where
  pub zero : first_failing (meta1_tests image f (length image)) ≡ 0
  pub head_is : h ≡ head_in image
  pub last_is : last ≡ last_in image
  pub lists_is : lists ≡ lists_of (tasks_in image) (rank_in image) (size_in image) (λ i. 0)

pub found : {f : File} {image : List ℕ} {h : Head} {last : Last} {lists : List ℕ} → passed ≡ verdict (fixed_tests image f (length image))
    → HeadRead image (length image) h → passed ≡ verdict (rest_tests image (length image)) → last ≡ last_in image → lists ≡ lists_read image h
    → Found f image h last lists
unfolding meta1_tests rest_tests
found {f} {image} {h} {last} {lists} fixed p rest last_is read =
    let len = length image in
    let (ranks, later) = both_pass (rank_tests image) _ (rank_numbered image len) (passed_passes (rest_tests image len) rest) in
    let sizes = (both_pass (requested_tests image) _ (size_numbered image len) later).0 in
    record {
      zero =
          passed_passes (meta1_tests image f len)
          (answer_next (fixed_tests image f len) (rest_tests image len) (fixed_numbered image f len) fixed rest);
      head_is = p.head_is;
      last_is = last_is;
      lists_is = read ∙ lists_are p ranks sizes;
    }

module _ {f : File} {image : List ℕ} {h : Head} {last : Last} {lists : List ℕ} (x : Found f image h last lists) where
  pub sound : Sound h.blocksize h.n (sizes_of lists)
  unfolding head_in
  sound = rw (x.head_is, x.lists_is) (sound_sizes f image x.zero (λ i. 0))

  pub few : last.maxchunks ≤ max_blocks
  few = rw x.last_is (few_chunks f image x.zero)

  pub fits : last.start + meta2_length h.n last.maxchunks ≤ length image
  unfolding head_in
  fits = rw (x.head_is, x.last_is) (ends f image x.zero)

  cells_are : h.n * last.maxchunks ≡ tasks_in image * maxchunks_in image
  unfolding head_in
  cells_are = ap₂ (λ (h : Head) (l : Last). h.n * l.maxchunks) x.head_is x.last_is

  -- by a table that has no room
  pub at_table : {cells : ℕ} → cells < h.n * last.maxchunks
      → record { refusal = 18; fault = number_fault Kinds.table 0 (pos cells) (h.n * last.maxchunks) (h.n * last.maxchunks) }
      ≡ verdict (load_tests f image cells)
  unfolding load_tests
  at_table {cells} l =
      (λ i. record { refusal = 18; fault = number_fault Kinds.table 0 (pos cells) (cells_are i) (cells_are i) })
      ∙ sym (verdict_passes (meta1_tests image f (length image)) _ (meta1_numbered image f (length image)) x.zero
      ∙ fails_first _ _ (lt-ltb cells (tasks_in image * maxchunks_in image) (rw (sym cells_are) l)))

  -- META2's part as the code takes it: from its start, L bytes, to its end
  module _ {L : ℕ} (long : L ≡ meta2_length h.n last.maxchunks) where
    abbrev part : List ℕ
    part = take (last.start + L - last.start) (drop last.start image)

    part_is : part ≡ meta2_bytes image
    unfolding meta2_bytes head_in
    part_is =
        let same : last.start + L - last.start ≡ meta2_length h.n last.maxchunks = omega arith in
        ap (λ (k : ℕ). take k (drop last.start image)) same
        ∙ ap₂ (λ (h : Head) (l : Last). take (meta2_length h.n l.maxchunks) (drop l.start image)) x.head_is x.last_is

    part_long : length part ≡ last.start + L - last.start
    part_long = length-take-le (last.start + L - last.start) (drop last.start image) (simp length-drop (omega (arith, fits)))

    pub there : length image < 2 ^ 64 → Meta2There part last.start h last.maxchunks lists
    there short = record {
      sound = sound;
      small = few;
      whole =
          omega (arith, part_long);
      ends = omega (arith, part_long, fits);
    }

    -- what META2 gave
    module _ {v : Verdict} (judged : v ≡ verdict (meta2_tests h (size_of lists) last.maxchunks last.start part)) where
      second : verdict (meta2_tests (head_in image) (size_in image) (maxchunks_in image) (meta2_in image) (meta2_bytes image)) ≡ v
      unfolding head_in
      second =
          sym
          (judged
          ∙ rw (part_is, x.head_is, x.last_is, x.lists_is)
          (ap verdict
          (meta2_agree (head_in image) (size_of (listed f image x.zero (λ i. 0))) (size_in image) (maxchunks_in image) (meta2_in image) (meta2_bytes image)
          (size_is f image x.zero (λ i. 0)))))

      -- for a table that has room
      pub at_meta2 : {cells : ℕ} → h.n * last.maxchunks ≤ cells → v ≡ verdict (load_tests f image cells)
      unfolding load_tests
      at_meta2 {cells} room =
          sym (verdict_passes (meta1_tests image f (length image)) _ (meta1_numbered image f (length image)) x.zero
          ∙ passes_first _ _ (le-ltb cells (tasks_in image * maxchunks_in image) (rw (sym cells_are) room))
          ∙ second)

    -- accepted, the record and its lists are those of the image
    pub loaded_is : loaded_of h last.maxchunks 0 ≡ loaded_in image
    unfolding loaded_in
    loaded_is = λ i. loaded_of (x.head_is i) (x.last_is i).maxchunks 0

    pub lists_are_in : passed ≡ verdict (meta2_tests h (size_of lists) last.maxchunks last.start part) → {counted : List ℕ}
        → counted ≡ with_counts lists h.n (λ i. number_at (is_big h) 8 part (8 * i))
        → counted ≡ lists_in image
    unfolding lists_in lists_of head_in
    lists_are_in judged {counted} e =
        let n = tasks_in image in
        let ranks = filled n (rank_in image) in
        let sizes = filled n (size_in image) in
        let passes = passed_passes (meta2_tests (head_in image) (size_in image) (maxchunks_in image) (meta2_in image) (meta2_bytes image)) (sym (second judged)) in
        e
        ∙ rw (part_is, x.head_is, x.lists_is)
        (counts_put n (rank_in image) (size_in image) (few_tasks f image x.zero) (λ i. number_at (is_big (head_in image)) 8 (meta2_bytes image) (8 * i))
        ∙ ap (λ (xs : List ℕ). ranks ++ (sizes ++ xs))
        (counts_are (head_in image) (size_in image) (maxchunks_in image) (meta2_in image) (meta2_bytes image) (few_chunks f image x.zero) passes))

-- ---- a load: the check, then the table

module _ (f : File) (image : List ℕ) (table : List ℤ) {answer : LoadAnswer} (checked : answer ≡ check_answer f image (length table)) where
  refusal_is : load_refusal f image (length table) ≡ answer.refusal
  unfolding check_answer
  refusal_is = sym (ap (λ (a : LoadAnswer). a.refusal) checked ∙ number_is _ _ _ (λ (a : LoadAnswer). a.refusal) refl refl)

  pub table_kept : (answer.refusal ≡ 0 → ⊥) → table ≡ load_table f image table
  unfolding load_table
  table_kept some = sym (when_refused (load_refusal f image (length table)) _ _ (rw refusal_is (some_number some)))

  module _ (none : answer.refusal ≡ 0) where
    answer_is : answer ≡ record { loaded = loaded_in image; lists = lists_in image; refusal = 0; fault = no_fault }
    unfolding check_answer
    answer_is = checked ∙ when_accepted (load_refusal f image (length table)) _ _ (refusal_is ∙ none)

    passes : first_failing (meta1_tests image f (length image)) ≡ 0
    unfolding load_refusal load_tests
    passes = (both_pass (meta1_tests image f (length image)) _ (meta1_numbered image f (length image)) (refusal_is ∙ none)).0

    pub fillable : Meta2Fits answer.loaded.head answer.lists answer.loaded.maxchunks image table
    unfolding loaded_in lists_in head_in
    fillable =
        let count = count_in (head_in image) (meta2_bytes image) in
        rw answer_is (record {
          as_many = length_lists (tasks_in image) (rank_in image) (size_in image) count;
          sound = sound_sizes f image passes count;
          few = few_chunks f image passes;
          image_long =
              rw (end_at_agree (head_in image) (size_of (lists_in image)) (size_in image) (size_is f image passes count) (maxchunks_in image))
              (first f image passes).fits;
          table_long = (load_holds f image (length table) (refusal_is ∙ none)).table_long;
        })

    pub table_filled : {filled : List ℤ}
        → filled
        ≡ splice table 0
        (values_in answer.loaded.head answer.loaded.maxchunks
        (meta2_part image (meta2_at answer.loaded.head (size_of answer.lists) answer.loaded.maxchunks) answer.loaded.head.n
        answer.loaded.maxchunks))
        → filled ≡ load_table f image table
    unfolding load_table loaded_in lists_in head_in meta2_bytes meta2_in
    table_filled e =
        e
        ∙ rw (
          answer_is,
          meta2_at_agree (head_in image) (size_of (lists_in image)) (size_in image) (size_is f image passes (count_in (head_in image) (meta2_bytes image)))
              (maxchunks_in image),
        ) (sym (when_accepted (load_refusal f image (length table)) _ _ (refusal_is ∙ none)))
