-- What the two metadata blocks of an image say, and the tests that each has to pass (document 01, "Order when loading": 1 to 12, and 13), each with
-- the field that it judges (W-205): a field that stands n times is n tests. META1 is judged from the image's first bytes, `xs`, and the image's whole
-- length; META2 from its own part.
use Rattle.std.specs.Prelude.{Bool, true, false, cond, not, ◌||◌, List, [], ◌∷◌, ◌++◌, ℕ, suc, ◌+◌, ◌*◌, ltb, eqb, ℤ, pos, length, get_or}
use Rattle.lists.specs.Below.{all_below, greatest_below, join_below, list_below}
use Rattle.endian.specs.Signed.{within, natural}
use Rattle.format.specs.Limits.{max_tasks, min_blocksize, max_blocksize, max_size, max_blocks, max_rank, plain_format, idle_format, format_rule, blocksize_rule, tasks_rule, rank_rule, maxchunks_rule}
use Rattle.format.specs.Layout.{meta1_end}
use Rattle.format.specs.declared.head.Head.{Head}
use Rattle.format.specs.declared.head.File.{File}
use Rattle.format.specs.declared.fault.Fault.{Fault}
use Rattle.format.specs.Refusals.{Test, test_at, fault_of}
use Rattle.format.specs.Kinds
use Rattle.format.specs.Meta1
use Rattle.format.specs.Meta2
use Rattle.format.specs.Record.{is_big, order_of, files_of, file_of, holds, meta2_at, end_at, head_of}

-- a field has this one value
abbrev pub is : ℕ → ℤ → Bool
is v field = within v v field

-- the greatest number of 8 bytes, which start_of_varheader is at most
abbrev pub max_start : ℕ
max_start = 9_223_372_036_854_775_807

-- ---- a field of no task that is not from `least` to `most`; and the image's end, where it has fewer bytes than are needed

abbrev pub number_fault : ℕ → ℕ → ℤ → ℕ → ℕ → Fault
number_fault kind place says least most = fault_of kind 0 0 place says (pos least) (pos most)

abbrev pub end_fault : ℕ → ℕ → Fault
end_fault len needed = number_fault Kinds.image len (pos len) needed needed

-- ---- what the first bytes say

module _ (xs : List ℕ) where
  unfoldable pub magic_in : Bool
  magic_in = all_below (length Meta1.magic) (λ i. eqb (get_or xs i 0) (get_or Meta1.magic i 0))

  -- the order number is 1 in big order, and in one of the two
  unfoldable pub big_in : Bool
  big_in = is Meta1.order_number (Meta1.order_field true xs)

  unfoldable pub ordered_in : Bool
  ordered_in = is Meta1.order_number (Meta1.order_field false xs) || big_in

  unfoldable pub tasks_in : ℕ
  tasks_in = natural (Meta1.tasks_field big_in xs)

  unfoldable pub maxchunks_in : ℕ
  maxchunks_in = natural (Meta1.maxchunks_field big_in xs tasks_in)

  unfoldable pub head_in : Head
  head_in =
      head_of (order_of big_in) (Meta1.version_field big_in xs) (Meta1.patch_field big_in xs) (natural (Meta1.format_field big_in xs))
      (natural (Meta1.blocksize_field big_in xs)) tasks_in (natural (Meta1.files_field big_in xs)) (natural (Meta1.file_number_field big_in xs))

  -- of task i + 1
  unfoldable pub rank_in : ℕ → ℕ
  rank_in i = natural (Meta1.rank_field big_in xs i)

  unfoldable pub size_in : ℕ → ℕ
  size_in i = natural (Meta1.size_field big_in xs tasks_in i)

  -- where META2 starts, as the layout has it
  unfoldable pub meta2_in : ℕ
  meta2_in = meta2_at head_in size_in maxchunks_in

  -- "1, 2, 3 (1076)", of an image of `len` bytes; the mark and the order say nothing
  unfoldable pub start_tests : ℕ → List Test
  start_tests len =
      test_at 1 (number_fault Kinds.mark 0 (pos 0) 0 0) (ltb len (length Meta1.magic) || not magic_in)
      ∷ test_at 2 (number_fault Kinds.order Meta1.order_at (pos 0) 0 0) (ltb len 8 || not ordered_in)
      ∷ test_at 3 (end_fault len Meta1.fixed_length) (ltb len Meta1.fixed_length)
      ∷ []

  -- "4, 5, 6, 7, 3 (full)", of the file that the call means: in 7 nfiles is judged before filenumber
  unfoldable pub field_tests : File → ℕ → List Test
  field_tests f len =
      let format = Meta1.format_field big_in xs in
      let blocksize = Meta1.blocksize_field big_in xs in
      let tasks = Meta1.tasks_field big_in xs in
      let files = Meta1.files_field big_in xs in
      let file_number = Meta1.file_number_field big_in xs in
      test_at 4 (number_fault Kinds.format Meta1.format_at format plain_format idle_format) (not (format_rule format))
      ∷ test_at 5 (number_fault Kinds.blocksize Meta1.blocksize_at blocksize min_blocksize max_blocksize) (not (blocksize_rule blocksize))
      ∷ test_at 6 (number_fault Kinds.tasks Meta1.tasks_at tasks 1 max_tasks) (not (tasks_rule tasks))
      ∷ test_at 7 (number_fault Kinds.files Meta1.files_at files (files_of f) (files_of f)) (not (is (files_of f) files))
      ∷ test_at 7 (number_fault Kinds.file_number Meta1.file_number_at file_number (file_of f) (file_of f)) (not (is (file_of f) file_number))
      ∷ test_at 3 (end_fault len (meta1_end tasks_in)) (ltb len (meta1_end tasks_in))
      ∷ []

  -- those of the fields that stand in every META1 at the same place
  unfoldable pub fixed_tests : File → ℕ → List Test
  fixed_tests f len = start_tests len ++ field_tests f len

  -- "8": each rank in turn, so that "For a repeated rank it is the later of the pair, taking the earliest such one"
  unfoldable pub rank_tests : List Test
  rank_tests =
      let rank = Meta1.rank_field big_in xs in
      list_below tasks_in (λ i. test_at 8 (fault_of Kinds.rank (suc i) 0 (Meta1.rank_at i) (rank i) (pos 0) (pos max_rank)) (not (rank_rule rank i)))

  -- "9": each size in turn
  unfoldable pub requested_tests : List Test
  requested_tests =
      let size = Meta1.size_field big_in xs tasks_in in
      list_below tasks_in
      (λ i. test_at 9 (fault_of Kinds.size (suc i) 0 (Meta1.size_at tasks_in i) (size i) (pos 1) (pos max_size)) (not (within 1 max_size (size i))))

  -- "10, 11, 12": "In 12 the field is judged before the fit"
  unfoldable pub last_tests : ℕ → List Test
  last_tests len =
      let maxchunks = Meta1.maxchunks_field big_in xs tasks_in in
      let start = Meta1.start_field big_in xs tasks_in in
      let end = end_at head_in size_in maxchunks_in in
      test_at 10 (number_fault Kinds.start (Meta1.start_at tasks_in) start 1 max_start) (is 0 start)
      ∷ test_at 11 (number_fault Kinds.maxchunks (Meta1.last_at tasks_in) maxchunks 0 max_blocks) (not (maxchunks_rule maxchunks))
      ∷ test_at 12 (number_fault Kinds.start (Meta1.start_at tasks_in) start meta2_in meta2_in) (not (is meta2_in start))
      ∷ test_at 12 (end_fault len end) (ltb len end)
      ∷ []

  -- those of the lists and of the last two fields
  unfoldable pub rest_tests : ℕ → List Test
  rest_tests len = rank_tests ++ (requested_tests ++ last_tests len)

  unfoldable pub meta1_tests : File → ℕ → List Test
  meta1_tests f len = fixed_tests f len ++ rest_tests len

-- ---- what META2's part says, for the head, the sizes and the maxchunks of META1

-- the count of task i + 1, and all values
unfoldable pub count_in : Head → List ℕ → ℕ → ℕ
count_in h part i = natural (Meta2.count_field (is_big h) part i)

unfoldable pub values_in : Head → ℕ → List ℕ → List ℤ
values_in h maxchunks part = list_below (h.n * maxchunks) (Meta2.value_field (is_big h) part h.n)

-- "13": "counts (0 to maxchunks) are judged first, then whether the greatest is maxchunks (place: the maxchunks field), then the values", in the order
-- of their offsets; the part starts at `at` of the image
module _ (h : Head) (size : ℕ → ℕ) (maxchunks at : ℕ) (part : List ℕ) where
  unfoldable pub count_tests : List Test
  count_tests =
      let count = Meta2.count_field (is_big h) part in
      let least = Meta2.least_count h.format in
      list_below h.n
      (λ i. test_at 13 (fault_of Kinds.count (suc i) 0 (at + 8 * i) (count i) (pos least) (pos maxchunks)) (not (within least maxchunks (count i))))

  unfoldable pub greatest_test : Test
  greatest_test =
      let greatest = greatest_below h.n (count_in h part) in
      test_at 13 (number_fault Kinds.maxchunks (Meta1.last_at h.n) (pos maxchunks) greatest greatest) (not (eqb greatest maxchunks))

  -- of chunk k + 1 of task i + 1
  unfoldable pub value_test : ℕ → ℕ → Test
  value_test k i =
      let used = ltb k (count_in h part i) in
      let j = Meta2.value_index h.n k i in
      let value = Meta2.value_field (is_big h) part h.n j in
      test_at 13
      (fault_of Kinds.value (suc i) (suc k) (at + 8 * h.n + 8 * j) value (cond used (pos 0) Meta2.unused) (cond used (pos (holds h size i)) Meta2.unused))
      (not (Meta2.value_rule used (holds h size i) value))

  unfoldable pub value_tests : List Test
  value_tests = join_below maxchunks (λ k. list_below h.n (value_test k))

  -- those of the counts, each and the greatest, and of all
  unfoldable pub counts_tests : List Test
  counts_tests = count_tests ++ (greatest_test ∷ [])

  unfoldable pub meta2_tests : List Test
  meta2_tests = counts_tests ++ value_tests
