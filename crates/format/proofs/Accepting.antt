-- The tests of META1 and of META2 as facts: what holds of the fields where all of them pass, and that they pass where it holds.
use mathlib.Core.Path.{◌≡◌, refl, sym, ap, ◌∙◌}
use mathlib.Core.Bool.{Bool, true, false, cond, not, ◌||◌, or-true, or-false}
use mathlib.Core.List.{List, [], ◌∷◌}
use Prim.Native.Nat.{ℕ, ◌≤◌, ◌<◌}
use native.Mathlib.Nat.{le_refl}
use native.Mathlib.Omega.{arith}
use lib.Dec.{ltb, eqb}
use lib.IntN.{ℤ, pos}
use lib.ListN.{length, take, get_or}
use lib.Seq.{length-take-le, get_or-take, ext_get_or}
use borrow.Author.Tests.{ltb-false, le-ltb, eqb-true, eq-eqb, not-false}
use Rattle.lists.specs.Below.{all_below, first_not, greatest_below, list_below}
use Rattle.endian.specs.Number.{number_at}
use Rattle.endian.specs.Signed.{sign_bit, within, natural}
use Rattle.lists.proofs.Below.{and_left, and_right, or_right, or_both, all_at, all_of}
use Rattle.endian.proofs.Number.{one_order}
use Rattle.endian.proofs.Signed.{InRange, signed_pos, within_one, within_natural, within_holds, within_over}
use Rattle.format.specs.Limits.{max_tasks, min_blocksize, max_blocksize, max_rank, max_size, max_blocks, plain_format, idle_format, format_rule, blocksize_rule, tasks_rule, rank_rule, ranks_rule, sizes_rule, maxchunks_rule}
use Rattle.format.specs.Layout.{meta1_end, meta2_start}
use Rattle.format.proofs.Chunks.{meta1_before_data}
use Rattle.format.specs.declared.head.Head.{Head}
use Rattle.format.specs.declared.head.File.{File}
use Rattle.format.specs.Refusals.{Verdict}
use Rattle.format.specs.Refusals.{Test, first_failing, verdict, passed}
use Rattle.format.specs.Meta1
use Rattle.format.specs.Meta2
use Rattle.format.specs.Record.{is_big, files_of, file_of, holds, meta2_at, end_at}
use Rattle.format.specs.Judge.{is, magic_in, big_in, ordered_in, tasks_in, maxchunks_in, head_in, size_in, meta2_in, start_tests, field_tests, fixed_tests, rank_tests, requested_tests, last_tests, rest_tests, meta1_tests, count_in, count_tests, greatest_test, value_test, value_tests, counts_tests, meta2_tests}
use Rattle.format.proofs.Refusals.{Numbered, first_passes, both_pass, next_passes, none_fails, all_pass}
use Rattle.format.proofs.Verdicts.{each_append, each_join, join_verdict, join_hold, join_pass, fields_numbered, fields_verdict, fields_hold, fields_pass}
use Rattle.format.proofs.Formats.{format_natural}
use Rattle.format.proofs.Rules.{blocksize_natural, tasks_natural, ranks_each, ranks_within, sizes_within}

is_refl : (v : ℕ) → is v (pos v) ≡ true
is_refl v = within_holds v v v (le_refl v) (le_refl v)

-- ---- META1

-- what holds of the fields before the last two, where xs are the image's first bytes and `len` is the length of the whole
pub record FrontHolds (f : File) (xs : List ℕ) (len : ℕ) : Type 0 where
  pub magic_is : magic_in xs ≡ true
  pub order_is : Meta1.order_field (big_in xs) xs ≡ pos Meta1.order_number
  pub format : format_rule (Meta1.format_field (big_in xs) xs) ≡ true
  pub blocksize : blocksize_rule (Meta1.blocksize_field (big_in xs) xs) ≡ true
  pub tasks : tasks_rule (Meta1.tasks_field (big_in xs) xs) ≡ true
  pub files_are : Meta1.files_field (big_in xs) xs ≡ pos (files_of f)
  pub file_number_is : Meta1.file_number_field (big_in xs) xs ≡ pos (file_of f)
  pub long : meta1_end (tasks_in xs) ≤ len
  pub ranks : ranks_rule (tasks_in xs) (Meta1.rank_field (big_in xs) xs) ≡ true
  pub sizes : sizes_rule (tasks_in xs) (Meta1.size_field (big_in xs) xs (tasks_in xs)) ≡ true

-- what holds of all fields
pub record Meta1Holds (f : File) (xs : List ℕ) (len : ℕ) : Type 0 where
  pub front : FrontHolds f xs len
  pub maxchunks : maxchunks_rule (Meta1.maxchunks_field (big_in xs) xs (tasks_in xs)) ≡ true
  pub start_is : Meta1.start_field (big_in xs) xs (tasks_in xs) ≡ pos (meta2_in xs)
  pub fits : end_at (head_in xs) (size_in xs) (maxchunks_in xs) ≤ len

module _ (xs : List ℕ) where
  -- the magic number, byte by byte and whole
  pub magic_there : length Meta1.magic ≤ length xs → magic_in xs ≡ true → take (length Meta1.magic) xs ≡ Meta1.magic
  unfolding magic_in
  magic_there l e =
      let n = length-take-le (length Meta1.magic) xs l in
      ext_get_or 0 (take (length Meta1.magic) xs) Meta1.magic n
      (λ i h. let h : i < length Meta1.magic = omega arith in
      get_or-take (length Meta1.magic) xs i 0 h ∙ eqb-true _ _ (all_at _ (length Meta1.magic) i h e))

  pub magic_holds : take (length Meta1.magic) xs ≡ Meta1.magic → magic_in xs ≡ true
  unfolding magic_in
  magic_holds e =
      all_of _ (length Meta1.magic)
      (λ i h. eq-eqb _ _ (sym (get_or-take (length Meta1.magic) xs i 0 h) ∙ ap (λ (l : List ℕ). get_or l i 0) e))

  -- the order number is 1 in the order that is read, where it is in one of the two, and back
  ordered : ordered_in xs ≡ true → Meta1.order_field (big_in xs) xs ≡ pos Meta1.order_number
  unfolding ordered_in big_in
  ordered e = go (big_in xs) refl e
    where
      go : (b : Bool) → big_in xs ≡ b → (is Meta1.order_number (Meta1.order_field false xs) || b) ≡ true
          → Meta1.order_field b xs ≡ pos Meta1.order_number
      go true b e = within_one Meta1.order_number (Meta1.order_field true xs) b
      go false b e = within_one Meta1.order_number (Meta1.order_field false xs) (rw or-false at e)

  ordered_holds : Meta1.order_field (big_in xs) xs ≡ pos Meta1.order_number → ordered_in xs ≡ true
  unfolding ordered_in
  ordered_holds e = go (big_in xs) e
    where
      go : (b : Bool) → Meta1.order_field b xs ≡ pos Meta1.order_number → (is Meta1.order_number (Meta1.order_field false xs) || b) ≡ true
      go true e = or-true (is Meta1.order_number (Meta1.order_field false xs))
      go false e = rw e

  -- no other order could be read
  pub order_forced : (big : Bool) → 8 ≤ length xs → Meta1.order_field big xs ≡ pos Meta1.order_number → big_in xs ≡ big
  unfolding big_in
  order_forced true l e = rw e (is_refl Meta1.order_number)
  order_forced false l e = go (big_in xs) refl
    where
      go : (b : Bool) → is Meta1.order_number (Meta1.order_field true xs) ≡ b → b ≡ false
      go true b =
          let t = within_one Meta1.order_number (Meta1.order_field true xs) b in
          absurd
          (one_order xs 4 l (signed_pos (sign_bit 4) (number_at true 4 xs 4) Meta1.order_number t)
          (signed_pos (sign_bit 4) (number_at false 4 xs 4) Meta1.order_number e))
      go false b = refl

  module _ (len : ℕ) where
    pub start_numbered : Numbered (start_tests xs len)
    unfolding start_tests
    start_numbered = omega arith

    pub rank_numbered : Numbered (rank_tests xs)
    unfolding rank_tests
    rank_numbered = fields_numbered 8 (omega arith) _ (rank_rule (Meta1.rank_field (big_in xs) xs)) (tasks_in xs)

    pub size_numbered : Numbered (requested_tests xs)
    unfolding requested_tests
    size_numbered = fields_numbered 9 (omega arith) _ (λ i. within 1 max_size (Meta1.size_field (big_in xs) xs (tasks_in xs) i)) (tasks_in xs)

    last_numbered : Numbered (last_tests xs len)
    unfolding last_tests
    last_numbered = omega arith

    -- ranks and sizes pass exactly where they keep their rules
    pub ranks_hold : first_failing (rank_tests xs) ≡ 0 → ranks_rule (tasks_in xs) (Meta1.rank_field (big_in xs) xs) ≡ true
    unfolding rank_tests
    ranks_hold e = ranks_each (tasks_in xs) (Meta1.rank_field (big_in xs) xs) ∙ fields_hold 8 (omega arith) _ _ (tasks_in xs) e

    pub sizes_hold : first_failing (requested_tests xs) ≡ 0 → sizes_rule (tasks_in xs) (Meta1.size_field (big_in xs) xs (tasks_in xs)) ≡ true
    unfolding requested_tests sizes_rule
    sizes_hold e = fields_hold 9 (omega arith) _ _ (tasks_in xs) e

    ranks_pass : ranks_rule (tasks_in xs) (Meta1.rank_field (big_in xs) xs) ≡ true → first_failing (rank_tests xs) ≡ 0
    unfolding rank_tests
    ranks_pass e = fields_pass 8 (omega arith) _ _ (tasks_in xs) (sym (ranks_each (tasks_in xs) (Meta1.rank_field (big_in xs) xs)) ∙ e)

    sizes_pass : sizes_rule (tasks_in xs) (Meta1.size_field (big_in xs) xs (tasks_in xs)) ≡ true → first_failing (requested_tests xs) ≡ 0
    unfolding requested_tests sizes_rule
    sizes_pass e = fields_pass 9 (omega arith) _ _ (tasks_in xs) e

  module _ (f : File) (len : ℕ) where
    pub field_numbered : Numbered (field_tests xs f len)
    unfolding field_tests
    field_numbered = omega arith

    pub fixed_numbered : Numbered (fixed_tests xs f len)
    unfolding fixed_tests start_tests field_tests
    fixed_numbered = omega arith

    pub meta1_numbered : Numbered (meta1_tests xs f len)
    unfolding meta1_tests rest_tests
    meta1_numbered =
        each_append _ (fixed_tests xs f len) _ fixed_numbered
        (each_append _ (rank_tests xs) _ (rank_numbered len) (each_append _ (requested_tests xs) _ (size_numbered len) (last_numbered len)))

    pub meta1_holds : first_failing (meta1_tests xs f len) ≡ 0 → Meta1Holds f xs len
    unfolding meta1_tests start_tests field_tests fixed_tests last_tests rest_tests
    meta1_holds e =
        let (fixed, rest) = both_pass (fixed_tests xs f len) _ fixed_numbered e in
        let (ranks, rest) = both_pass (rank_tests xs) _ (rank_numbered len) rest in
        let (sizes, last) = both_pass (requested_tests xs) _ (size_numbered len) rest in
        let (mark, (order, (short, (format, (blocksize, (tasks, (files, (file_number, (long, end))))))))) = none_fails (fixed_tests xs f len) fixed_numbered fixed in
        let (unclosed, (maxchunks, (place, (fits, end)))) = none_fails (last_tests xs len) (last_numbered len) last in
        record {
          front = record {
            magic_is = not-false _ (or_right (ltb len (length Meta1.magic)) _ mark);
            order_is = ordered (not-false _ (or_right (ltb len 8) _ order));
            format = not-false _ format;
            blocksize = not-false _ blocksize;
            tasks = not-false _ tasks;
            files_are = within_one _ _ (not-false _ files);
            file_number_is = within_one _ _ (not-false _ file_number);
            long = ltb-false _ _ long;
            ranks = ranks_hold len ranks;
            sizes = sizes_hold len sizes;
          };
          maxchunks = not-false _ maxchunks;
          start_is = within_one _ _ (not-false _ place);
          fits = ltb-false _ _ fits;
        }

    -- META2 never starts at 0
    start_some : FrontHolds f xs len → 0 < meta2_in xs
    unfolding head_in meta2_in meta2_at meta2_start meta1_end
    start_some h =
        let b : ℕ = natural (Meta1.blocksize_field (big_in xs) xs) in
        let some : 0 < b = omega (arith, (blocksize_natural _ h.blocksize).1) in
        omega (arith, meta1_before_data b (tasks_in xs) some)

    -- where the fields before the last two keep their rules, the last two are asked
    pub front_passes : FrontHolds f xs len → first_failing (meta1_tests xs f len) ≡ first_failing (last_tests xs len)
    unfolding meta1_tests start_tests field_tests fixed_tests rest_tests meta1_end
    front_passes h =
        let mark = or_both (le-ltb len (length Meta1.magic) (omega arith)) (ap not h.magic_is) in
        let order = or_both (le-ltb len 8 (omega arith)) (ap not (ordered_holds h.order_is)) in
        let short = le-ltb len Meta1.fixed_length (omega arith) in
        let files = ap (λ (z : ℤ). not (is (files_of f) z)) h.files_are ∙ ap not (is_refl (files_of f)) in
        let file_number = ap (λ (z : ℤ). not (is (file_of f) z)) h.file_number_is ∙ ap not (is_refl (file_of f)) in
        let long = le-ltb len (meta1_end (tasks_in xs)) h.long in
        first_passes (fixed_tests xs f len) _ fixed_numbered
        (all_pass (fixed_tests xs f len)
        (mark, (order, (short, (ap not h.format, (ap not h.blocksize, (ap not h.tasks, (files, (file_number, (long, tt))))))))))
        ∙ first_passes (rank_tests xs) _ (rank_numbered len) (ranks_pass len h.ranks)
        ∙ first_passes (requested_tests xs) _ (size_numbered len) (sizes_pass len h.sizes)

    pub meta1_passes : Meta1Holds f xs len → first_failing (meta1_tests xs f len) ≡ 0
    unfolding last_tests
    meta1_passes h =
        let start : ℕ = meta2_in xs in
        let closed = ap (is 0) h.start_is ∙ within_over 0 0 start (start_some h.front) in
        let place = ap (λ (z : ℤ). not (is start z)) h.start_is ∙ ap not (is_refl start) in
        let fits = le-ltb len (end_at (head_in xs) (size_in xs) (maxchunks_in xs)) h.fits in
        front_passes h.front
        ∙ all_pass (last_tests xs len) (closed, (ap not h.maxchunks, (place, (fits, tt))))

-- the fields are numbers in their ranges
module _ {f : File} {xs : List ℕ} {len : ℕ} (h : FrontHolds f xs len) where
  pub format_in : InRange plain_format idle_format (Meta1.format_field (big_in xs) xs)
  format_in = format_natural _ h.format

  pub block_in : InRange min_blocksize max_blocksize (Meta1.blocksize_field (big_in xs) xs)
  block_in = blocksize_natural _ h.blocksize

  pub tasks_in_hold : InRange 1 max_tasks (Meta1.tasks_field (big_in xs) xs)
  tasks_in_hold = tasks_natural _ h.tasks

  pub rank_in_holds : (i : ℕ) → i < tasks_in xs → InRange 0 max_rank (Meta1.rank_field (big_in xs) xs i)
  rank_in_holds i l = within_natural 0 max_rank _ (ranks_within (tasks_in xs) (Meta1.rank_field (big_in xs) xs) h.ranks i l)

  pub size_in_holds : (i : ℕ) → i < tasks_in xs → InRange 1 max_size (Meta1.size_field (big_in xs) xs (tasks_in xs) i)
  size_in_holds i l = within_natural 1 max_size _ (sizes_within (tasks_in xs) (Meta1.size_field (big_in xs) xs (tasks_in xs)) h.sizes i l)

pub maxchunks_in_holds : {f : File} {xs : List ℕ} {len : ℕ} → Meta1Holds f xs len → InRange 0 max_blocks (Meta1.maxchunks_field (big_in xs) xs (tasks_in xs))
unfolding maxchunks_rule
maxchunks_in_holds h = within_natural 0 max_blocks _ h.maxchunks

-- ---- META2

module _ (h : Head) (size : ℕ → ℕ) (maxchunks : ℕ) (part : List ℕ) where
  pub record Meta2Holds : Type 0 where
    pub counts : Meta2.counts_rule h.format h.n maxchunks (Meta2.count_field (is_big h) part) ≡ true
    pub values : Meta2.values_rule h.n maxchunks (holds h size) (count_in h part) (Meta2.value_field (is_big h) part h.n) ≡ true

  -- the value of chunk k + 1 of task i + 1 keeps its rule
  abbrev pub value_kept : ℕ → ℕ → Bool
  value_kept k i =
      Meta2.value_rule (ltb k (count_in h part i)) (holds h size i) (Meta2.value_field (is_big h) part h.n (Meta2.value_index h.n k i))

  abbrev row_kept : ℕ → Bool
  row_kept k = all_below h.n (value_kept k)

  -- the tests, of a part that starts at `at` of the image
  module _ (at : ℕ) where
    pub count_numbered : Numbered (count_tests h size maxchunks at part)
    unfolding count_tests
    count_numbered = fields_numbered 13 (omega arith) _ (λ i. within (Meta2.least_count h.format) maxchunks (Meta2.count_field (is_big h) part i)) h.n

    pub greatest_numbered : 0 < (greatest_test h size maxchunks at part).number
    unfolding greatest_test
    greatest_numbered = omega arith

    -- the tests of a chunk's values, and of all
    abbrev row : ℕ → List Test
    row k = list_below h.n (value_test h size maxchunks at part k)

    abbrev pub broken_in : ℕ → Verdict
    broken_in k = record { refusal = 13; fault = (value_test h size maxchunks at part k (first_not h.n (value_kept k))).fault }

    row_numbered : (k : ℕ) → Numbered (row k)
    unfolding value_test
    row_numbered k = fields_numbered 13 (omega arith) _ (value_kept k) h.n

    pub row_verdict : (k : ℕ) → verdict (row k) ≡ cond (all_below h.n (value_kept k)) passed (broken_in k)
    unfolding value_test
    row_verdict k = fields_verdict 13 (omega arith) _ (value_kept k) h.n

    pub values_verdict : verdict (value_tests h size maxchunks at part) ≡ cond (all_below maxchunks row_kept) passed (broken_in (first_not maxchunks row_kept))
    unfolding value_tests
    values_verdict = join_verdict row row_kept broken_in row_numbered (λ k. omega arith) row_verdict maxchunks

    pub counts_numbered : Numbered (counts_tests h size maxchunks at part)
    unfolding counts_tests
    counts_numbered = each_append _ (count_tests h size maxchunks at part) _ count_numbered (greatest_numbered, tt)

    pub meta2_numbered : Numbered (meta2_tests h size maxchunks at part)
    unfolding meta2_tests value_tests
    meta2_numbered = each_append _ (counts_tests h size maxchunks at part) _ counts_numbered (each_join _ row row_numbered maxchunks)

    -- the counts pass exactly where they keep their rule
    pub counts_hold : first_failing (counts_tests h size maxchunks at part) ≡ 0
        → Meta2.counts_rule h.format h.n maxchunks (Meta2.count_field (is_big h) part) ≡ true
    unfolding counts_tests count_tests greatest_test count_in Meta2.counts_rule
    counts_hold e =
        let (counts, rest) = both_pass (count_tests h size maxchunks at part) _ count_numbered e in
        let (greatest, end) = next_passes (greatest_test h size maxchunks at part) [] greatest_numbered rest in
        rw (fields_hold 13 (omega arith) _ _ h.n counts) (not-false _ greatest)

    pub counts_pass : Meta2.counts_rule h.format h.n maxchunks (Meta2.count_field (is_big h) part) ≡ true
        → first_failing (counts_tests h size maxchunks at part) ≡ 0
    unfolding counts_tests count_tests greatest_test count_in Meta2.counts_rule
    counts_pass e =
        first_passes (count_tests h size maxchunks at part) _ count_numbered
        (fields_pass 13 (omega arith) _ _ h.n (and_left _ (eqb (greatest_below h.n (count_in h part)) maxchunks) e))
        ∙ all_pass (greatest_test h size maxchunks at part ∷ [])
        (ap not (and_right (all_below h.n (λ i. within (Meta2.least_count h.format) maxchunks (Meta2.count_field (is_big h) part i))) _ e), tt)

    pub meta2_holds : first_failing (meta2_tests h size maxchunks at part) ≡ 0 → Meta2Holds
    unfolding meta2_tests value_tests Meta2.values_rule
    meta2_holds e =
        let (counts, values) = both_pass (counts_tests h size maxchunks at part) _ counts_numbered e in
        record {
          counts = counts_hold counts;
          values = join_hold row row_kept broken_in row_numbered (λ k. omega arith) row_verdict maxchunks values;
        }

    pub meta2_passes : Meta2Holds → first_failing (meta2_tests h size maxchunks at part) ≡ 0
    unfolding meta2_tests value_tests Meta2.values_rule
    meta2_passes r =
        first_passes (counts_tests h size maxchunks at part) _ counts_numbered (counts_pass r.counts)
        ∙ join_pass row row_kept broken_in row_numbered (λ k. omega arith) row_verdict maxchunks r.values
