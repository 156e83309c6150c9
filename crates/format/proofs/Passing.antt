-- Tests 17, 18 and 19 as facts: what a sound head gives, what a record that passed them gives of a task, of its chunks and of its cells, and that
-- they pass where these facts hold.
use mathlib.Core.Path.{◌≡◌, ap, ap₂}
use mathlib.Core.Bool.{Bool, true, not, ◌&&◌}
use mathlib.Core.List.{List}
use Prim.Native.Nat.{ℕ, ◌+◌, ◌-◌, ◌*◌, ◌≤◌, ◌<◌}
use native.Mathlib.Nat.{le_trans, mul-le-mul_left}
use native.Mathlib.Omega.{arith}
use lib.Dec.{ltb, eqb}
use lib.IntN.{ℤ, pos}
use lib.ListN.{length}
use borrow.Author.Tests.{ltb-false, le-ltb, eq-eqb, not-false}
use Rattle.lists.proofs.Below.{and_left, and_right, or_left, or_right, or_both, greatest_le, greatest_ge}
use Rattle.endian.proofs.Signed.{InRange, within_facts, within_natural}
use Rattle.format.specs.Limits.{max_tasks, max_size, max_blocks, Sound, format_rule, blocksize_rule, tasks_rule, ranks_rule, sizes_rule}
use Rattle.format.specs.declared.head.Head.{Head}
use Rattle.format.specs.Refusals.{first_failing}
use Rattle.format.specs.Layout.{meta2_end}
use Rattle.format.specs.Meta2.{value_index, least_count}
use Rattle.format.specs.Record.{entry, cell, all_lists, ranks_of, sizes_of, rank_of, size_of, count_of, is_order, holds, start_of, head_sound, end_at, too_short, cells_agree, record_tests}
use Rattle.format.specs.Close.{maxchunks_of}
use Rattle.format.specs.Passed.{Passed, Meta2Fits}
use Rattle.format.proofs.Chunks.{capacity_small, chunk_before_meta2, meta2_end_mono}
use Rattle.format.proofs.Rules.{sizes_within, value_index_lt, values_used, values_fewer}
use Rattle.format.proofs.Refusals.{Numbered, none_fails, all_pass}
use Rattle.format.proofs.Fields.{tasks_facts}
use Rattle.format.proofs.Stripes.{length_sizes}

module _ (h : Head) (lists : List ℕ) (e : head_sound h lists ≡ true) where
  fixed_kept : (is_order h.order && format_rule (pos h.format) && blocksize_rule (pos h.blocksize) && tasks_rule (pos h.n)) ≡ true
  unfolding head_sound
  fixed_kept =
      and_left _ (ranks_rule h.n (λ i. pos (rank_of lists i)))
      (and_left _ (sizes_rule h.n (λ i. pos (size_of lists i))) e)

  pub head_tasks : (1 ≤ h.n) × (h.n ≤ max_tasks)
  head_tasks = tasks_facts h.n (and_right (is_order h.order && format_rule (pos h.format) && blocksize_rule (pos h.blocksize)) _ fixed_kept)

  pub head_block : blocksize_rule (pos h.blocksize) ≡ true
  head_block = and_right (is_order h.order && format_rule (pos h.format)) _ (and_left _ (tasks_rule (pos h.n)) fixed_kept)

  head_sizes : sizes_rule h.n (λ i. pos (size_of lists i)) ≡ true
  unfolding head_sound
  head_sizes =
      and_right
      (is_order h.order
      && format_rule (pos h.format)
      && blocksize_rule (pos h.blocksize)
      && tasks_rule (pos h.n)
      && ranks_rule h.n (λ i. pos (rank_of lists i)))
      _ e

  pub head_size : (i : ℕ) → i < h.n → size_of lists i ≤ max_size
  head_size i l = (within_facts 1 max_size (size_of lists i) (sizes_within h.n _ head_sizes i l)).1

  pub head_kept : length lists ≡ all_lists → Sound h.blocksize h.n (sizes_of lists)
  head_kept long = record {
    block = head_block;
    tasks = head_tasks.1;
    listed = omega (arith, head_tasks, length_sizes lists long);
    sized = head_sizes;
  }

-- it looks at ranks and sizes alone
pub sound_agree : (h : Head) (lists lists' : List ℕ) → ranks_of lists ≡ ranks_of lists' → sizes_of lists ≡ sizes_of lists'
    → head_sound h lists ≡ head_sound h lists'
unfolding head_sound
sound_agree h lists lists' ranks sizes =
    ap₂
    (λ (rs ss : List ℕ).
    is_order h.order
    && format_rule (pos h.format)
    && blocksize_rule (pos h.blocksize)
    && tasks_rule (pos h.n)
    && ranks_rule h.n (λ i. pos (entry rs i))
    && sizes_rule h.n (λ i. pos (entry ss i)))
    ranks sizes

-- ---- what a record that passed gives

module _ {h : Head} {lists : List ℕ} {m : ℕ} {image : List ℕ} {table : List ℤ} (p : Passed h lists m image table) where
  pub passed_sound : length lists ≡ all_lists → Sound h.blocksize h.n (sizes_of lists)
  passed_sound = head_kept h lists p.head

  pub passed_fits : length lists ≡ all_lists → Meta2Fits h lists m image table
  passed_fits long =
      record { as_many = long; sound = passed_sound long; few = p.few; image_long = p.image_long; table_long = p.table_long }

  -- of a task, counted from 1
  module _ (task : ℕ) (first : 1 ≤ task) (last : task ≤ h.n) where
    pub size_small : size_of lists (task - 1) ≤ max_size
    size_small = head_size h lists p.head (task - 1) (omega arith)

    pub holds_small : holds h (size_of lists) (task - 1) ≤ max_size
    unfolding holds
    holds_small = capacity_small _ _ (head_block h lists p.head) size_small

    pub count_few : count_of lists (task - 1) ≤ m
    count_few = (p.counts (task - 1) (omega arith)).1

    -- the cell of chunk k + 1 is in the table, and a chunk's bytes are in the image
    pub cell_listed : (k : ℕ) → k < m → value_index h.n k (task - 1) < length table
    cell_listed k l = omega (arith, value_index_lt h.n m k (task - 1) (omega arith) l, p.table_long)

    pub chunk_inside : (chunk : ℕ) → 1 ≤ chunk → chunk ≤ m
        → start_of h (size_of lists) task chunk + holds h (size_of lists) (task - 1) ≤ length image
    unfolding start_of holds end_at meta2_end
    chunk_inside chunk l b =
        omega (arith, p.image_long, chunk_before_meta2 h.blocksize h.n (size_of lists) task chunk m first last l b)

    -- a chunk in use has its bytes in its cell, no more than it holds
    pub cell_range : (k : ℕ) → k < count_of lists (task - 1)
        → InRange 0 (holds h (size_of lists) (task - 1)) (cell table (value_index h.n k (task - 1)))
    unfolding cells_agree
    cell_range k l =
        within_natural 0 _ _ (values_used _ m _ _ _ p.agree (task - 1) k (omega arith) (omega (arith, count_few)) l)

  -- it passes for the chunks that are in use
  pub passed_used : Passed h lists (maxchunks_of h.n lists) image table
  unfolding maxchunks_of end_at cells_agree
  passed_used =
      let most = greatest_le (count_of lists) h.n m (λ i l. (p.counts i l).1) in
      record {
        head = p.head;
        few = le_trans most p.few;
        counts = λ i l. ((p.counts i l).0, greatest_ge (count_of lists) h.n i l);
        image_long = le_trans (meta2_end_mono _ _ _ _ _ most) p.image_long;
        table_long = le_trans (mul-le-mul_left h.n most) p.table_long;
        agree = values_fewer _ m _ _ _ p.agree _ most;
      }

-- ---- the tests

-- what test 17 gives of the numbers, of a session or of a loaded record
abbrev pub SoundNumbers : Head → List ℕ → ℕ → Type 0
SoundNumbers h lists m =
    (head_sound h lists ≡ true)
    × (m ≤ max_blocks)
    × ((i : ℕ) → i < h.n → (least_count h.format ≤ count_of lists i) × (count_of lists i ≤ m))

module _ (closed : ℕ) (sound : Bool) (h : Head) (lists : List ℕ) (m : ℕ) (image : List ℕ) (table : List ℤ) where
  pub record_numbered : Numbered (record_tests closed sound h lists m image table)
  unfolding record_tests
  record_numbered = omega arith

  pub record_sound : first_failing (record_tests closed sound h lists m image table) ≡ 0 → sound ≡ true
  unfolding record_tests
  record_sound e =
      not-false _ (or_right (not (eqb closed 0)) _ (none_fails (record_tests closed sound h lists m image table) record_numbered e).0)

  pub record_passed : (sound ≡ true → SoundNumbers h lists m) → first_failing (record_tests closed sound h lists m image table) ≡ 0
      → Passed h lists m image table
  unfolding record_tests too_short end_at
  record_passed numbers e =
      let (bad, (short, (cells, end))) = none_fails (record_tests closed sound h lists m image table) record_numbered e in
      let (head, few, counts) = numbers (not-false _ (or_right (not (eqb closed 0)) _ bad)) in
      record {
        head = head;
        few = few;
        counts = counts;
        image_long = ltb-false _ _ (or_left (ltb (length image) (end_at h (size_of lists) m)) _ short);
        table_long = ltb-false _ _ (or_right (ltb (length image) (end_at h (size_of lists) m)) _ short);
        agree = not-false _ cells;
      }

  pub record_passes : closed ≡ 0 → sound ≡ true → end_at h (size_of lists) m ≤ length image → h.n * m ≤ length table
      → cells_agree h lists m table ≡ true → first_failing (record_tests closed sound h lists m image table) ≡ 0
  unfolding record_tests too_short end_at
  record_passes not_closed is image_long table_long agree =
      let bad = or_both (ap not (eq-eqb closed 0 not_closed)) (ap not is) in
      let short = or_both (le-ltb _ _ image_long) (le-ltb _ _ table_long) in
      all_pass (record_tests closed sound h lists m image table) (bad, (short, (ap not agree, tt)))
