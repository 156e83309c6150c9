-- Every container is accepted, with a table that is long enough, and what is handed back is what it says.
use mathlib.Core.Path.{◌≡◌, refl, ap, ◌∙◌}
use mathlib.Core.Bool.{Bool, true}
use mathlib.Core.List.{List}
use mathlib.Core.Logic.{inr}
use Prim.Native.Nat.{ℕ, ◌+◌, ◌*◌, ◌≤◌, ◌<◌, zero-le}
use native.Mathlib.Nat.{zero-add}
use native.Mathlib.Omega.{arith}
use lib.IntN.{ℤ, pos}
use lib.ListN.{length}
use Rattle.lists.specs.Below.{list_below}
use Rattle.endian.specs.Signed.{natural}
use Rattle.lists.specs.Splice.{splice}
use Rattle.lists.proofs.Below.{length_list, get_or_list}
use Rattle.endian.proofs.Signed.{within_holds}
use Rattle.lists.proofs.Splice.{length_splice, get_or_splice_in, get_or_splice_out}
use Rattle.format.specs.Limits.{max_tasks, max_blocks, maxchunks_rule}
use Rattle.format.specs.Layout.{meta2_end}
use Rattle.format.specs.declared.head.Head.{Head}
use Rattle.format.specs.declared.head.File.{File}
use Rattle.format.specs.Meta1
use Rattle.format.specs.Meta2
use Rattle.format.specs.Record.{cell, lists_of, order_of, files_of, file_of, holds, head_of, end_at}
use Rattle.format.specs.Judge.{maxchunks_in, head_in, rank_in, size_in, count_in, values_in}
use Rattle.format.specs.Refusals.{no_fault}
use Rattle.format.proofs.Refusals.{when_accepted}
use Rattle.format.proofs.Rules.{counts_hold, values_hold, values_agree, value_index_lt}
use Rattle.format.proofs.Stripes.{length_lists, lists_agree, rank_at_place, size_at_place, count_at_place, rank_made, size_made, count_made, rank_past, size_past, count_past}
use Rattle.format.proofs.Formats.{idle_least}
use Rattle.format.proofs.Record.{is_big_order, holds_agree, end_at_agree}
use Rattle.format.proofs.Accepting.{Meta1Holds, Meta2Holds}
use Rattle.format.specs.declared.loaded.Loaded.{Loaded}
use Rattle.format.specs.declared.loaded.LoadAnswer.{LoadAnswer}
use Rattle.format.specs.Loaded.{loaded_of}
use Rattle.format.specs.Container.{Contents, HasMeta1, HasMeta2, meta2_said, value_of, Lists, Recorded, Says, HeadSays}
use Rattle.format.specs.Load.{meta2_bytes, loaded_in, lists_in, load_refusal, check_answer, load_answer, load_table}
use Rattle.format.proofs.LoadTests.{load_holds, load_passes}
use Rattle.format.proofs.Fronts.{FrontSays, big_is, tasks_is, size_is, maxchunks_said, start_said, front_holds}

abbrev pub head_said : File → Contents → Head
head_said f s = head_of (order_of s.big) s.version s.patch s.format s.blocksize s.n (files_of f) (file_of f)

abbrev pub lists_said : Contents → List ℕ
lists_said s = lists_of s.n s.rank s.size s.count

-- a head that was made, number by number
pub head_says : {h : Head} {order : ℕ} {version patch : ℤ} {format blocksize n files file : ℕ}
    → h ≡ head_of order version patch format blocksize n files file → HeadSays h order version patch format blocksize n files file
head_says e = record {
  order_is = ap (λ (h : Head). h.order) e;
  version_is = ap (λ (h : Head). h.version) e;
  patch_is = ap (λ (h : Head). h.patch) e;
  format_is = ap (λ (h : Head). h.format) e;
  blocksize_is = ap (λ (h : Head). h.blocksize) e;
  tasks_are = ap (λ (h : Head). h.n) e;
  files_are = ap (λ (h : Head). h.files) e;
  file_is = ap (λ (h : Head). h.file) e;
}

-- lists that were made, entry by entry
pub lists_hold : (n : ℕ) (rank size count : ℕ → ℕ) → n ≤ max_tasks → {lists : List ℕ} → lists ≡ lists_of n rank size count
    → Lists n rank size count lists
lists_hold n rank size count few {lists} e =
    let made : List ℕ = lists_of n rank size count in
    rw e (record {
      ranks = λ i l. rank_at_place made i (omega arith) ∙ rank_made n rank size count few i l;
      sizes = λ i l. size_at_place made i (omega arith) ∙ size_made n rank size count few i l;
      counts = λ i l. count_at_place made i (omega arith) ∙ count_made n rank size count few i l;
      zeros = λ i past l. (
        rank_at_place made i l ∙ rank_past n rank size count i past l,
        size_at_place made i l ∙ size_past n rank size count i past l,
        count_at_place made i l ∙ count_past n rank size count i past l,
      );
      as_many = length_lists n rank size count;
    })

module _ (f : File) (image : List ℕ) (s : Contents) (one : HasMeta1 f image s) (two : HasMeta2 image s) where
  pub few : s.n ≤ max_tasks
  few = one.bounds.tasks_range.1

  -- ---- what it says keeps the rules, wherever it is read from

  pub maxchunks_kept : maxchunks_rule (pos s.maxchunks) ≡ true
  unfolding maxchunks_rule
  maxchunks_kept = within_holds 0 max_blocks s.maxchunks zero-le one.maxchunks_range

  pub counts_kept : (value : ℕ → ℤ) → ((i : ℕ) → i < s.n → value i ≡ pos (s.count i)) → Meta2.counts_rule s.format s.n s.maxchunks value ≡ true
  counts_kept value are =
      let (i, l, top) = two.greatest in
      counts_hold s.format s.n s.maxchunks value
      (λ i l. rw (are i l) (within_holds _ s.maxchunks (s.count i) (idle_least (λ four. two.counts_idle four i l)) (two.counts_range i l)))
      i l (ap natural (are i l) ∙ top)

  pub values_kept : (count : ℕ → ℕ) (value : ℕ → ℤ) → ((i : ℕ) → i < s.n → count i ≡ s.count i)
      → ((i k : ℕ) → i < s.n → k < s.count i → value (Meta2.value_index s.n k i) ≡ pos (s.written k i))
      → ((i k : ℕ) → i < s.n → s.count i ≤ k → k < s.maxchunks → value (Meta2.value_index s.n k i) ≡ Meta2.unused)
      → Meta2.values_rule s.n s.maxchunks (holds (head_said f s) s.size) count value ≡ true
  unfolding holds
  values_kept count value counts used others =
      values_hold s.n s.maxchunks _ count value
      (λ i k l h u.
      let v : k < s.count i = rw (counts i l) at u in
      rw (used i k l v)
      (within_holds 0 _ (s.written k i) zero-le (two.used_fit i k l v)))
      (λ i k l u h. others i k l (rw (counts i l) at u) h)

  -- ---- what is read of the image is what it says

  -- its fields before the last two hold what it says of them
  pub front : FrontSays f image s.big s.format s.blocksize s.n s.rank s.size
  front = record {
    bounds = one.bounds;
    long = one.long;
    magic_is = one.magic_is;
    order_is = one.order_is;
    format_is = one.format_is;
    format_known = one.format_known;
    blocksize_is = one.blocksize_is;
    tasks_are = one.tasks_are;
    files_are = one.files_are;
    file_number_is = one.file_number_is;
    ranks_are = one.ranks_are;
    sizes_are = one.sizes_are;
  }

  maxchunks_is : maxchunks_in image ≡ s.maxchunks
  maxchunks_is = maxchunks_said front one.maxchunks_is

  pub rank_is : (i : ℕ) → i < s.n → rank_in image i ≡ s.rank i
  unfolding rank_in
  rank_is i l = rw (big_is front) (ap natural (one.ranks_are i l))

  head_is : head_in image ≡ head_said f s
  unfolding head_in
  head_is = λ i. record {
    order = order_of (big_is front i);
    version = (ap (λ (b : Bool). Meta1.version_field b image) (big_is front) ∙ one.version_is) i;
    patch = (ap (λ (b : Bool). Meta1.patch_field b image) (big_is front) ∙ one.patch_is) i;
    format = ap natural (ap (λ (b : Bool). Meta1.format_field b image) (big_is front) ∙ one.format_is) i;
    blocksize = ap natural (ap (λ (b : Bool). Meta1.blocksize_field b image) (big_is front) ∙ one.blocksize_is) i;
    n = tasks_is front i;
    files = ap natural (ap (λ (b : Bool). Meta1.files_field b image) (big_is front) ∙ one.files_are) i;
    file = ap natural (ap (λ (b : Bool). Meta1.file_number_field b image) (big_is front) ∙ one.file_number_is) i;
  }

  pub end_said : end_at (head_in image) (size_in image) (maxchunks_in image) ≡ meta2_end s.blocksize s.n s.size s.maxchunks
  unfolding end_at
  end_said = rw (head_is, maxchunks_is) (end_at_agree (head_said f s) (size_in image) s.size (size_is front) s.maxchunks)

  part_is : meta2_bytes image ≡ meta2_said image s
  unfolding meta2_bytes
  part_is = rw (tasks_is front, maxchunks_is, start_said front one.maxchunks_is)

  count_is : (i : ℕ) → i < s.n → count_in (head_said f s) (meta2_said image s) i ≡ s.count i
  unfolding count_in
  count_is i l = rw (is_big_order s.big) (ap natural (two.counts_are i l))

  -- ---- its tests pass

  first_holds : Meta1Holds f image (length image)
  first_holds = record {
    front = front_holds front;
    maxchunks = rw (big_is front, tasks_is front, one.maxchunks_is) maxchunks_kept;
    start_is = rw (big_is front, tasks_is front, start_said front one.maxchunks_is) one.start_is;
    fits = rw end_said two.fits;
  }

  second_holds : Meta2Holds (head_said f s) (size_in image) s.maxchunks (meta2_said image s)
  second_holds = record {
    counts = rw (is_big_order s.big) (counts_kept _ two.counts_are);
    values =
        values_agree s.n s.maxchunks _ _ _ _ _ _ (holds_agree (head_said f s) (size_in image) s.size (size_is front)) (λ i l. refl) (λ j l. refl)
        ∙ rw (is_big_order s.big) (values_kept _ _ count_is two.used_first two.others_unused);
  }

  pub every : (cells : ℕ) → s.n * s.maxchunks ≤ cells → load_refusal f image cells ≡ 0
  every cells table_long = load_passes f image cells (record {
    first = first_holds;
    table_long = rw (tasks_is front, maxchunks_is) table_long;
    second = rw (head_is, maxchunks_is, part_is) second_holds;
  })

  -- ---- what is handed back

  abbrev values : List ℤ
  values = list_below (s.n * s.maxchunks) (Meta2.value_field s.big (meta2_said image s) s.n)

  values_said : values_in (head_said f s) s.maxchunks (meta2_said image s) ≡ values
  unfolding values_in
  values_said = rw (is_big_order s.big)

  module _ (table : List ℤ) (accepted : load_refusal f image (length table) ≡ 0) where
    answer_is : load_answer f image table ≡ record { loaded = loaded_in image; lists = lists_in image; refusal = 0; fault = no_fault }
    unfolding load_answer check_answer
    answer_is = when_accepted _ _ _ accepted

    pub loaded_is : (load_answer f image table).loaded ≡ loaded_of (head_said f s) s.maxchunks 0
    unfolding loaded_in
    loaded_is = rw (answer_is, head_is, maxchunks_is)

    pub lists_are : (load_answer f image table).lists ≡ lists_said s
    unfolding lists_in
    lists_are =
        ap (λ (a : LoadAnswer). a.lists) answer_is
        ∙ rw (tasks_is front, head_is, part_is) (lists_agree s.n _ _ _ _ _ _ rank_is (size_is front) count_is)

    table_is : load_table f image table ≡ splice table 0 values
    unfolding load_table
    table_is = when_accepted _ _ _ accepted ∙ ap (splice table 0) (rw (head_is, maxchunks_is, part_is) values_said)

    pub table_long : s.n * s.maxchunks ≤ length table
    table_long = rw (tasks_is front, maxchunks_is) at (load_holds f image (length table) accepted).table_long

    fits : 0 + length values ≤ length table
    fits = rw (zero-add, length_list) table_long

    cell_is : (i k : ℕ) → i < s.n → k < s.maxchunks
        → cell (load_table f image table) (Meta2.value_index s.n k i) ≡ value_of image s k i
    cell_is i k l h =
        let j : ℕ = Meta2.value_index s.n k i in
        let below = value_index_lt s.n s.maxchunks k i l h in
        rw table_is
        (rw zero-add at (get_or_splice_in table 0 values fits j (pos 0) (rw length_list below))
        ∙ get_or_list _ _ j (pos 0) below)

    recorded : Recorded f s (load_answer f image table).loaded (load_answer f image table).lists
    recorded =
        let e = loaded_is in record {
          head = head_says (ap (λ (l : Loaded). l.head) e);
          maxchunks = ap (λ (l : Loaded). l.maxchunks) e;
          not_closed = ap (λ (l : Loaded). l.closed) e;
          listed = lists_hold s.n s.rank s.size s.count few lists_are;
        }

    pub says : Says f s (load_answer f image table).loaded (load_answer f image table).lists table (load_table f image table)
    says = record {
      recorded = recorded;
      used_cells = λ i k l u. cell_is i k l (omega (arith, two.counts_range i l)) ∙ two.used_first i k l u;
      unused_cells = λ i k l u h. cell_is i k l h ∙ two.others_unused i k l u h;
      other_cells = λ j l. rw table_is (get_or_splice_out table 0 values fits j (pos 0) (inr (rw (zero-add, length_list) l)));
      as_long = rw table_is (length_splice table 0 values fits);
    }
