-- Laws of a record's lists: what stands in the stripes of lists that were made, and how lists are made in place and a count is changed.
use mathlib.Core.Path.{◌≡◌, refl, sym, ap, ap₂, ◌∙◌}
use mathlib.Core.Bool.{Bool, true, false, cond}
use mathlib.Core.List.{List, [], ◌∷◌, ◌++◌, append_assoc}
use mathlib.Core.Logic.{inr}
use Prim.Native.Nat.{ℕ, ◌+◌, ◌*◌, ◌<◌, ◌≤◌}
use native.Mathlib.Nat.{zero-add}
use native.Mathlib.Omega.{arith}
use borrow.Author.Tests.{ltb-true, ltb-false}
use lib.Dec.{ltb}
use lib.ListN.{length, take, drop, get_or, set, replicate, length-append, length-drop, length-replicate, get_or-replicate, replicate-append-replicate}
use lib.Seq.{ext_get_or, length-take-le, take_at, drop_at, take_all, drop-append-le, drop-append-add, get_or-take, get_or-drop, take-set-le, take-set-lt, drop-set-add}
use Rattle.lists.specs.Below.{list_below}
use Rattle.lists.specs.Splice.{splice}
use Rattle.lists.proofs.Below.{length_list, get_or_list, list_replicate, join_cong}
use Rattle.lists.proofs.Splice.{length_splice, splice_before, get_or_splice_in, get_or_splice_out}
use Rattle.format.specs.Limits.{max_tasks}
use Rattle.format.specs.Record.{entry, all_lists, ranks_of, sizes_of, counts_of, rank_of, size_of, count_of, count_at, filled, lists_of, no_lists, with_counts}
use Rattle.format.proofs.Filled.{length_filled, entry_filled, entry_past, filled_cong}

-- ---- stripes

module _ (lists : List ℕ) (long : length lists ≡ all_lists) where
  pub length_ranks : length (ranks_of lists) ≡ max_tasks
  length_ranks = length-take-le max_tasks lists (omega arith)

  pub length_sizes : length (sizes_of lists) ≡ max_tasks
  length_sizes = length-take-le max_tasks (drop max_tasks lists) (simp length-drop (omega arith))

  pub length_counts : length (counts_of lists) ≡ max_tasks
  length_counts = length-take-le max_tasks (drop (2 * max_tasks) lists) (simp length-drop (omega arith))

-- a rank, a size and a count, where they stand among the lists
module _ (lists : List ℕ) (i : ℕ) (l : i < max_tasks) where
  pub rank_at_place : entry lists i ≡ rank_of lists i
  rank_at_place = sym (get_or-take max_tasks lists i 0 l)

  pub size_at_place : entry lists (max_tasks + i) ≡ size_of lists i
  size_at_place = sym (get_or-take max_tasks (drop max_tasks lists) i 0 l ∙ get_or-drop max_tasks lists i 0)

  pub count_at_place : entry lists (count_at i) ≡ count_of lists i
  count_at_place = sym (get_or-take max_tasks (drop (2 * max_tasks) lists) i 0 l ∙ get_or-drop (2 * max_tasks) lists i 0)

-- ---- the stripes of lists that were made

module _ (n : ℕ) (rank size count : ℕ → ℕ) where
  pub length_lists : length (lists_of n rank size count) ≡ all_lists
  unfolding lists_of
  length_lists = simp (length-append, length_filled)

  pub ranks_made : ranks_of (lists_of n rank size count) ≡ filled n rank
  unfolding lists_of
  ranks_made = take_at (filled n rank) _ max_tasks (length_filled n rank)

  pub sizes_made : sizes_of (lists_of n rank size count) ≡ filled n size
  unfolding lists_of
  sizes_made = ap (take max_tasks) (drop_at (filled n rank) _ max_tasks (length_filled n rank)) ∙ take_at (filled n size) _ max_tasks (length_filled n size)

  pub counts_made : counts_of (lists_of n rank size count) ≡ filled n count
  unfolding lists_of
  counts_made =
      ap (take max_tasks)
      (ap (drop (2 * max_tasks)) (sym (append_assoc (filled n rank) (filled n size) (filled n count)))
      ∙ drop_at (filled n rank ++ filled n size) (filled n count) (2 * max_tasks) (simp (length-append, length_filled)))
      ∙ take_all max_tasks (filled n count) (omega (arith, length_filled n count))

  -- entry by entry
  module _ (few : n ≤ max_tasks) (i : ℕ) (l : i < n) where
    pub rank_made : rank_of (lists_of n rank size count) i ≡ rank i
    rank_made = rw ranks_made (entry_filled n rank i few l)

    pub size_made : size_of (lists_of n rank size count) i ≡ size i
    size_made = rw sizes_made (entry_filled n size i few l)

    pub count_made : count_of (lists_of n rank size count) i ≡ count i
    count_made = rw counts_made (entry_filled n count i few l)

  -- an entry past n is 0
  module _ (i : ℕ) (past : n ≤ i) (l : i < max_tasks) where
    pub rank_past : rank_of (lists_of n rank size count) i ≡ 0
    rank_past = rw ranks_made (entry_past n rank i past l)

    pub size_past : size_of (lists_of n rank size count) i ≡ 0
    size_past = rw sizes_made (entry_past n size i past l)

    pub count_past : count_of (lists_of n rank size count) i ≡ 0
    count_past = rw counts_made (entry_past n count i past l)

-- lists of the same entries
pub lists_agree : (n : ℕ) (rank rank' size size' count count' : ℕ → ℕ) → ((i : ℕ) → i < n → rank i ≡ rank' i)
    → ((i : ℕ) → i < n → size i ≡ size' i) → ((i : ℕ) → i < n → count i ≡ count' i)
    → lists_of n rank size count ≡ lists_of n rank' size' count'
unfolding lists_of
lists_agree n rank rank' size size' count count' ranks sizes counts =
    ap₂ ◌++◌ (filled_cong n rank rank' ranks) (ap₂ ◌++◌ (filled_cong n size size' sizes) (filled_cong n count count' counts))

-- ---- lists made in place

splice_left : (xs ys vs : List ℕ) → length vs ≤ length xs → splice (xs ++ ys) 0 vs ≡ splice xs 0 vs ++ ys
unfolding splice
splice_left xs ys vs l = rw (zero-add, drop-append-le (length vs) xs ys l) (sym (append_assoc vs (drop (length vs) xs) ys))

splice_right : (xs ys vs : List ℕ) (k : ℕ) → length xs ≡ k → splice (xs ++ ys) k vs ≡ xs ++ splice ys 0 vs
unfolding splice
splice_right xs ys vs k e =
    rw (sym e, take_at xs ys (length xs) refl, drop-append-add xs ys (length vs), zero-add)

abbrev zeros : List ℕ
zeros = replicate max_tasks 0

length_zeros : length zeros ≡ max_tasks
length_zeros = length-replicate {A = ℕ} max_tasks 0

-- n entries put into a stripe of zeros
module _ (n : ℕ) (f : ℕ → ℕ) (few : n ≤ max_tasks) where
  fits : 0 + length (list_below n f) ≤ length zeros
  fits = rw (length_list f n, length_zeros) (omega arith)

  stripe : splice zeros 0 (list_below n f) ≡ filled n f
  stripe =
      let long : length (splice zeros 0 (list_below n f)) ≡ max_tasks = length_splice zeros 0 (list_below n f) fits ∙ length_zeros in
      ext_get_or 0 (splice zeros 0 (list_below n f)) (filled n f) (long ∙ sym (length_filled n f)) (λ i l. go i (rw long at l) (ltb i n) refl)
    where
      go : (i : ℕ) → i < max_tasks → (b : Bool) → ltb i n ≡ b → get_or (splice zeros 0 (list_below n f)) i 0 ≡ get_or (filled n f) i 0
      go i l true e =
          let h : i < n = ltb-true i n e in
          ap (λ (k : ℕ). get_or (splice zeros 0 (list_below n f)) k 0) (sym (zero-add i))
          ∙ get_or_splice_in zeros 0 (list_below n f) fits i 0 (rw (length_list f n) h)
          ∙ get_or_list f n i 0 h ∙ sym (entry_filled n f i few h)
      go i l false e =
          let h : n ≤ i = ltb-false i n e in
          get_or_splice_out zeros 0 (list_below n f) fits i 0 (inr (rw (length_list f n) (omega arith)))
          ∙ get_or-replicate max_tasks i 0 0 l ∙ sym (entry_past n f i h l)

-- lists of zeros, one stripe at a time
zeros_apart : no_lists ≡ zeros ++ (zeros ++ zeros)
zeros_apart =
    sym (ap (λ (xs : List ℕ). zeros ++ xs) (replicate-append-replicate max_tasks max_tasks 0)
    ∙ replicate-append-replicate max_tasks (max_tasks + max_tasks) 0)

no_entries : (n : ℕ) → zeros ≡ filled n (λ i. 0)
unfolding filled
no_entries n =
    sym (list_replicate max_tasks 0) ∙ join_cong (λ i. 0 ∷ []) (λ i. cond (ltb i n) 0 0 ∷ []) max_tasks (λ i l. go (ltb i n))
  where
    go : (b : Bool) → ◌≡◌ {A = List ℕ} (0 ∷ []) (cond b 0 0 ∷ [])
    go true = refl
    go false = refl

module _ (n : ℕ) (rank size : ℕ → ℕ) (few : n ≤ max_tasks) where
  -- ranks, then sizes
  pub lists_put : splice (splice no_lists 0 (list_below n rank)) max_tasks (list_below n size) ≡ lists_of n rank size (λ i. 0)
  unfolding lists_of
  lists_put =
      let short : (f : ℕ → ℕ) → length (list_below n f) ≤ length zeros = λ f. rw (length_list f n, length_zeros) few in
      ap (λ (xs : List ℕ). splice xs max_tasks (list_below n size))
      (ap (λ (xs : List ℕ). splice xs 0 (list_below n rank)) zeros_apart
      ∙ splice_left zeros (zeros ++ zeros) (list_below n rank) (short rank)
      ∙ ap (λ (xs : List ℕ). xs ++ (zeros ++ zeros)) (stripe n rank few))
      ∙ splice_right (filled n rank) (zeros ++ zeros) (list_below n size) max_tasks (length_filled n rank)
      ∙ ap (λ (xs : List ℕ). filled n rank ++ xs)
      (splice_left zeros zeros (list_below n size) (short size) ∙ ap₂ ◌++◌ (stripe n size few) (no_entries n))

  -- after the ranks alone the lists are as long as before
  pub length_ranked : length (splice no_lists 0 (list_below n rank)) ≡ all_lists
  length_ranked =
      let zeros : length no_lists ≡ all_lists = length-replicate {A = ℕ} all_lists 0 in
      let fits : 0 + length (list_below n rank) ≤ length no_lists = omega (arith, length_list rank n) in
      length_splice no_lists 0 (list_below n rank) fits ∙ zeros

  -- then counts
  pub counts_put : (count : ℕ → ℕ) → with_counts (lists_of n rank size (λ i. 0)) n count ≡ lists_of n rank size count
  unfolding lists_of with_counts
  counts_put count =
      ap (λ (xs : List ℕ). splice xs (2 * max_tasks) (list_below n count)) (sym (append_assoc (filled n rank) (filled n size) (filled n (λ i. 0))))
      ∙ splice_right (filled n rank ++ filled n size) (filled n (λ i. 0)) (list_below n count) (2 * max_tasks) (simp (length-append, length_filled))
      ∙ ap (λ (xs : List ℕ). (filled n rank ++ filled n size) ++ splice xs 0 (list_below n count)) (sym (no_entries n))
      ∙ ap (λ (xs : List ℕ). (filled n rank ++ filled n size) ++ xs) (stripe n count few)
      ∙ append_assoc (filled n rank) (filled n size) (filled n count)

-- ---- counts put, and one count changed: ranks and sizes stay

module _ (lists : List ℕ) (n : ℕ) (count : ℕ → ℕ) (few : n ≤ max_tasks) (long : length lists ≡ all_lists) where
  counts_fit : count_at 0 + length (list_below n count) ≤ length lists
  counts_fit = rw (length_list count n, long) (omega arith)

  pub length_counted : length (with_counts lists n count) ≡ all_lists
  unfolding with_counts
  length_counted = length_splice lists (count_at 0) (list_below n count) counts_fit ∙ long

  pub sizes_counted : sizes_of (with_counts lists n count) ≡ sizes_of lists
  unfolding with_counts
  sizes_counted = splice_before lists (count_at 0) (list_below n count) counts_fit max_tasks max_tasks (omega arith)

  pub count_counted : (i : ℕ) → i < n → entry (counts_of (with_counts lists n count)) i ≡ count i
  unfolding with_counts
  count_counted i l =
      get_or-take max_tasks (drop (2 * max_tasks) (splice lists (count_at 0) (list_below n count))) i 0 (omega arith)
      ∙ get_or-drop (2 * max_tasks) (splice lists (count_at 0) (list_below n count)) i 0
      ∙ get_or_splice_in lists (count_at 0) (list_below n count) counts_fit i 0 (rw (length_list count n) l)
      ∙ get_or_list count n i 0 l

module _ (lists : List ℕ) (i v : ℕ) where
  pub ranks_kept : ranks_of (set lists (count_at i) v) ≡ ranks_of lists
  ranks_kept = take-set-le max_tasks lists (count_at i) v (omega arith)

  pub sizes_kept : i < max_tasks → sizes_of (set lists (count_at i) v) ≡ sizes_of lists
  sizes_kept l =
      let e : count_at i ≡ max_tasks + (max_tasks + i) = omega arith in
      ap (take max_tasks) (ap (λ (k : ℕ). drop max_tasks (set lists k v)) e ∙ drop-set-add max_tasks lists (max_tasks + i) v)
      ∙ take-set-le max_tasks (drop max_tasks lists) (max_tasks + i) v (omega arith)

  pub counts_set : i < max_tasks → counts_of (set lists (count_at i) v) ≡ set (counts_of lists) i v
  counts_set l =
      ap (take max_tasks) (drop-set-add (2 * max_tasks) lists i v) ∙ take-set-lt max_tasks (drop (2 * max_tasks) lists) i v l
