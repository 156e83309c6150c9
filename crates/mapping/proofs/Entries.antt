-- The entries of the mapping as code makes them are those of the rules.
use mathlib.Core.Path.{◌≡◌, ap, ◌∙◌}
use mathlib.Core.Bool.{Bool, true, false, cond}
use mathlib.Core.List.{List, ◌++◌}
use Prim.Native.Nat.{ℕ, ◌+◌, ◌-◌, ◌*◌, ◌≤◌, ◌<◌}
use native.Mathlib.Omega.{arith}
use lib.Dec.{ltb}
use lib.ListN.{length, take, length-append, length-take}
use lib.Seq.{take_at, get_or-take}
use borrow.Author.Tests.{lt-ltb, le-ltb}
use Rattle.endian.specs.Number.{digits}
use Rattle.endian.proofs.Number.{length_digits}
use Rattle.lists.specs.Splice.{splice}
use Rattle.lists.proofs.Splice.{put_first, put_then}
use Rattle.lists.specs.Below.{join_below}
use Rattle.lists.proofs.Below.{join_cong, length_list, length_join}
use Rattle.format.specs.Limits.{max_tasks}
use Rattle.format.specs.Record.{entry}
use Rattle.pairs.specs.Ranks.{none_lacking, in_second, local_rank}
use Rattle.pairs.specs.Mapping.{mapping_length, mapping}
use Rattle.ranks.specs.Holders.{holder, holders}
use Rattle.ranks.proofs.Holding.{holder_at}
use Rattle.ranks.proofs.Finding.{Place, in_first, in_second_file, place}
use Rattle.mapping.specs.Entries.{task_in, entry_bytes, AllHeld}

pub length_entry : (big second : Bool) (task : ℕ) → length (entry_bytes big second task) ≡ 8
unfolding entry_bytes
length_entry big second task = simp (length-append, length_digits)

-- a task's number is not over the row's
pub task_small : (n holder : ℕ) → task_in n holder ≤ holder
unfolding task_in
task_small n holder = go (ltb n holder)
  where
    go : (b : Bool) → cond b (holder - n - 1) (holder - 1) ≤ holder
    go true = omega arith
    go false = omega arith

module _ (n m : ℕ) (rank rank' : ℕ → ℕ) where
  -- the part of the row that code goes through
  abbrev pub row : List ℕ
  row = take (n + m) (holders n m rank rank')

  pub length_row : n ≤ max_tasks → m ≤ max_tasks → length row ≡ n + m
  unfolding holders
  length_row few few' = rw (length-take, length_list) (omega arith)

  row_at : n ≤ max_tasks → m ≤ max_tasks → (r : ℕ) → r < n + m → entry row r ≡ holder n m rank rank' r
  row_at few few' r l = get_or-take (n + m) (holders n m rank rank') r 0 l ∙ holder_at n m rank rank' r (omega arith) l

  -- each rank has a task in the row
  pub all_held : n ≤ max_tasks → m ≤ max_tasks → none_lacking n m rank rank' ≡ true → AllHeld row
  all_held few few' none = record {
    few = omega (arith, length_row few few');
    some = λ r l. let l : r < n + m = omega (arith, length_row few few') in rw (row_at few few' r l) (least r (place n m rank rank' none r l));
    most = λ r l.
        let l : r < n + m = omega (arith, length_row few few') in
        rw (row_at few few' r l, length_row few few') (most r (place n m rank rank' none r l));
  }
    where
      least : (r : ℕ) → Place n m rank rank' r → 1 ≤ holder n m rank rank' r
      least r (in_first _ _ e) = omega arith
      least r (in_second_file _ _ e) = omega arith

      most : (r : ℕ) → Place n m rank rank' r → holder n m rank rank' r ≤ n + m
      most r (in_first _ l e) = omega arith
      most r (in_second_file _ l e) = omega arith

  -- and its entry is that of the rules
  entry_is : (big : Bool) (r : ℕ) → Place n m rank rank' r
      → entry_bytes big (ltb n (holder n m rank rank' r)) (task_in n (holder n m rank rank' r))
      ≡ entry_bytes big (in_second n m rank rank' r) (local_rank n m rank rank' r)
  unfolding task_in
  entry_is big r (in_first e l is) =
      let under : ltb n (holder n m rank rank' r) ≡ false = le-ltb n _ (omega arith) in
      let task : holder n m rank rank' r - 1 ≡ local_rank n m rank rank' r = omega arith in
      rw (under, e, task)
  entry_is big r (in_second_file e l is) =
      let over : ltb n (holder n m rank rank' r) ≡ true = lt-ltb n _ (omega arith) in
      let task : holder n m rank rank' r - n - 1 ≡ local_rank n m rank rank' r = omega arith in
      rw (over, e, task)

  pub entries_are : (big : Bool) → n ≤ max_tasks → m ≤ max_tasks → none_lacking n m rank rank' ≡ true
      → join_below (length row) (λ r. entry_bytes big (ltb n (entry row r)) (task_in n (entry row r)))
      ≡ join_below (n + m) (λ r. entry_bytes big (in_second n m rank rank' r) (local_rank n m rank rank' r))
  entries_are big few few' none =
      rw (length_row few few')
      (join_cong _ _ (n + m) (λ r l. rw (row_at few few' r l) (entry_is big r (place n m rank rank' none r l))))

  abbrev entries : Bool → List ℕ
  entries big = join_below (n + m) (λ r. entry_bytes big (in_second n m rank rank' r) (local_rank n m rank rank' r))

  length_entries : (big : Bool) → length (entries big) ≡ (n + m) * 8
  length_entries big = length_join _ (n + m) 8 (λ r l. length_entry big _ _)

  pub length_mapping : (big : Bool) → length (mapping n m rank rank' big) ≡ mapping_length n m
  unfolding mapping mapping_length entry_bytes
  length_mapping big = rw (length-append, length_digits big 4 (n + m)) (omega (arith, length_entries big))

  -- mapping_size at the start of zeros, and the entries from 4 on, are the mapping
  pub mapping_made : (big : Bool) (zeros : List ℕ) {ys zs : List ℕ} → mapping_length n m ≤ length zeros
      → ys ≡ splice zeros 0 (digits big 4 (n + m)) → zs ≡ splice ys 4 (entries big) → take (4 + 8 * (n + m)) zs ≡ mapping n m rank rank' big
  unfolding mapping mapping_length entry_bytes splice
  mapping_made big zeros {ys} {zs} long one two =
      let size = put_first zeros 0 (digits big 4 (n + m)) 4 (length_digits big 4 (n + m)) one in
      let all = (put_then zeros 0 (digits big 4 (n + m)) (entries big) ((n + m) * 8) size (length_entries big) two (omega arith)).0 in
      let same : length (digits big 4 (n + m) ++ entries big) ≡ 4 + 8 * (n + m) =
      rw (length-append, length_digits big 4 (n + m)) (omega (arith, length_entries big)) in
      ap (take (4 + 8 * (n + m))) all ∙ take_at (digits big 4 (n + m) ++ entries big) _ (4 + 8 * (n + m)) same
