-- The mapping of the ranks at the front of two records' lists is that of the records.
use mathlib.Core.Path.{◌≡◌, ap}
use mathlib.Core.Bool.{Bool}
use mathlib.Core.List.{List, ◌++◌}
use Prim.Native.Nat.{ℕ, ◌≤◌, ◌<◌}
use native.Mathlib.Omega.{arith}
use lib.IntN.{pos}
use lib.ListN.{length, take}
use lib.Seq.{get_or-take}
use Rattle.std.proofs.Common.{sym, ◌∙◌}
use Rattle.lists.proofs.Below.{join_cong}
use Rattle.endian.specs.Signed.{signed_digits}
use Rattle.format.specs.Limits.{max_tasks}
use Rattle.format.specs.Record.{entry, all_lists, rank_of}
use Rattle.pairs.specs.Ranks.{mapping_size}
use Rattle.pairs.specs.Mapping.{mapping}
use Rattle.pairs.proofs.Ranks.{second_agree, local_agree}
use Rattle.ranks.proofs.Carrying.{length_first, length_second}

module _ (lists lists' : List ℕ) (long : length lists ≡ all_lists) (long' : length lists' ≡ all_lists) (n m : ℕ) (few : n ≤ max_tasks) (few' : m ≤ max_tasks) where
  same : (xs : List ℕ) (k i : ℕ) → k ≤ max_tasks → i < k → entry (take k xs) i ≡ rank_of xs i
  same xs k i l within = get_or-take k xs i 0 within ∙ sym (get_or-take max_tasks xs i 0 (omega arith))

  pub mapping_listed : (big : Bool)
      → mapping (length (take n lists)) (length (take m lists')) (entry (take n lists)) (entry (take m lists')) big ≡ mapping n m (rank_of lists) (rank_of lists') big
  unfolding mapping
  mapping_listed big =
      rw (length_first lists lists' long long' n m few few', length_second lists lists' long long' n m few few')
      (ap (λ (bytes : List ℕ). signed_digits big 4 (pos (mapping_size n m)) ++ bytes)
      (join_cong _ _ (mapping_size n m)
      (λ r l.
      let second = second_agree n m _ _ (rank_of lists) (rank_of lists') (λ i k. same lists n i few k) (λ i k. same lists' m i few' k) r in
      let local = local_agree n m _ _ (rank_of lists) (rank_of lists') (λ i k. same lists n i few k) (λ i k. same lists' m i few' k) r in
      rw (second, local))))
