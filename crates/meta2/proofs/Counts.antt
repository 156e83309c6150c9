-- The counts of n tasks, as a slice of the lists: their rule is that of the first n counts.
use mathlib.Core.Path.{◌≡◌, refl, ap, ap₂}
use mathlib.Core.Bool.{◌&&◌}
use mathlib.Core.List.{List}
use Prim.Native.Nat.{ℕ, ◌≤◌}
use native.Mathlib.Omega.{arith}
use lib.Dec.{eqb}
use lib.IntN.{ℤ, pos}
use lib.ListN.{length, take}
use lib.Seq.{length-take-le, get_or-take}
use Rattle.lists.specs.Below.{greatest_below}
use Rattle.lists.proofs.Below.{all_cong, greatest_cong}
use Rattle.endian.specs.Signed.{within}
use Rattle.format.specs.Limits.{max_tasks}
use Rattle.format.specs.Meta2.{least_count, counts_rule, values_rule}
use Rattle.format.specs.Record.{entry, all_lists, counts_of, count_of}
use Rattle.format.proofs.Rules.{values_agree}
use Rattle.format.proofs.Stripes.{length_counts}

module _ (lists : List ℕ) (long : length lists ≡ all_lists) (n : ℕ) (few : n ≤ max_tasks) where
  -- the slice
  abbrev pub first_counts : List ℕ
  first_counts = take n (counts_of lists)

  pub enough : n ≤ length (counts_of lists)
  enough = omega (arith, length_counts lists long)

  pub greatest_first : greatest_below (length first_counts) (entry first_counts) ≡ greatest_below n (count_of lists)
  greatest_first =
      rw (length-take-le n (counts_of lists) enough)
      (greatest_cong (entry first_counts) (count_of lists) n (λ i l. get_or-take n (counts_of lists) i 0 l))

  pub rule_first : (format maxchunks : ℕ)
      → counts_rule format (length first_counts) maxchunks (λ i. pos (entry first_counts i)) ≡ counts_rule format n maxchunks (λ i. pos (count_of lists i))
  unfolding counts_rule
  rule_first format maxchunks =
      rw (length-take-le n (counts_of lists) enough)
      (ap₂ ◌&&◌
      (all_cong _ _ n (λ i l. ap (λ (v : ℕ). within (least_count format) maxchunks (pos v)) (get_or-take n (counts_of lists) i 0 l)))
      (ap (λ (most : ℕ). eqb most maxchunks) (greatest_cong (entry first_counts) (count_of lists) n (λ i l. get_or-take n (counts_of lists) i 0 l))))

  -- the values are judged by the counts of the n tasks alone
  pub values_first : (m : ℕ) (holds : ℕ → ℕ) (value : ℕ → ℤ)
      → values_rule n m holds (entry first_counts) value ≡ values_rule n m holds (count_of lists) value
  values_first m holds value =
      values_agree n m holds holds (entry first_counts) (count_of lists) value value (λ i l. refl) (λ i l. get_or-take n (counts_of lists) i 0 l) (λ j l. refl)
