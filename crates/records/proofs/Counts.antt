-- The counts of a record's tasks, as the first numbers of their stripe.
use mathlib.Core.Path.{◌≡◌, ap, ap₂}
use mathlib.Core.Bool.{true, ◌&&◌}
use mathlib.Core.List.{List}
use Prim.Native.Nat.{ℕ, ◌≤◌}
use native.Mathlib.Omega.{arith}
use lib.Dec.{eqb}
use lib.IntN.{pos}
use lib.ListN.{length, take, get_or}
use lib.Seq.{length-take-le, get_or-take}
use Rattle.lists.specs.Below.{all_below}
use Rattle.lists.proofs.Below.{all_cong}
use Rattle.endian.specs.Signed.{within}
use Rattle.format.specs.declared.head.Head.{Head}
use Rattle.format.specs.Meta2.{least_count, counts_rule}
use Rattle.format.specs.Record.{all_lists, counts_of, count_of, head_sound}
use Rattle.format.proofs.Passing.{head_tasks}
use Rattle.format.proofs.Stripes.{length_counts}
use Rattle.tables.proofs.Counts.{greatest_taken}

module _ (h : Head) (lists : List ℕ) (long : length lists ≡ all_lists) (sound : head_sound h lists ≡ true) where
  pub counted : h.n ≤ length (counts_of lists)
  counted = omega (arith, head_tasks h lists sound, length_counts lists long)

  -- of a session
  pub within_taken : (least most : ℕ)
      → all_below (length (take h.n (counts_of lists))) (λ i. within least most (pos (get_or (take h.n (counts_of lists)) i 0)))
      ≡ all_below h.n (λ i. within least most (pos (count_of lists i)))
  within_taken least most =
      rw (length-take-le h.n (counts_of lists) counted)
      (all_cong _ _ h.n (λ i l. ap (λ (x : ℕ). within least most (pos x)) (get_or-take h.n (counts_of lists) i 0 l)))

  -- of a loaded record
  pub rule_taken : (most : ℕ)
      → counts_rule h.format (length (take h.n (counts_of lists))) most (λ i. pos (get_or (take h.n (counts_of lists)) i 0))
      ≡ counts_rule h.format h.n most (λ i. pos (count_of lists i))
  unfolding counts_rule
  rule_taken most =
      ap₂ ◌&&◌ (within_taken (least_count h.format) most) (ap (λ (x : ℕ). eqb x most) (greatest_taken h.n (counts_of lists) counted))
