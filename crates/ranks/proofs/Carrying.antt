-- The task that carries a rank, in a list of ranks: its first index that passes a test, and where only the first tasks of a longer list are gone
-- through, what is said of them.
use mathlib.Core.Path.{◌≡◌, refl, sym, ap, ap₂, ◌∙◌}
use mathlib.Core.Bool.{Bool, true, false, not, cond}
use mathlib.Core.List.{List}
use Prim.Native.Nat.{ℕ, ◌+◌, ◌≤◌, ◌<◌}
use native.Mathlib.Omega.{arith}
use borrow.Author.Tests.{not-true, not-false, lt-ltb, le-ltb, ltb-true, ltb-false, ne_eqb}
use lib.Dec.{eqb, ltb}
use lib.ListN.{length, take}
use lib.Seq.{length-take-le, get_or-take}
use Rattle.std.proofs.Common.{Option, Some, None}
use Rattle.std.specs.List.{position, position_or_len}
use Rattle.std.proofs.lemmas.List.Sums.{position_or_len_is}
use Rattle.lists.specs.Below.{all_below, first_not}
use Rattle.lists.proofs.Below.{all_at, all_cong, first_none, first_fails, first_cong, sum_cong}
use Rattle.format.specs.Limits.{max_tasks}
use Rattle.format.specs.Record.{entry, all_lists, rank_of}
use Rattle.pairs.specs.Ranks.{carrier, none_lacking, times}
use Rattle.ranks.specs.Holders.{holder, some_task}

-- ---- one list

module _ (xs : List ℕ) (r : ℕ) where
  abbrev other : ℕ → Bool
  other i = not (eqb (entry xs i) r)

  first_carrier : position_or_len (λ x. eqb x r) xs ≡ carrier (length xs) (entry xs) r
  unfolding carrier
  first_carrier = go (all_below (length xs) other) refl
    where
      go : (b : Bool) → all_below (length xs) other ≡ b → position_or_len (λ x. eqb x r) xs ≡ first_not (length xs) other
      go true a =
          position_or_len_is _ xs (length xs) 0 (omega arith) (λ k l. not-true _ (all_at other (length xs) k l a)) (λ l. absurd (omega arith))
          ∙ sym (first_none other (length xs) a)
      go false a =
          let (l, here, all) = first_fails other (length xs) a in
          position_or_len_is _ xs (first_not (length xs) other) 0 (omega (arith, l)) (λ k m. not-true _ (all_at other _ k m all)) (λ m. not-false _ here)

  carried_at : {i : ℕ} → position (λ x. eqb x r) xs ≡ Some i → (carrier (length xs) (entry xs) r ≡ i) × (i < length xs)
  carried_at {i} = go (ltb (position_or_len (λ x. eqb x r) xs) (length xs)) refl
    where
      go : (b : Bool) → ltb (position_or_len (λ x. eqb x r) xs) (length xs) ≡ b → position (λ x. eqb x r) xs ≡ Some i
          → (carrier (length xs) (entry xs) r ≡ i) × (i < length xs)
      go true e found =
          let same : position_or_len (λ x. eqb x r) xs ≡ i = (cc (rw e at found)) in
          (sym first_carrier ∙ same, omega (arith, ltb-true (position_or_len (λ x. eqb x r) xs) (length xs) e))
      go false e found = (cc (rw e at found))

  carried_not : position (λ x. eqb x r) xs ≡ None → length xs ≤ carrier (length xs) (entry xs) r
  carried_not = go (ltb (position_or_len (λ x. eqb x r) xs) (length xs)) refl
    where
      go : (b : Bool) → ltb (position_or_len (λ x. eqb x r) xs) (length xs) ≡ b → position (λ x. eqb x r) xs ≡ None
          → length xs ≤ carrier (length xs) (entry xs) r
      go true e found = (cc (rw e at found))
      go false e found = omega (arith, first_carrier, ltb-false (position_or_len (λ x. eqb x r) xs) (length xs) e)

-- ---- both lists

module _ (xs ys : List ℕ) (r : ℕ) where
  abbrev held : Option ℕ
  held = some_task (holder (length xs) (length ys) (entry xs) (entry ys) r)

  pub held_first : {i : ℕ} → position (λ x. eqb x r) xs ≡ Some i → Some (i + 1) ≡ held
  unfolding holder
  held_first {i} e = let (is, l) = carried_at xs r e in rw (is, lt-ltb i (length xs) l, ne_eqb (0 + i + 1) 0 (λ z. omega arith), ne_eqb (0 + i + 1) 0 (λ z. omega arith)) (ap Some (omega arith))

  pub held_second : {j : ℕ} → position (λ x. eqb x r) xs ≡ None → position (λ x. eqb x r) ys ≡ Some j → Some (length xs + j + 1) ≡ held
  unfolding holder
  held_second {j} e d = let past = carried_not xs r e in let (is, l) = carried_at ys r d in
      rw (le-ltb _ (length xs) past, is, lt-ltb j (length ys) l, ne_eqb (length xs + j + 1) 0 (λ z. omega arith))

  pub held_not : position (λ x. eqb x r) xs ≡ None → position (λ x. eqb x r) ys ≡ None → None ≡ held
  unfolding holder
  held_not e d = let past = carried_not xs r e in let past' = carried_not ys r d in rw (le-ltb _ (length xs) past, le-ltb _ (length ys) past')

-- ---- the tasks that there are

module _ (n m : ℕ) (rank rank' other other' : ℕ → ℕ) (same : (i : ℕ) → i < n → rank i ≡ other i) (same' : (i : ℕ) → i < m → rank' i ≡ other' i) where
  carrier_agree : (k : ℕ) (f g : ℕ → ℕ) → ((i : ℕ) → i < k → f i ≡ g i) → (r : ℕ) → carrier k f r ≡ carrier k g r
  unfolding carrier
  carrier_agree k f g like r = first_cong _ _ k (λ i l. ap (λ (x : ℕ). not (eqb x r)) (like i l))

  pub holder_agree : (r : ℕ) → holder n m rank rank' r ≡ holder n m other other' r
  unfolding holder
  holder_agree r = rw (carrier_agree n rank other same r, carrier_agree m rank' other' same' r)

  pub none_lacking_agree : none_lacking n m rank rank' ≡ none_lacking n m other other'
  unfolding none_lacking times
  none_lacking_agree =
      all_cong _ _ (n + m)
      (λ r l. ap₂ (λ (x y : ℕ). ltb 0 (x + y))
      (sum_cong _ _ n (λ i k. ap (λ (x : ℕ). cond (eqb x r) 1 0) (same i k)))
      (sum_cong _ _ m (λ i k. ap (λ (x : ℕ). cond (eqb x r) 1 0) (same' i k))))

-- those at the front of two records' lists
module _ (lists lists' : List ℕ) (long : length lists ≡ all_lists) (long' : length lists' ≡ all_lists) (n m : ℕ) (few : n ≤ max_tasks) (few' : m ≤ max_tasks) where
  listed : (xs : List ℕ) (k i : ℕ) → k ≤ max_tasks → i < k → entry (take k xs) i ≡ rank_of xs i
  listed xs k i l within = get_or-take k xs i 0 within ∙ sym (get_or-take max_tasks xs i 0 (omega arith))

  pub length_first : length (take n lists) ≡ n
  length_first = length-take-le n lists (omega arith)

  pub length_second : length (take m lists') ≡ m
  length_second = length-take-le m lists' (omega arith)

  pub holder_listed : (r : ℕ)
      → holder (length (take n lists)) (length (take m lists')) (entry (take n lists)) (entry (take m lists')) r ≡ holder n m (rank_of lists) (rank_of lists') r
  holder_listed r =
      rw (length_first, length_second) (holder_agree n m _ _ _ _ (λ i l. listed lists n i few l) (λ i l. listed lists' m i few' l) r)

  pub none_lacking_listed :
      none_lacking (length (take n lists)) (length (take m lists')) (entry (take n lists)) (entry (take m lists')) ≡ none_lacking n m (rank_of lists) (rank_of lists')
  none_lacking_listed =
      rw (length_first, length_second) (none_lacking_agree n m _ _ _ _ (λ i l. listed lists n i few l) (λ i l. listed lists' m i few' l))
