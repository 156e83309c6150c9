-- Which task carries a rank, and that a pair which lacks no rank below mapping_size has each exactly once, one for each task of either file.
use mathlib.Core.Path.{◌≡◌, refl, sym, ap, ap₂, ◌∙◌}
use mathlib.Core.Bool.{Bool, true, false, cond, not, ◌&&◌, false≢true}
use Prim.Native.Nat.{ℕ, zero, suc, ◌+◌, ◌≤◌, ◌<◌}
use native.Mathlib.Omega.{arith}
use lib.Dec.{ltb, eqb}
use borrow.Author.Tests.{ltb-true, ltb-false, lt-ltb, le-ltb, eqb-true, eqb-false, eq-eqb, ne_eqb, not-false}
use Rattle.lists.specs.Below.{all_below, first_not, sum_below}
use Rattle.lists.proofs.Below.{all_at, all_of, first_none, first_fails, first_cong, sum_le}
use Rattle.pairs.specs.Ranks.{times, carrier, comes, each_once, none_lacking, in_second, local_rank}

-- ---- the task that carries a rank, in one file

module _ (n : ℕ) (rank : ℕ → ℕ) (r : ℕ) where
  abbrev other : ℕ → Bool
  other i = not (eqb (rank i) r)

  -- one that is below n carries it
  pub carrier_carries : carrier n rank r < n → rank (carrier n rank r) ≡ r
  unfolding carrier
  carrier_carries l = go (all_below n other) refl
    where
      go : (b : Bool) → all_below n other ≡ b → rank (first_not n other) ≡ r
      go true a = absurd (omega (arith, first_none other n a))
      go false a = eqb-true _ _ (not-false _ (first_fails other n a).1)

  -- where one carries it, it is below n
  pub carrier_some : (i : ℕ) → i < n → rank i ≡ r → carrier n rank r < n
  unfolding carrier
  carrier_some i l e = go (all_below n other) refl
    where
      go : (b : Bool) → all_below n other ≡ b → first_not n other < n
      go true a = absurd (false≢true (sym (ap not (eq-eqb (rank i) r e)) ∙ all_at other n i l a))
      go false a = (first_fails other n a).0

-- one task more
pub carrier_more : (i : ℕ) (rank : ℕ → ℕ) (r : ℕ)
    → carrier (suc i) rank r ≡ cond (ltb (carrier i rank r) i) (carrier i rank r) (cond (eqb (rank i) r) i (suc i))
unfolding carrier first_not all_below
carrier_more i rank r = go (all_below i (other i rank r)) refl (eqb (rank i) r)
  where
    go : (b : Bool) → all_below i (other i rank r) ≡ b → (c : Bool)
        → cond (b && not c) (suc i) (first_not i (other i rank r))
        ≡ cond (ltb (first_not i (other i rank r)) i) (first_not i (other i rank r)) (cond c i (suc i))
    go true a true = let e = first_none (other i rank r) i a in rw (e, le-ltb i i (omega arith))
    go true a false = let e = first_none (other i rank r) i a in rw (e, le-ltb i i (omega arith))
    go false a c = rw (lt-ltb _ _ (first_fails (other i rank r) i a).0)

-- ---- how often a rank comes

abbrev hit : (ℕ → ℕ) → ℕ → ℕ → ℕ
hit rank r i = cond (eqb (rank i) r) 1 0

times_none : (n : ℕ) (rank : ℕ → ℕ) (r : ℕ) → ((i : ℕ) → i < n → rank i ≡ r → ⊥) → times n rank r ≡ 0
unfolding times sum_below
times_none zero rank r none = refl
times_none (suc n) rank r none =
    rw (times_none n rank r (λ i l. none i (omega arith)), ne_eqb (rank n) r (none n (omega arith)))

times_some : (n : ℕ) (rank : ℕ → ℕ) (r i : ℕ) → i < n → rank i ≡ r → 0 < times n rank r
unfolding times sum_below
times_some zero rank r i l e = absurd (omega arith)
times_some (suc n) rank r i l e = go (eqb i n) refl (λ below. times_some n rank r i below e)
  where
    go : (b : Bool) → eqb i n ≡ b → (i < n → 0 < sum_below n (hit rank r)) → 0 < sum_below n (hit rank r) + hit rank r n
    go true h rest = rw (eq-eqb (rank n) r (ap rank (sym (eqb-true i n h)) ∙ e)) (omega arith)
    go false h rest = omega (arith, rest (omega (arith, eqb-false i n h)))

pub times_carrier : (n : ℕ) (rank : ℕ → ℕ) (r : ℕ) → ltb 0 (times n rank r) ≡ ltb (carrier n rank r) n
times_carrier n rank r = go (ltb (carrier n rank r) n) refl
  where
    go : (b : Bool) → ltb (carrier n rank r) n ≡ b → ltb 0 (times n rank r) ≡ b
    go true e =
        let l : carrier n rank r < n = ltb-true _ _ e in
        lt-ltb 0 _ (times_some n rank r (carrier n rank r) l (carrier_carries n rank r l))
    go false e =
        le-ltb 0 (times n rank r)
        (let none = times_none n rank r (λ i l h. omega (arith, ltb-false (carrier n rank r) n e, carrier_some n rank r i l h)) in omega arith)

-- two tasks that carry it
times_two : (n : ℕ) (rank : ℕ → ℕ) (r i j : ℕ) → i < j → j < n → rank i ≡ r → rank j ≡ r → 2 ≤ times n rank r
unfolding times sum_below
times_two zero rank r i j l h e d = absurd (omega arith)
times_two (suc n) rank r i j l h e d = go (eqb j n) refl (λ below. times_two n rank r i j l below e d)
  where
    go : (b : Bool) → eqb j n ≡ b → (j < n → 2 ≤ sum_below n (hit rank r)) → 2 ≤ sum_below n (hit rank r) + hit rank r n
    go true q rest =
        let same : j ≡ n = eqb-true j n q in
        let some = times_some n rank r i (omega arith) e in
        rw (eq-eqb (rank n) r (ap rank (sym same) ∙ d)) (omega arith)
    go false q rest = omega (arith, rest (omega (arith, eqb-false j n q)))

-- where it comes once, its task is the one
carrier_once : (n : ℕ) (rank : ℕ → ℕ) (r i : ℕ) → i < n → rank i ≡ r → times n rank r ≤ 1 → carrier n rank r ≡ i
carrier_once n rank r i l e once = go (ltb (carrier n rank r) i) refl (ltb i (carrier n rank r)) refl
  where
    some : carrier n rank r < n
    some = carrier_some n rank r i l e

    go : (a : Bool) → ltb (carrier n rank r) i ≡ a → (b : Bool) → ltb i (carrier n rank r) ≡ b → carrier n rank r ≡ i
    go true f b g = absurd (omega (arith, times_two n rank r (carrier n rank r) i (ltb-true _ _ f) l (carrier_carries n rank r some) e))
    go false f true g = absurd (omega (arith, times_two n rank r i (carrier n rank r) (ltb-true _ _ g) some e (carrier_carries n rank r some)))
    go false f false g = omega (arith, ltb-false (carrier n rank r) i f, ltb-false i (carrier n rank r) g)

-- ---- sums over tasks and over ranks

sum_add : (f g : ℕ → ℕ) (n : ℕ) → sum_below n f + sum_below n g ≡ sum_below n (λ i. f i + g i)
unfolding sum_below
sum_add f g zero = refl
sum_add f g (suc n) = let e = sum_add f g n in omega arith

sum_zero : (n : ℕ) → sum_below n (λ i. 0) ≡ 0
unfolding sum_below
sum_zero zero = refl
sum_zero (suc n) = let e = sum_zero n in omega arith

sum_swap : (g : ℕ → ℕ → ℕ) (n m : ℕ) → sum_below m (λ r. sum_below n (λ i. g i r)) ≡ sum_below n (λ i. sum_below m (g i))
unfolding sum_below
sum_swap g n zero = sym (sum_zero n)
sum_swap g n (suc m) = ap (λ (x : ℕ). x + sum_below n (λ i. g i m)) (sum_swap g n m) ∙ sum_add (λ i. sum_below m (g i)) (λ i. g i m) n

-- a number comes at most once among 0, 1, .. up to m - 1
one_each : (v m : ℕ) → sum_below m (λ r. cond (eqb v r) 1 0) ≡ cond (ltb v m) 1 0
unfolding sum_below
one_each v zero = rw (le-ltb v 0 (omega arith))
one_each v (suc m) = ap (λ (x : ℕ). x + cond (eqb v m) 1 0) (one_each v m) ∙ go (eqb v m) refl
  where
    go : (b : Bool) → eqb v m ≡ b → cond (ltb v m) 1 0 + cond b 1 0 ≡ cond (ltb v (suc m)) 1 0
    go true e = let same : v ≡ m = eqb-true v m e in rw (le-ltb v m (omega arith), lt-ltb v (suc m) (omega arith))
    go false e = less (ltb v m) refl
      where
        less : (c : Bool) → ltb v m ≡ c → cond c 1 0 + 0 ≡ cond (ltb v (suc m)) 1 0
        less true l = rw (lt-ltb v (suc m) (omega (arith, ltb-true v m l)))
        less false l = rw (le-ltb v (suc m) (omega (arith, ltb-false v m l, eqb-false v m e)))

-- numbers that are all at most 1, one of them 0, sum up to less than there are
sum_short : (f : ℕ → ℕ) (n i : ℕ) → ((j : ℕ) → f j ≤ 1) → i < n → f i ≡ 0 → sum_below n f < n
unfolding sum_below
sum_short f zero i most l none = absurd (omega arith)
sum_short f (suc n) i most l none = go (eqb i n) refl (λ below. sum_short f n i most below none)
  where
    go : (b : Bool) → eqb i n ≡ b → (i < n → sum_below n f < n) → sum_below n f + f n < suc n
    go true e rest =
        let last : f n ≡ 0 = ap f (sym (eqb-true i n e)) ∙ none in
        omega (arith, sum_le f n 1 (λ j _. most j))
    go false e rest = omega (arith, rest (omega (arith, eqb-false i n e)), most n)

-- how often the rank of one task comes below m: once at most
comes_small : {x : ℕ} (b : Bool) → x ≡ cond b 1 0 → x ≤ 1
comes_small true e = omega arith
comes_small false e = omega arith

module _ (n m : ℕ) (rank : ℕ → ℕ) where
  abbrev below : ℕ → ℕ
  below i = sum_below m (λ r. cond (eqb (rank i) r) 1 0)

  below_small : (i : ℕ) → below i ≤ 1
  below_small i = comes_small (ltb (rank i) m) (one_each (rank i) m)

  swapped : sum_below m (times n rank) ≡ sum_below n below
  unfolding times
  swapped = sum_swap (λ i r. cond (eqb (rank i) r) 1 0) n m

  -- n ranks come at most n times together, and less often where one of them is not below m
  few_times : sum_below m (times n rank) ≤ n
  few_times = omega (arith, swapped, sum_le below n 1 (λ i l. below_small i))

  fewer_times : (i : ℕ) → i < n → m ≤ rank i → sum_below m (times n rank) < n
  fewer_times i l past =
      let none : below i ≡ 0 = one_each (rank i) m ∙ rw (le-ltb (rank i) m past) in
      omega (arith, swapped, sum_short below n i below_small l none)

  -- so where they come n times, they are all below m
  rank_below : n ≤ sum_below m (times n rank) → (i : ℕ) → i < n → rank i < m
  rank_below all i l = go (ltb (rank i) m) refl
    where
      go : (b : Bool) → ltb (rank i) m ≡ b → rank i < m
      go true e = ltb-true _ _ e
      go false e = absurd (omega (arith, fewer_times i l (ltb-false (rank i) m e)))

-- m numbers that are all at least 1 and sum up to m at most are all 1
tight : (f : ℕ → ℕ) (m : ℕ) → ((r : ℕ) → r < m → 1 ≤ f r) → sum_below m f ≤ m → (m ≤ sum_below m f) × ((r : ℕ) → r < m → f r ≡ 1)
unfolding sum_below
tight f zero each most = (omega arith, λ r l. absurd (omega arith))
tight f (suc m) each most =
    let least : m ≤ sum_below m f = at_least m (λ r l. each r (omega arith)) in
    let rest = tight f m (λ r l. each r (omega arith)) (omega (arith, each m (omega arith))) in
    (omega (arith, each m (omega arith)), λ r l. go rest least r l (eqb r m) refl)
  where
    at_least : (k : ℕ) → ((r : ℕ) → r < k → 1 ≤ f r) → k ≤ sum_below k f
    at_least zero each = omega arith
    at_least (suc k) each = omega (arith, at_least k (λ r l. each r (omega arith)), each k (omega arith))

    go : (m ≤ sum_below m f) × ((r : ℕ) → r < m → f r ≡ 1) → m ≤ sum_below m f → (r : ℕ) → r < suc m → (b : Bool) → eqb r m ≡ b → f r ≡ 1
    go rest least r l true e = rw (eqb-true r m e) (omega (arith, each m (omega arith)))
    go rest least r l false e = rest.1 r (omega (arith, eqb-false r m e))

-- ---- a pair that lacks no rank

module _ (n m : ℕ) (rank rank' : ℕ → ℕ) (none : none_lacking n m rank rank' ≡ true) where
  -- the ranks come n + m times together, each of them once
  all_come : (n + m ≤ sum_below (n + m) (comes n m rank rank')) × ((r : ℕ) → r < n + m → comes n m rank rank' r ≡ 1)
  unfolding none_lacking
  all_come =
      tight (comes n m rank rank') (n + m) (λ r l. ltb-true 0 (comes n m rank rank' r) (all_at _ (n + m) r l none))
      (omega (arith, sum_add (times n rank) (times m rank') (n + m), few_times n (n + m) rank, few_times m (n + m) rank'))

  -- so each task of either file has one of them
  pub first_below : (i : ℕ) → i < n → rank i < n + m
  first_below i l =
      rank_below n (n + m) rank (omega (arith, all_come.0, sum_add (times n rank) (times m rank') (n + m), few_times m (n + m) rank')) i l

  pub second_below : (i : ℕ) → i < m → rank' i < n + m
  second_below i l =
      rank_below m (n + m) rank' (omega (arith, all_come.0, sum_add (times n rank) (times m rank') (n + m), few_times n (n + m) rank)) i l

  -- and is the one that the mapping gives
  pub first_found : (i : ℕ) → i < n → (in_second n m rank rank' (rank i) ≡ false) × (local_rank n m rank rank' (rank i) ≡ i)
  unfolding in_second local_rank
  first_found i l =
      let once = all_come.1 (rank i) (first_below i l) in
      let there = lt-ltb (carrier n rank (rank i)) n (carrier_some n rank (rank i) i l refl) in
      (ap not there, rw there (carrier_once n rank (rank i) i l refl (omega arith)))

  pub second_found : (i : ℕ) → i < m → (in_second n m rank rank' (rank' i) ≡ true) × (local_rank n m rank rank' (rank' i) ≡ i)
  unfolding in_second local_rank
  second_found i l =
      let once = all_come.1 (rank' i) (second_below i l) in
      let some = times_some m rank' (rank' i) i l refl in
      let away = sym (times_carrier n rank (rank' i)) ∙ le-ltb 0 (times n rank (rank' i)) (omega arith) in
      (ap not away, rw away (carrier_once m rank' (rank' i) i l refl (omega arith)))

  -- so a rank that a task carries is found there
  pub found_there : (second : Bool) (r i : ℕ) → i < cond second m n → cond second rank' rank i ≡ r
      → (in_second n m rank rank' r ≡ second) × (local_rank n m rank rank' r ≡ i)
  found_there true r i l e = rw e at (second_found i l)
  found_there false r i l e = rw e at (first_found i l)

  -- each rank below mapping_size is carried where the mapping says
  pub carried : (r : ℕ) → r < n + m
      → (local_rank n m rank rank' r < cond (in_second n m rank rank' r) m n)
      × (cond (in_second n m rank rank' r) rank' rank (local_rank n m rank rank' r) ≡ r)
  unfolding in_second local_rank
  carried r l = go (ltb (carrier n rank r) n) refl
    where
      go : (b : Bool) → ltb (carrier n rank r) n ≡ b
          → (local_rank n m rank rank' r < cond (in_second n m rank rank' r) m n)
          × (cond (in_second n m rank rank' r) rank' rank (local_rank n m rank rank' r) ≡ r)
      go true e = let k : carrier n rank r < n = ltb-true _ _ e in rw e (k, carrier_carries n rank r k)
      go false e =
          let away : times n rank r ≤ 0 = ltb-false 0 (times n rank r) (times_carrier n rank r ∙ e) in
          let some = lt-ltb 0 (times m rank' r) (omega (arith, all_come.1 r l)) in
          let k : carrier m rank' r < m = ltb-true _ _ (sym (times_carrier m rank' r) ∙ some) in
          rw e (k, carrier_carries m rank' r k)

  -- so two ranks of one task are the same
  pub one_rank : (r r' : ℕ) → r < n + m → r' < n + m → in_second n m rank rank' r ≡ in_second n m rank rank' r'
      → local_rank n m rank rank' r ≡ local_rank n m rank rank' r' → r ≡ r'
  one_rank r r' l l' e d = sym (carried r l).1 ∙ ap₂ (λ (b : Bool) (i : ℕ). cond b rank' rank i) e d ∙ (carried r' l').1

module _ (n m : ℕ) (rank rank' : ℕ → ℕ) where
  -- a rank that a task of either file carries is not lacking
  pub comes_there : (second : Bool) (r i : ℕ) → i < cond second m n → cond second rank' rank i ≡ r → ltb 0 (comes n m rank rank' r) ≡ true
  comes_there true r i l e = lt-ltb 0 (comes n m rank rank' r) (omega (arith, times_some m rank' r i l e))
  comes_there false r i l e = lt-ltb 0 (comes n m rank rank' r) (omega (arith, times_some n rank r i l e))

  -- "lacks some rank below mapping_size" is the opposite of "each rank from 0 up .. exactly once over both lists"
  pub lacking_once : none_lacking n m rank rank' ≡ each_once n m rank rank'
  unfolding none_lacking each_once
  lacking_once = go (none_lacking n m rank rank') refl (each_once n m rank rank') refl
    where
      go : (a : Bool) → none_lacking n m rank rank' ≡ a → (b : Bool) → each_once n m rank rank' ≡ b → a ≡ b
      go true e true f = refl
      go false e false f = refl
      go false e true f =
          let once : (r : ℕ) → r < n + m → comes n m rank rank' r ≡ 1 =
          λ r l. eqb-true (comes n m rank rank' r) 1 (all_at (λ r. eqb (comes n m rank rank' r) 1) (n + m) r l f) in
          absurd (false≢true (sym e ∙ all_of _ (n + m) (λ r l. lt-ltb 0 (comes n m rank rank' r) (omega (arith, once r l)))))
      go true e false f =
          absurd (false≢true (sym f ∙ all_of _ (n + m) (λ r l. eq-eqb _ 1 ((all_come n m rank rank' e).1 r l))))

-- where a rank is found is a matter of the tasks that there are
carrier_agree : (n : ℕ) (rank other : ℕ → ℕ) → ((i : ℕ) → i < n → rank i ≡ other i) → (r : ℕ) → carrier n rank r ≡ carrier n other r
unfolding carrier
carrier_agree n rank other same r = first_cong _ _ n (λ i l. ap (λ (x : ℕ). not (eqb x r)) (same i l))

module _ (n m : ℕ) (rank rank' other other' : ℕ → ℕ) (same : (i : ℕ) → i < n → rank i ≡ other i)
    (same' : (i : ℕ) → i < m → rank' i ≡ other' i) (r : ℕ) where
  pub second_agree : in_second n m rank rank' r ≡ in_second n m other other' r
  unfolding in_second
  second_agree = ap (λ (k : ℕ). not (ltb k n)) (carrier_agree n rank other same r)

  pub local_agree : local_rank n m rank rank' r ≡ local_rank n m other other' r
  unfolding local_rank
  local_agree = rw (second_agree, carrier_agree n rank other same r, carrier_agree m rank' other' same' r)
