-- Where a rank that is not lacking has its task: in file 0 or in file 1, by the row of both files' tasks.
use mathlib.Core.Path.{◌≡◌, refl, sym, ◌∙◌}
use mathlib.Core.Bool.{Bool, true, false, cond}
use Prim.Native.Nat.{ℕ, ◌+◌, ◌-◌, ◌≤◌, ◌<◌}
use native.Mathlib.Omega.{arith}
use lib.Dec.{ltb, eqb}
use borrow.Author.Tests.{ltb-true, ltb-false, eqb-false, ne_eqb, not-true}
use Rattle.std.proofs.Common.{Some, None}
use Rattle.lists.proofs.Below.{all_at}
use Rattle.pairs.specs.Ranks.{carrier, none_lacking, in_second, local_rank}
use Rattle.pairs.proofs.Ranks.{carrier_carries, first_below, second_below}
use Rattle.ranks.specs.Holders.{holder, some_task}
use Rattle.ranks.proofs.Holding.{lacking_held}

module _ (n m : ℕ) (rank rank' : ℕ → ℕ) where
  -- the two ways in which it has one
  pub data Place (r : ℕ) : Type 0 where
    in_first : in_second n m rank rank' r ≡ false → local_rank n m rank rank' r < n → holder n m rank rank' r ≡ local_rank n m rank rank' r + 1
        → Place r
    in_second_file : in_second n m rank rank' r ≡ true → local_rank n m rank rank' r < m → holder n m rank rank' r ≡ n + local_rank n m rank rank' r + 1
        → Place r

  module _ (none : none_lacking n m rank rank' ≡ true) (r : ℕ) (below : r < n + m) where
    some_held : (holder n m rank rank' r ≡ 0) → ⊥
    some_held = eqb-false _ 0 (not-true _ (all_at _ (n + m) r below (sym (lacking_held n m rank rank') ∙ none)))

    pub place : Place r
    unfolding holder in_second local_rank
    place = go (ltb (carrier n rank r) n) refl (ltb (carrier m rank' r) m) refl
      where
        go : (a : Bool) → ltb (carrier n rank r) n ≡ a → (b : Bool) → ltb (carrier m rank' r) m ≡ b → Place r
        go true e b f =
            in_first (rw e) (rw e (ltb-true (carrier n rank r) n e))
            (rw (e, ne_eqb (0 + carrier n rank r + 1) 0 (λ z. omega arith)) (omega arith))
        go false e true f = in_second_file (rw e) (rw e (ltb-true (carrier m rank' r) m f)) (rw (e, f))
        go false e false f = absurd (some_held (rw (e, f)))

    -- which of them it is, by the row's number, and the task there, counted from 1
    pub found_second : n < holder n m rank rank' r
        → (in_second n m rank rank' r ≡ true)
        × (holder n m rank rank' r - n ≡ local_rank n m rank rank' r + 1)
        × (1 ≤ holder n m rank rank' r - n)
        × (holder n m rank rank' r - n ≤ m)
    found_second past = go place
      where
        go : Place r → (in_second n m rank rank' r ≡ true)
            × (holder n m rank rank' r - n ≡ local_rank n m rank rank' r + 1)
            × (1 ≤ holder n m rank rank' r - n)
            × (holder n m rank rank' r - n ≤ m)
        go (in_first e l is) = absurd (omega arith)
        go (in_second_file e l is) = (e, omega arith, omega arith, omega arith)

    pub found_first : holder n m rank rank' r ≤ n
        → (in_second n m rank rank' r ≡ false)
        × (holder n m rank rank' r ≡ local_rank n m rank rank' r + 1)
        × (1 ≤ holder n m rank rank' r)
    found_first within = go place
      where
        go : Place r → (in_second n m rank rank' r ≡ false)
            × (holder n m rank rank' r ≡ local_rank n m rank rank' r + 1)
            × (1 ≤ holder n m rank rank' r)
        go (in_first e l is) = (e, is, omega arith)
        go (in_second_file e l is) = absurd (omega arith)

  -- what a search for the rank's task answers: that task
  pub task_is : (r : ℕ) → {task : ℕ} → some_task (holder n m rank rank' r) ≡ Some task → holder n m rank rank' r ≡ task
  task_is r {task} = go (eqb (holder n m rank rank' r) 0)
    where
      go : (b : Bool) → cond b None (Some (holder n m rank rank' r)) ≡ Some task → holder n m rank rank' r ≡ task
      go true e = cc
      go false e = cc

  -- and that there is one says that the rank is below mapping_size
  module _ (none : none_lacking n m rank rank' ≡ true) (r : ℕ) where
    pub found_below : {task : ℕ} → some_task (holder n m rank rank' r) ≡ Some task → r < n + m
    unfolding holder
    found_below {task} = go (ltb (carrier n rank r) n) refl (ltb (carrier m rank' r) m) refl
      where
        go : (a : Bool) → ltb (carrier n rank r) n ≡ a → (b : Bool) → ltb (carrier m rank' r) m ≡ b
            → some_task (holder n m rank rank' r) ≡ Some task → r < n + m
        go true e b f found =
            let l : carrier n rank r < n = ltb-true (carrier n rank r) n e in
            omega (arith, carrier_carries n rank r l, first_below n m rank rank' none (carrier n rank r) l)
        go false e true f found =
            let l : carrier m rank' r < m = ltb-true (carrier m rank' r) m f in
            omega (arith, carrier_carries m rank' r l, second_below n m rank rank' none (carrier m rank' r) l)
        go false e false f found = cc (rw (e, f) at found)

    pub lost_past : some_task (holder n m rank rank' r) ≡ None → n + m ≤ r
    lost_past lost = go (ltb r (n + m)) refl
      where
        go : (b : Bool) → ltb r (n + m) ≡ b → n + m ≤ r
        go true e = cc (rw (ne_eqb (holder n m rank rank' r) 0 (some_held none r (ltb-true r (n + m) e))) at lost)
        go false e = ltb-false r (n + m) e
