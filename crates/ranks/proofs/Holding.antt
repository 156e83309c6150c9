-- How a row of tasks, one for each rank, is filled task by task, and what it says in the end.
use mathlib.Core.Path.{◌≡◌, refl, sym, ap, ◌∙◌, subst}
use mathlib.Core.Bool.{Bool, true, false, cond, not}
use mathlib.Core.List.{List}
use Prim.Native.Nat.{ℕ, suc, ◌+◌, ◌*◌, ◌≤◌, ◌<◌}
use native.Mathlib.Numerals.{add-one}
use native.Mathlib.Omega.{arith}
use lib.Dec.{ltb, eqb}
use lib.ListN.{length, get_or, set, replicate, length-set, length-replicate, get_or-replicate}
use lib.Seq.{get_or-set_same, get_or-set_other, ext_get_or}
use borrow.Author.Tests.{lt-ltb, le-ltb, ltb-true, ltb-false, eqb-true, eqb-false, ne_eqb}
use Rattle.lists.specs.Below.{all_below}
use Rattle.lists.proofs.Below.{length_list, get_or_list, all_cong}
use Rattle.format.specs.Limits.{max_tasks}
use Rattle.format.specs.Record.{entry}
use Rattle.pairs.specs.Ranks.{carrier, comes, none_lacking, times}
use Rattle.pairs.proofs.Ranks.{carrier_more, times_carrier}
use Rattle.ranks.specs.Holders.{held_by, Held, holder, holders}

none_held : (before : ℕ) (rank : ℕ → ℕ) (earlier r : ℕ) → held_by before 0 rank earlier r ≡ earlier
none_held before rank earlier r = rw (le-ltb (carrier 0 rank r) 0 (omega arith)) (go (eqb earlier 0) refl)
  where
    go : (b : Bool) → eqb earlier 0 ≡ b → cond b 0 earlier ≡ earlier
    go true e = sym (eqb-true earlier 0 e)
    go false e = refl

-- one task more
module _ (before i : ℕ) (rank : ℕ → ℕ) (earlier r : ℕ) where
  abbrev row : ℕ → ℕ
  row n = cond (ltb (carrier n rank r) n) (before + carrier n rank r + 1) 0

  found : (b : Bool) → ltb (carrier i rank r) i ≡ b → row (suc i) ≡ cond (eqb (row i) 0) (cond (eqb (rank i) r) (before + i + 1) 0) (row i)
  found true l =
      let below : carrier i rank r < i = ltb-true (carrier i rank r) i l in
      let same : carrier (suc i) rank r ≡ carrier i rank r = carrier_more i rank r ∙ rw l in
      rw (same, l, lt-ltb (carrier i rank r) (suc i) (omega arith), ne_eqb (before + carrier i rank r + 1) 0 (λ e. omega arith))
  found false l = rw (l, carrier_more i rank r, l) (here (eqb (rank i) r))
    where
      here : (c : Bool) → cond (ltb (cond c i (suc i)) (suc i)) (before + cond c i (suc i) + 1) 0 ≡ cond c (before + i + 1) 0
      here true = rw (lt-ltb i (suc i) (omega arith))
      here false = rw (le-ltb (suc i) (suc i) (omega arith))

  more_held : held_by before (suc i) rank earlier r
      ≡ cond (eqb (held_by before i rank earlier r) 0) (cond (eqb (rank i) r) (before + i + 1) 0) (held_by before i rank earlier r)
  more_held = go (eqb earlier 0) refl
    where
      go : (b : Bool) → eqb earlier 0 ≡ b
          → cond b (row (suc i)) earlier ≡ cond (eqb (cond b (row i) earlier) 0) (cond (eqb (rank i) r) (before + i + 1) 0) (cond b (row i) earlier)
      go true e = found (ltb (carrier i rank r) i) refl
      go false e = rw e

-- a rank that is another keeps its task, and so does one that has a task
kept : (before i x : ℕ) {c : Bool} → c ≡ false → cond (eqb x 0) (cond c (before + i + 1) 0) x ≡ x
kept before i x e = rw e (go (eqb x 0) refl)
  where
    go : (b : Bool) → eqb x 0 ≡ b → cond b 0 x ≡ x
    go true e = sym (eqb-true x 0 e)
    go false e = refl

module _ (size before : ℕ) (rank : ℕ → ℕ) (old : List ℕ) where
  pub held_none : Held size before 0 rank old old
  held_none = record { as_long = refl; below = λ r l. sym (none_held before rank (get_or old r 0) r); past = λ r l. refl }

  next : {i : ℕ} {xs : List ℕ} → Held size before (suc i) rank old xs → Held size before (i + 1) rank old xs
  next {i} {xs} h = subst (λ (k : ℕ). Held size before k rank old xs) (sym (add-one i)) h

  module _ {i : ℕ} {xs : List ℕ} (h : Held size before i rank old xs) where
    other_kept : (r : ℕ) → r < size → (rank i ≡ r → ⊥) → get_or xs r 0 ≡ held_by before (suc i) rank (get_or old r 0) r
    other_kept r l other =
        h.below r l
        ∙ sym (more_held before i rank (get_or old r 0) r ∙ kept before i (held_by before i rank (get_or old r 0) r) (ne_eqb (rank i) r other))

    -- a task whose rank is not below `size`, or has a task already, changes nothing
    pub held_over : size ≤ rank i → Held size before (i + 1) rank old xs
    held_over over = next (record { as_long = h.as_long; below = λ r l. other_kept r l (λ e. omega arith); past = h.past })

    pub held_taken : (get_or xs (rank i) 0 ≡ 0 → ⊥) → Held size before (i + 1) rank old xs
    held_taken taken = next (record { as_long = h.as_long; below = λ r l. go r l (eqb (rank i) r) refl; past = h.past })
      where
        go : (r : ℕ) → r < size → (b : Bool) → eqb (rank i) r ≡ b → get_or xs r 0 ≡ held_by before (suc i) rank (get_or old r 0) r
        go r l false e = other_kept r l (eqb-false (rank i) r e)
        go r l true e =
            let same : rank i ≡ r = eqb-true (rank i) r e in
            let some : held_by before i rank (get_or old r 0) r ≡ 0 → ⊥ = λ z. taken (ap (λ (k : ℕ). get_or xs k 0) same ∙ h.below r l ∙ z) in
            h.below r l ∙ sym (more_held before i rank (get_or old r 0) r ∙ rw (ne_eqb (held_by before i rank (get_or old r 0) r) 0 some))

    -- else it is put there
    pub held_put : rank i < size → size ≤ length xs → get_or xs (rank i) 0 ≡ 0 → Held size before (i + 1) rank old (set xs (rank i) (before + i + 1))
    held_put under long free = next (record {
      as_long = length-set xs (rank i) (before + i + 1) ∙ h.as_long;
      below = λ r l. go r l (eqb (rank i) r) refl;
      past = λ r l. get_or-set_other xs (rank i) r (before + i + 1) 0 (λ e. omega arith) ∙ h.past r l;
    })
      where
        go : (r : ℕ) → r < size → (b : Bool) → eqb (rank i) r ≡ b
            → get_or (set xs (rank i) (before + i + 1)) r 0 ≡ held_by before (suc i) rank (get_or old r 0) r
        go r l false e =
            get_or-set_other xs (rank i) r (before + i + 1) 0 (λ same. eqb-false (rank i) r e (sym same)) ∙ other_kept r l (eqb-false (rank i) r e)
        go r l true e =
            let same : rank i ≡ r = eqb-true (rank i) r e in
            let none : held_by before i rank (get_or old r 0) r ≡ 0 = sym (h.below r l) ∙ ap (λ (k : ℕ). get_or xs k 0) (sym same) ∙ free in
            ap (λ (k : ℕ). get_or (set xs (rank i) (before + i + 1)) k 0) (sym same)
            ∙ get_or-set_same xs (rank i) (before + i + 1) 0 (omega arith)
            ∙ sym (more_held before i rank (get_or old r 0) r ∙ rw (none, e))

-- the row of both files
pub holders_are : (n m : ℕ) (rank rank' : ℕ → ℕ) {xs ys : List ℕ} → n + m ≤ 2 * max_tasks → Held (n + m) 0 n rank (replicate (2 * max_tasks) 0) xs
    → Held (n + m) n m rank' xs ys → ys ≡ holders n m rank rank'
unfolding holders holder
holders_are n m rank rank' {xs} {ys} few one two =
    let long : length ys ≡ 2 * max_tasks = two.as_long ∙ one.as_long ∙ length-replicate {A = ℕ} (2 * max_tasks) 0 in
    ext_get_or 0 ys (holders n m rank rank') (long ∙ sym (length_list _ (2 * max_tasks)))
    (λ k l. let within : k < 2 * max_tasks = omega arith in
    go k within (ltb k (n + m)) refl ∙ sym (get_or_list (λ r. cond (ltb r (n + m)) (holder n m rank rank' r) 0) (2 * max_tasks) k 0 within))
  where
    go : (k : ℕ) → k < 2 * max_tasks → (b : Bool) → ltb k (n + m) ≡ b → get_or ys k 0 ≡ cond (ltb k (n + m)) (holder n m rank rank' k) 0
    go k l true e =
        let below : k < n + m = ltb-true k (n + m) e in
        rw e
        (two.below k below
        ∙ ap (λ (x : ℕ). held_by n m rank' x k)
        (one.below k below ∙ ap (λ (x : ℕ). held_by 0 n rank x k) (get_or-replicate (2 * max_tasks) k 0 0 l)))
    go k l false e =
        let past : n + m ≤ k = ltb-false k (n + m) e in
        rw e (two.past k past ∙ one.past k past ∙ get_or-replicate (2 * max_tasks) k 0 0 l)

-- a rank comes where it has a task
comes_held : (n m : ℕ) (rank rank' : ℕ → ℕ) (r : ℕ) → ltb 0 (comes n m rank rank' r) ≡ not (eqb (holder n m rank rank' r) 0)
unfolding holder
comes_held n m rank rank' r = go (ltb (carrier n rank r) n) refl (ltb (carrier m rank' r) m) refl
  where
    go : (a : Bool) → ltb (carrier n rank r) n ≡ a → (b : Bool) → ltb (carrier m rank' r) m ≡ b
        → ltb 0 (times n rank r + times m rank' r) ≡ not (eqb (holder n m rank rank' r) 0)
    go true e b f =
        let some : 0 < times n rank r = ltb-true 0 (times n rank r) (times_carrier n rank r ∙ e) in
        lt-ltb 0 (times n rank r + times m rank' r) (omega arith)
        ∙ sym (rw (e, ne_eqb (0 + carrier n rank r + 1) 0 (λ z. omega arith), ne_eqb (0 + carrier n rank r + 1) 0 (λ z. omega arith)) refl)
    go false e true f =
        let some : 0 < times m rank' r = ltb-true 0 (times m rank' r) (times_carrier m rank' r ∙ f) in
        lt-ltb 0 (times n rank r + times m rank' r) (omega arith)
        ∙ sym (rw (e, f, ne_eqb (n + carrier m rank' r + 1) 0 (λ z. omega arith)) refl)
    go false e false f =
        let none : times n rank r ≤ 0 = ltb-false 0 (times n rank r) (times_carrier n rank r ∙ e) in
        let none' : times m rank' r ≤ 0 = ltb-false 0 (times m rank' r) (times_carrier m rank' r ∙ f) in
        le-ltb 0 (times n rank r + times m rank' r) (omega arith) ∙ sym (rw (e, f) refl)

pub lacking_held : (n m : ℕ) (rank rank' : ℕ → ℕ)
    → none_lacking n m rank rank' ≡ all_below (n + m) (λ r. not (eqb (holder n m rank rank' r) 0))
unfolding none_lacking
lacking_held n m rank rank' = all_cong _ _ (n + m) (λ r l. comes_held n m rank rank' r)

pub length_holders : (n m : ℕ) (rank rank' : ℕ → ℕ) → length (holders n m rank rank') ≡ 2 * max_tasks
unfolding holders
length_holders n m rank rank' = length_list _ (2 * max_tasks)

pub holder_at : (n m : ℕ) (rank rank' : ℕ → ℕ) (r : ℕ) → n + m ≤ 2 * max_tasks → r < n + m
    → entry (holders n m rank rank') r ≡ holder n m rank rank' r
unfolding holders
holder_at n m rank rank' r few l =
    get_or_list (λ r. cond (ltb r (n + m)) (holder n m rank rank' r) 0) (2 * max_tasks) r 0 (omega arith) ∙ rw (lt-ltb r (n + m) l)
