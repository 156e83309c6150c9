-- The first number of a list that breaks its rule: what is known where there is one, where there is none, and of the first n numbers of a list.
use mathlib.Core.Path.{◌≡◌, refl, sym, ap, ap₂, ◌∙◌}
use mathlib.Core.Bool.{Bool, true, false, not, ◌&&◌, cond, and-true, and_assoc}
use mathlib.Core.List.{List, [], ◌∷◌}
use Prim.Native.Nat.{ℕ, zero, suc, ◌<◌, ◌≤◌}
use native.Mathlib.Nat.{le_refl}
use native.Mathlib.Omega.{arith}
use borrow.Author.Tests.{lt-ltb, le-ltb, eq-eqb, ne_eqb}
use lib.Dec.{eqb}
use lib.IntN.{pos}
use lib.ListN.{length, take, get_or}
use lib.Seq.{length-take-le, get_or-take}
use Rattle.std.specs.Prelude.{Option, Some, None, position, fold}
use Rattle.std.specs.List.{prefix_len}
use Rattle.std.proofs.lemmas.List.Sums.{prefix_len_is}
use Rattle.std.specs.Option.{is_some, is_none, unwrap_or, option_or}
use Rattle.lists.specs.Below.{all_below, first_not}
use Rattle.lists.proofs.Below.{all_at, all_cong, all_both, first_none, first_fails, first_cong, first_both, all_first}
use Rattle.endian.specs.Signed.{within}
use Rattle.format.specs.Limits.{max_size, max_rank, is_new, all_different, rank_rule, ranks_rule, sizes_rule}
use Rattle.rules.specs.First.{first_bad}

not_not : (b : Bool) → not (not b) ≡ b
not_not true = refl
not_not false = refl

Some_same : (i j : ℕ) → Some i ≡ Some j → i ≡ j
Some_same i j e = cc

module _ (n : ℕ) (rule : ℕ → Bool) where
  -- where each keeps its rule, and where one breaks it
  pub bad_none : all_below n rule ≡ true → first_bad n rule ≡ None
  unfolding first_bad
  bad_none all = rw all

  pub bad_some : all_below n rule ≡ false → first_bad n rule ≡ Some (first_not n rule)
  unfolding first_bad
  bad_some fails = rw fails

  -- and back, from what a call returned: the one that it found
  pub some_bad : (i : ℕ) → first_bad n rule ≡ Some i → (i ≡ first_not n rule) × (i < n) × (all_below n rule ≡ false)
  unfolding first_bad
  some_bad i e = go (all_below n rule) refl
    where
      go : (b : Bool) → all_below n rule ≡ b → (i ≡ first_not n rule) × (i < n) × (b ≡ false)
      go true a = let h : None ≡ Some i = rw a at e in absurd (cc)
      go false a =
          let h : Some (first_not n rule) ≡ Some i = rw a at e in
          let same : i ≡ first_not n rule = sym (Some_same _ _ h) in
          (same, omega (arith, (first_fails rule n a).0), refl)

  -- where it is not there, its place stands for n
  pub bad_or_end : unwrap_or (first_bad n rule) n ≡ first_not n rule
  unfolding first_bad
  bad_or_end = go (all_below n rule) refl
    where
      go : (b : Bool) → all_below n rule ≡ b → unwrap_or (cond b None (Some (first_not n rule))) n ≡ first_not n rule
      go true a = sym (first_none rule n a)
      go false a = refl

  -- there is none exactly where its place is n, which is where each keeps its rule
  is_none_end : is_none (first_bad n rule) ≡ eqb (first_not n rule) n
  is_none_end = go (first_bad n rule) refl ∙ ap (λ (i : ℕ). eqb i n) bad_or_end
    where
      go : (o : Option ℕ) → first_bad n rule ≡ o → is_none o ≡ eqb (unwrap_or o n) n
      go None e = sym (eq-eqb n n refl)
      go (Some i) e = sym (ne_eqb i n (λ h. omega (arith, (some_bad i e).1)))

  pub is_none_bad : is_none (first_bad n rule) ≡ all_below n rule
  is_none_bad = is_none_end ∙ all_first rule n

  -- and back, from a call that found none
  pub none_bad : first_bad n rule ≡ None → all_below n rule ≡ true
  none_bad e = sym is_none_bad ∙ ap is_none e

pub bad_cong : (p q : ℕ → Bool) (n : ℕ) → ((i : ℕ) → i < n → p i ≡ q i) → first_bad n p ≡ first_bad n q
unfolding first_bad
bad_cong p q n h = rw (all_cong p q n h, first_cong p q n h)

-- what `is_none` answered
pub is_none_of : (o : Option ℕ) (b : Bool) → is_some o ≡ not b → b ≡ is_none o
is_none_of o b e = sym (ap not e ∙ not_not b)

-- `position` finds it
pub position_bad : (rule : ℕ → Bool) (xs : List ℕ) → position (λ x. not (rule x)) xs ≡ first_bad (length xs) (λ i. rule (get_or xs i 0))
position_bad rule xs = go (all_below (length xs) (λ i. rule (get_or xs i 0))) refl
  where
    go : (b : Bool) → all_below (length xs) (λ i. rule (get_or xs i 0)) ≡ b
        → position (λ x. not (rule x)) xs ≡ first_bad (length xs) (λ i. rule (get_or xs i 0))
    go true a =
        let all : prefix_len (λ x. not (not (rule x))) xs ≡ length xs =
        prefix_len_is (λ x. not (not (rule x))) xs (length xs) 0 (le_refl (length xs)) (λ k l. not_not (rule (get_or xs k 0)) ∙ all_at _ (length xs) k l a) (λ l. absurd (omega arith)) in
        rw all (rw (le-ltb (length xs) (length xs) (le_refl (length xs))) (sym (bad_none (length xs) (λ i. rule (get_or xs i 0)) a)))
    go false a =
        let f = first_fails (λ i. rule (get_or xs i 0)) (length xs) a in
        let i : ℕ = first_not (length xs) (λ i. rule (get_or xs i 0)) in
        let here : prefix_len (λ x. not (not (rule x))) xs ≡ i =
        prefix_len_is (λ x. not (not (rule x))) xs i 0 (omega (arith, f.0))
        (λ k l. not_not (rule (get_or xs k 0)) ∙ all_at _ i k l f.2)
        (λ l. not_not (rule (get_or xs i 0)) ∙ f.1) in
        rw here (rw (lt-ltb i (length xs) f.0) (sym (bad_some (length xs) (λ i. rule (get_or xs i 0)) a)))

-- two searches, the second up to where the first ended, are one
pub bad_both : (p q : ℕ → Bool) (n : ℕ) → option_or (first_bad (first_not n p) q) (first_bad n p) ≡ first_bad n (λ i. p i && q i)
bad_both p q n = go (all_below n p) refl
  where
    or_none : (o : Option ℕ) → option_or o None ≡ o
    or_none None = refl
    or_none (Some i) = refl

    both : all_below n (λ i. p i && q i) ≡ (all_below n p && all_below n q)
    both = all_both p q n

    go : (b : Bool) → all_below n p ≡ b → option_or (first_bad (first_not n p) q) (first_bad n p) ≡ first_bad n (λ i. p i && q i)
    go true a =
        rw (first_none p n a, bad_none n p a)
        (or_none (first_bad n q) ∙ bad_cong q (λ i. p i && q i) n (λ i l. rw (all_at p n i l a)))
    go false a =
        let f = first_fails p n a in
        let i : ℕ = first_not n p in
        let first : first_not i q ≡ first_not n (λ i. p i && q i) = first_both p q n in
        let fails : all_below n (λ i. p i && q i) ≡ false = both ∙ rw a in
        rw (bad_some n p a, bad_some n (λ i. p i && q i) fails)
        (elim (all_below i q) as (λ b. all_below i q ≡ b → option_or (first_bad i q) (Some i) ≡ Some (first_not n (λ i. p i && q i))) [
          | true ↦ λ h. rw (bad_none i q h) (ap Some (sym (first_none q i h) ∙ first))
          | false ↦ λ h. rw (bad_some i q h) (ap Some first)
        ]
        refl)

-- ---- a test of each number of a list, one after the other

all_front : (p : ℕ → Bool) (n : ℕ) → all_below (suc n) p ≡ (p 0 && all_below n (λ j. p (suc j)))
unfolding all_below
all_front p zero = sym (and-true (p 0))
all_front p (suc n) = rw (all_front p n) (and_assoc (p 0) (all_below n (λ j. p (suc j))) (p (suc n)))

fold_from : (test : ℕ → Bool) (b : Bool) (xs : List ℕ)
    → fold (λ (b : Bool) (x : ℕ). b && test x) b xs ≡ (b && all_below (length xs) (λ j. test (get_or xs j 0)))
unfolding all_below
fold_from test b [] = sym (and-true b)
fold_from test b (x ∷ xs) =
    fold_from test (b && test x) xs
    ∙ and_assoc b (test x) (all_below (length xs) (λ j. test (get_or xs j 0)))
    ∙ ap (λ (t : Bool). b && t) (sym (all_front (λ j. test (get_or (x ∷ xs) j 0)) (length xs)))

pub fold_all : (test : ℕ → Bool) (xs : List ℕ)
    → fold (λ (b : Bool) (x : ℕ). b && test x) true xs ≡ all_below (length xs) (λ j. test (get_or xs j 0))
fold_all test xs = fold_from test true xs

-- ---- the first n numbers of a list

module _ (n : ℕ) (xs : List ℕ) (l : n ≤ length xs) where
  pub bad_taken : (rule : ℕ → Bool) → first_bad (length (take n xs)) (λ i. rule (get_or (take n xs) i 0)) ≡ first_bad n (λ i. rule (get_or xs i 0))
  bad_taken rule =
      rw (length-take-le n xs l)
      (bad_cong (λ i. rule (get_or (take n xs) i 0)) (λ i. rule (get_or xs i 0)) n (λ i h. ap rule (get_or-take n xs i 0 h)))

  -- whether a number is new depends on those up to it
  new_at : (i : ℕ) → i < n → is_new (λ j. pos (get_or (take n xs) j 0)) i ≡ is_new (λ j. pos (get_or xs j 0)) i
  unfolding is_new
  new_at i h =
      all_cong _ _ i
      (λ j k. rw (get_or-take n xs i 0 h, get_or-take n xs j 0 (omega arith)))

  pub new_taken : first_bad (length (take n xs)) (is_new (λ i. pos (get_or (take n xs) i 0))) ≡ first_bad n (is_new (λ i. pos (get_or xs i 0)))
  new_taken = rw (length-take-le n xs l) (bad_cong _ _ n new_at)

  pub rank_taken : first_bad (length (take n xs)) (rank_rule (λ i. pos (get_or (take n xs) i 0))) ≡ first_bad n (rank_rule (λ i. pos (get_or xs i 0)))
  unfolding rank_rule
  rank_taken =
      rw (length-take-le n xs l)
      (bad_cong _ _ n (λ i h. ap₂ ◌&&◌ (ap (λ (x : ℕ). within 0 max_rank (pos x)) (get_or-take n xs i 0 h)) (new_at i h)))

  pub ranks_taken : ranks_rule (length (take n xs)) (λ i. pos (get_or (take n xs) i 0)) ≡ ranks_rule n (λ i. pos (get_or xs i 0))
  unfolding ranks_rule all_different
  ranks_taken =
      rw (length-take-le n xs l)
      (ap₂ ◌&&◌ (all_cong _ _ n (λ i h. ap (λ (x : ℕ). within 0 max_rank (pos x)) (get_or-take n xs i 0 h))) (all_cong _ _ n new_at))

  pub sizes_taken : sizes_rule (length (take n xs)) (λ i. pos (get_or (take n xs) i 0)) ≡ sizes_rule n (λ i. pos (get_or xs i 0))
  unfolding sizes_rule
  sizes_taken =
      rw (length-take-le n xs l)
      (all_cong _ _ n (λ i h. ap (λ (x : ℕ). within 1 max_size (pos x)) (get_or-take n xs i 0 h)))
