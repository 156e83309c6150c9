-- Laws of stores within a budget: one run of bytes after another, none of them, enough for all, the length, and the same stores made again.
use mathlib.Core.Path.{◌≡◌, refl, sym, ap, ◌∙◌}
use mathlib.Core.Bool.{Bool, true, false}
use mathlib.Core.List.{List, [], ◌∷◌, ◌++◌}
use mathlib.Core.Logic.{◌⊎◌, inl, inr, ⊎_elim}
use Prim.Native.Nat.{ℕ, zero, suc, ◌+◌, ◌-◌, ◌*◌, ◌<◌, ◌≤◌}
use native.Mathlib.Nat.{zero-add, zero-sub, sub-zero, suc-sub-suc, mul_comm, mul-suc, mul-le-mul_left}
use native.Mathlib.Numerals.{one-add}
use native.Mathlib.Omega.{arith}
use lib.Dec.{ltb, leb}
use lib.ListN.{length, take, drop, get_or, replicate, length-append, length-take, length-replicate, replicate-append-replicate, take-append-drop}
use lib.Seq.{take_all, take_at, take-append-le, drop-drop, get_or-take, ext_get_or}
use borrow.Author.Tests.{ltb-true, ltb-false, leb-true, leb-false}
use Rattle.lists.specs.Below.{join_below}
use Rattle.lists.specs.Splice.{splice}
use Rattle.lists.specs.Stores.{Store, store, applied, byte_stores, first_stores, found, Spends}
use Rattle.lists.proofs.Below.{length_join}
use Rattle.lists.proofs.Splice.{length_splice, splice_part, splice_next, get_or_splice_in, get_or_splice_out, within_or_not, splice_agree, put_none}

-- ---- runs of bytes, each where the last ended

-- the first b of two lists
take_both : (b : ℕ) (us vs : List ℕ) → take b (us ++ vs) ≡ take b us ++ take (b - length us) vs
take_both zero us vs = rw (zero-sub (length us))
take_both (suc b) [] vs = rw (sub-zero (suc b))
take_both (suc b) (u ∷ us) vs = rw (suc-sub-suc b (length us)) (ap (λ (l : List ℕ). u ∷ l) (take_both b us vs))

splice_nothing : (xs : List ℕ) (at : ℕ) → splice xs at [] ≡ xs
splice_nothing xs at = sym (put_none xs at).0

-- the first of some zeros
pub take_zeros : (b n : ℕ) → b ≤ n → take b (replicate n 0) ≡ replicate {A = ℕ} b 0
take_zeros b n l =
    let e : n ≡ b + (n - b) = omega arith in
    rw (e, ← replicate-append-replicate {A = ℕ} b (n - b) 0) (take_at (replicate b 0) (replicate (n - b) 0) b (length-replicate b 0))

pub length_take_of : (b : ℕ) (us : List ℕ) → length (take b us) ≤ length us
length_take_of b us = simp length-take (omega arith)

-- what is there already, put there again
pub splice_same : (xs : List ℕ) (at : ℕ) (vs : List ℕ) → take (length vs) (drop at xs) ≡ vs → splice xs at vs ≡ xs
unfolding splice
splice_same xs at vs e =
    rw (← drop-drop (length vs) at xs) (ap (λ (l : List ℕ). take at xs ++ (l ++ drop (length vs) (drop at xs))) (sym e)
    ∙ ap (λ (l : List ℕ). take at xs ++ l) (take-append-drop (length vs) (drop at xs)) ∙ take-append-drop at xs)

-- bytes stored into the start of a part are stored into the whole, where the part begins
pub spends_part : (b : ℕ) (xs : List ℕ) (at n : ℕ) (vs : List ℕ) {part : List ℕ} {left : ℕ} → length vs ≤ n → at + n ≤ length xs
    → Spends b (take n (drop at xs)) 0 vs part left → Spends b xs at vs (take at xs ++ (part ++ drop n (drop at xs))) left
spends_part b xs at n vs {part} fits room s = record {
  leaves = splice_part xs at n (take b vs) part (omega (arith, length_take_of b vs)) room s.leaves;
  spent = s.spent;
}

-- the same bytes at the same place
pub spends_same : {b : ℕ} {xs : List ℕ} {at at' : ℕ} {vs vs' ys : List ℕ} {left : ℕ} → at ≡ at' → vs ≡ vs' → Spends b xs at vs ys left
    → Spends b xs at' vs' ys left
spends_same place bytes s = rw (place, bytes) at s

-- two runs, the second where the first ends, are one
splice_cut : (b : ℕ) (xs : List ℕ) (at : ℕ) (us vs : List ℕ) → at + length us + length vs ≤ length xs
    → splice (splice xs at (take b us)) (at + length us) (take (b - length us) vs) ≡ splice xs at (take b (us ++ vs))
splice_cut b xs at us vs fits = go (ltb b (length us)) refl
  where
    go : (t : Bool) → ltb b (length us) ≡ t
        → splice (splice xs at (take b us)) (at + length us) (take (b - length us) vs) ≡ splice xs at (take b (us ++ vs))
    go true e =
        let z : b - length us ≡ 0 = omega (arith, ltb-true) in
        rw (z, splice_nothing, take-append-le b us vs (omega (arith, ltb-true)))
    go false e =
        let all : take b us ≡ us = take_all b us (ltb-false _ _ e) in
        rw (take_both b us vs, all) (splice_next xs at us (take (b - length us) vs) (omega (arith, length_take_of (b - length us) vs)))

module _ (b : ℕ) (xs : List ℕ) (at : ℕ) where
  -- a run that ends at `end`
  pub record Run (bytes ys : List ℕ) (end left : ℕ) : Type 0 where
    pub spends : Spends b xs at bytes ys left
    pub ends : end ≡ at + length bytes

  pub run_first : (vs : List ℕ) (w : ℕ) {ys : List ℕ} {left : ℕ} → length vs ≡ w → Spends b xs at vs ys left → Run vs ys (at + w) left
  run_first vs w l s = record { spends = s; ends = rw l }

  pub run_then : (us vs : List ℕ) (w : ℕ) {ys zs : List ℕ} {mid left rest : ℕ} → Run us ys mid left → length vs ≡ w
      → Spends left ys mid vs zs rest → mid + w ≤ length xs → Run (us ++ vs) zs (mid + w) rest
  run_then us vs w r l s fits = record {
    spends = record {
      leaves = s.leaves ∙ rw (r.spends.spent, r.ends, r.spends.leaves) (splice_cut b xs at us vs (omega (arith, r.ends)));
      spent = s.spent ∙ rw (r.spends.spent, length-append) (omega arith);
    };
    ends = rw length-append (omega (arith, r.ends));
  }

  -- numbered runs, each of w bytes: the first i of them
  module _ (w : ℕ) (f : ℕ → List ℕ) (same : (j : ℕ) → length (f j) ≡ w) where
    pub runs : {ys : List ℕ} {left : ℕ} (i : ℕ) → Spends b xs at (join_below i f) ys left → Run (join_below i f) ys (at + w * i) left
    runs i s = record { spends = s; ends = rw (length_join f i w (λ j h. same j), mul_comm i w) }

    -- all n of them, where the budget has room for them; and where it has not, the first k and a part of the next
    pub runs_whole : {ys : List ℕ} (n : ℕ) → w * n ≤ b → ys ≡ splice xs at (join_below n f) → Spends b xs at (join_below n f) ys (b - w * n)
    runs_whole n room e =
        let long : length (join_below n f) ≡ w * n = length_join f n w (λ j h. same j) ∙ mul_comm n w in
        record { leaves = e ∙ rw (take_all b (join_below n f) (omega arith)); spent = rw long }

    take_runs : (k n : ℕ) → b ≤ w * k → k ≤ n → take b (join_below n f) ≡ take b (join_below k f)
    unfolding join_below
    take_runs k zero l h = let e : k ≡ 0 = omega arith in rw e
    take_runs k (suc n) l h = go (leb k n) refl (take_runs k n l)
      where
        go : (t : Bool) → leb k n ≡ t → (k ≤ n → take b (join_below n f) ≡ take b (join_below k f))
            → take b (join_below n f ++ f n) ≡ take b (join_below k f)
        go true e rest =
            let fits : k ≤ n = leb-true _ _ e in
            let long : length (join_below n f) ≡ w * n = length_join f n w (λ j h. same j) ∙ mul_comm n w in
            take-append-le b (join_below n f) (f n) (omega (arith, mul-le-mul_left w fits)) ∙ rest fits
        go false e rest = let z : k ≡ suc n = omega (arith, leb-false) in rw z

    pub runs_cut : {ys zs : List ℕ} {left : ℕ} (k n : ℕ) → k < n → w * k ≤ b → b < w * k + w → at + w * n ≤ length xs
        → ys ≡ splice xs at (join_below k f) → Spends (b - w * k) ys (at + w * k) (f k) zs left → Spends b xs at (join_below n f) zs 0
    unfolding join_below
    runs_cut k n l room short fits e s =
        let more : w * k + w ≤ w * n = rw mul-suc at (mul-le-mul_left w l) in
        let first = (run_then (join_below k f) (f k) w (runs k (runs_whole k room e)) (same k) s (omega arith)).spends in
        let cut = take_runs (suc k) n (rw mul-suc (omega arith)) l in
        record {
          leaves = first.leaves ∙ ap (splice xs at) (sym cut);
          spent = rw (length_join f n w (λ j h. same j), mul_comm n w) (omega arith);
        }

-- ---- lists of stores

-- each of them within n bytes
abbrev pub Fit : ℕ → List Store → Type 0
Fit n [] = Unit {0}
Fit n (s ∷ ss) = (s.at + length s.bytes ≤ n) × Fit n ss

-- a place is one that they store to
abbrev Covered : ℕ → List Store → Type 0
Covered j [] = ⊥
Covered j (s ∷ ss) = ((s.at ≤ j) × (j < s.at + length s.bytes)) ⊎ Covered j ss

-- a run, and then other stores with what is left of the budget; and a run alone
pub found_then : {b : ℕ} {xs : List ℕ} {at : ℕ} {vs ys zs : List ℕ} {left : ℕ} (ss : List Store) → Spends b xs at vs ys left → zs ≡ found left ys ss
    → zs ≡ found b xs (store at vs ∷ ss)
unfolding found first_stores applied
found_then ss s e = e ∙ rw (s.spent, s.leaves)

pub found_last : {b : ℕ} {xs : List ℕ} {at : ℕ} {vs ys : List ℕ} {left : ℕ} → Spends b xs at vs ys left → ys ≡ found b xs (store at vs ∷ [])
unfolding found first_stores applied
found_last s = s.leaves

-- no store is made, and all are
pub found_none : (xs : List ℕ) (ss : List Store) → found 0 xs ss ≡ xs
unfolding found first_stores applied
found_none xs [] = refl
found_none xs (s ∷ ss) = rw (zero-sub (length s.bytes), splice_nothing) (found_none xs ss)

pub found_all : (b : ℕ) (xs : List ℕ) (ss : List Store) → byte_stores ss ≤ b → found b xs ss ≡ applied xs ss
unfolding found first_stores applied byte_stores
found_all b xs [] l = refl
found_all b xs (s ∷ ss) l =
    rw (take_all b s.bytes (omega arith)) (found_all (b - length s.bytes) (splice xs s.at s.bytes) ss (omega arith))

pub length_found : (b : ℕ) (xs : List ℕ) (ss : List Store) → Fit (length xs) ss → length (found b xs ss) ≡ length xs
unfolding found first_stores applied
length_found b xs [] fit = refl
length_found b xs (s ∷ ss) fit =
    let cut = take b s.bytes in
    let l : length (splice xs s.at cut) ≡ length xs = length_splice xs s.at cut (omega (arith, length_take_of b s.bytes)) in
    length_found (b - length s.bytes) (splice xs s.at cut) ss (rw l fit.1) ∙ l

-- what is found at a place where nothing is stored is what was there
found_other : (b : ℕ) (xs : List ℕ) (ss : List Store) → Fit (length xs) ss → (j : ℕ) → (get_or (found b xs ss) j 0 ≡ get_or xs j 0) ⊎ Covered j ss
unfolding found first_stores applied
found_other b xs [] fit j = inl refl
found_other b xs (s ∷ ss) fit j =
    go (within_or_not s.at (length s.bytes) j) (found_other (b - length s.bytes) (splice xs s.at (take b s.bytes)) ss (rw long fit.1) j)
  where
    short : length (take b s.bytes) ≤ length s.bytes
    short = length_take_of b s.bytes

    long : length (splice xs s.at (take b s.bytes)) ≡ length xs
    long = length_splice xs s.at (take b s.bytes) (omega (arith, short))

    kept : (j < s.at) ⊎ (s.at + length s.bytes ≤ j) → get_or (splice xs s.at (take b s.bytes)) j 0 ≡ get_or xs j 0
    kept out = get_or_splice_out xs s.at (take b s.bytes) (omega (arith, short)) j 0 (⊎_elim inl (λ l. inr (omega (arith, short))) out)

    go : {y : ℕ} → ((s.at ≤ j) × (j < s.at + length s.bytes)) ⊎ ((j < s.at) ⊎ (s.at + length s.bytes ≤ j))
        → (y ≡ get_or (splice xs s.at (take b s.bytes)) j 0) ⊎ Covered j ss → (y ≡ get_or xs j 0) ⊎ Covered j (s ∷ ss)
    go (inl here) rest = inr (inl here)
    go (inr out) (inl e) = inl (e ∙ kept out)
    go (inr out) (inr c) = inr (inr c)

-- two lists that differ only where the stores go are the same afterwards
applied_agree : (xs ys : List ℕ) (ss : List Store) → length xs ≡ length ys → Fit (length xs) ss
    → ((j : ℕ) → (get_or xs j 0 ≡ get_or ys j 0) ⊎ Covered j ss) → applied xs ss ≡ applied ys ss
unfolding applied
applied_agree xs ys [] l fit same = ext_get_or 0 xs ys l (λ j h. ⊎_elim (λ e. e) (λ c. absurd c) (same j))
applied_agree xs ys (s ∷ ss) l fit same =
    applied_agree (splice xs s.at s.bytes) (splice ys s.at s.bytes) ss (long_x ∙ l ∙ sym long_y) (rw long_x fit.1)
    (λ j. go j (same j))
  where
    fit_y : s.at + length s.bytes ≤ length ys
    fit_y = omega (arith, fit.0)

    long_x : length (splice xs s.at s.bytes) ≡ length xs
    long_x = length_splice xs s.at s.bytes fit.0

    long_y : length (splice ys s.at s.bytes) ≡ length ys
    long_y = length_splice ys s.at s.bytes fit_y

    go : (j : ℕ) → (get_or xs j 0 ≡ get_or ys j 0) ⊎ Covered j (s ∷ ss)
        → (get_or (splice xs s.at s.bytes) j 0 ≡ get_or (splice ys s.at s.bytes) j 0) ⊎ Covered j ss
    go j (inl e) = inl (splice_agree xs ys s.at s.bytes j 0 fit.0 fit_y (λ out. e))
    go j (inr (inl here)) = inl (splice_agree xs ys s.at s.bytes j 0 fit.0 fit_y (λ out. absurd (⊎_elim (λ l. omega arith) (λ l. omega arith) out)))
    go j (inr (inr c)) = inr c

-- the same stores made again, after some of them
pub applied_again : (b : ℕ) (xs : List ℕ) (ss : List Store) → Fit (length xs) ss → applied (found b xs ss) ss ≡ applied xs ss
applied_again b xs ss fit =
    let l = length_found b xs ss fit in
    applied_agree (found b xs ss) xs ss l (rw l fit) (found_other b xs ss fit)

-- of one run, each place is as it was or as the whole run leaves it
pub run_either : (b : ℕ) (xs : List ℕ) (at : ℕ) (bytes : List ℕ) → at + length bytes ≤ length xs → (j : ℕ)
    → (get_or (splice xs at (take b bytes)) j 0 ≡ get_or xs j 0) ⊎ (get_or (splice xs at (take b bytes)) j 0 ≡ get_or (splice xs at bytes) j 0)
run_either b xs at bytes fits j = go (within_or_not at (length (take b bytes)) j)
  where
    short : length (take b bytes) ≤ length bytes
    short = length_take_of b bytes

    fits_cut : at + length (take b bytes) ≤ length xs
    fits_cut = omega (arith, short)

    go : ((at ≤ j) × (j < at + length (take b bytes))) ⊎ ((j < at) ⊎ (at + length (take b bytes) ≤ j))
        → (get_or (splice xs at (take b bytes)) j 0 ≡ get_or xs j 0) ⊎ (get_or (splice xs at (take b bytes)) j 0 ≡ get_or (splice xs at bytes) j 0)
    go (inl here) =
        let e : at + (j - at) ≡ j = omega arith in
        let first : j - at < b = omega (arith, length-take b bytes) in
        inr (rw (← e) (get_or_splice_in xs at (take b bytes) fits_cut (j - at) 0 (omega arith) ∙ get_or-take b bytes (j - at) 0 first
        ∙ sym (get_or_splice_in xs at bytes fits (j - at) 0 (omega (arith, short)))))
    go (inr out) = inl (get_or_splice_out xs at (take b bytes) fits_cut j 0 out)

-- the first place stored before and after those that follow it: one run
pub applied_around : (xs : List ℕ) (u v : ℕ) (rest : List ℕ) → applied xs (store 0 (u ∷ []) ∷ store 1 rest ∷ store 0 (v ∷ []) ∷ []) ≡ splice xs 0 (v ∷ rest)
unfolding applied splice
applied_around xs u v rest =
    ap (λ (l : List ℕ). v ∷ (rest ++ l))
    (ap (λ (k : ℕ). drop k (u ∷ drop 1 xs)) (one-add (length rest)) ∙ drop-drop (length rest) 1 xs
    ∙ ap (λ (k : ℕ). drop k xs) (one-add (length rest) ∙ sym (zero-add (suc (length rest)))))
