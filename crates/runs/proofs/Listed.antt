-- Numbers of w bytes each, stored one after the other: one more of them, all of them, and a part of the next where the budget has no room for it.
use mathlib.Core.Path.{◌≡◌, refl, sym, ap, ◌∙◌}
use mathlib.Core.List.{List, [], ◌∷◌, ◌++◌, append-nil}
use Prim.Native.Nat.{ℕ, zero, suc, ◌+◌, ◌-◌, ◌*◌, ◌<◌, ◌≤◌}
use native.Mathlib.Nat.{le_refl, mul-suc, mul-zero, mul-le-mul_left}
use native.Mathlib.Numerals.{add-one}
use native.Mathlib.Omega.{arith}
use lib.ListN.{length, get_or, take, replicate, length-append, length-replicate}
use lib.Seq.{take_all, take_at, length-take-le, get_or_at}
use Rattle.std.proofs.Common.{Some, None}
use Rattle.std.specs.Prelude.{slice_get}
use Rattle.std.specs.List.{flat_map}
use Rattle.std.proofs.lemmas.Grind.{flat_map-append}
use Rattle.std.proofs.lemmas.List.{take_more}
use Rattle.lists.specs.Below.{join_below}
use Rattle.lists.specs.Splice.{splice}
use Rattle.lists.specs.Stores.{Spends}
use Rattle.lists.proofs.Splice.{put_first, put_then}
use Rattle.lists.proofs.Stores.{spends_same, runs_whole, runs_cut}

-- the first of a list: one more of them, and so many, by their places
flat_more : {A : Type 0} (f : A → List ℕ) (vs : List A) (i : ℕ) (d : A) → i < length vs
    → flat_map f (take (i + 1) vs) ≡ flat_map f (take i vs) ++ f (get_or vs i d)
flat_more f vs i d l =
    ap (flat_map f) (take_more vs i d l) ∙ flat_map-append f (take i vs) (get_or vs i d ∷ [])
    ∙ ap (λ (s : List ℕ). flat_map f (take i vs) ++ s) (append-nil (f (get_or vs i d)))

pub listed : {A : Type 0} (f : A → List ℕ) (vs : List A) (n : ℕ) (d : A) → n ≤ length vs → flat_map f (take n vs) ≡ join_below n (λ i. f (get_or vs i d))
unfolding join_below
listed f vs zero d h = refl
listed f vs (suc n) d h =
    ap (λ (k : ℕ). flat_map f (take k vs)) (sym (add-one n)) ∙ flat_more f vs n d (omega arith)
    ∙ ap (λ (s : List ℕ). s ++ f (get_or vs n d)) (listed f vs n d (omega arith))

listed_all : {A : Type 0} (f : A → List ℕ) (vs : List A) (d : A) → flat_map f vs ≡ join_below (length vs) (λ i. f (get_or vs i d))
listed_all f vs d = ap (flat_map f) (sym (take_all (length vs) vs (le_refl (length vs)))) ∙ listed f vs (length vs) d (le_refl (length vs))

module _ {A : Type 0} (f : A → List ℕ) (w : ℕ) (same : (v : A) → length (f v) ≡ w) where
  pub length_numbers : (vs : List A) → length (flat_map f vs) ≡ w * length vs
  length_numbers [] = sym (mul-zero w)
  length_numbers (v ∷ vs) = rw (length-append, same v, length_numbers vs, mul-suc) (omega arith)

  -- all of them at `at` of xs: those of vs whole, and then a part of the next
  module _ (xs : List ℕ) (at : ℕ) (all vs rest : List A) (cut : all ≡ vs ++ rest) (fits : at + w * length all ≤ length xs) where
    pub one_more : (i : ℕ) {v : A} {ys zs : List ℕ} → i < length vs → v ≡ get_or vs i v → ys ≡ splice xs at (flat_map f (take i vs))
        → zs ≡ splice ys (at + w * i) (f v) → zs ≡ splice xs at (flat_map f (take (i + 1) vs))
    one_more i {v} l e stored more =
        let some : suc i ≤ length all = rw (cut, length-append) (omega arith) in
        let room : w * i + w ≤ w * length all = rw mul-suc at (mul-le-mul_left w some) in
        let long : length (flat_map f (take i vs)) ≡ w * i = length_numbers (take i vs) ∙ ap (λ (k : ℕ). w * k) (length-take-le i vs (omega arith)) in
        (put_then xs at _ (f v) w (put_first xs at _ (w * i) long stored) (same v) more (omega arith)).0
        ∙ ap (splice xs at) (ap (λ (u : A). flat_map f (take i vs) ++ f u) e ∙ sym (flat_more f vs i v l))

    module _ (b : ℕ) {ys : List ℕ} {i : ℕ} (room : w * length vs ≤ b) (last : length vs ≤ i) (stored : ys ≡ splice xs at (flat_map f (take i vs))) where
      all_stored : ys ≡ splice xs at (flat_map f vs)
      all_stored = stored ∙ ap (splice xs at) (ap (flat_map f) (take_all i vs last))

      -- an empty list offers no default to read its places by: it is 0 runs of any w bytes
      whole : Spends b xs at (flat_map f vs) ys (b - w * length vs)
      unfolding join_below
      whole = go vs room all_stored
        where
          go : (vs : List A) → w * length vs ≤ b → ys ≡ splice xs at (flat_map f vs) → Spends b xs at (flat_map f vs) ys (b - w * length vs)
          go [] room e = runs_whole b xs at w (λ i. replicate w 0) (λ i. length-replicate w 0) 0 room e
          go (v ∷ vs) room e =
              let by_place = listed_all f (v ∷ vs) v in
              spends_same refl (sym by_place)
              (runs_whole b xs at w (λ i. f (get_or (v ∷ vs) i v)) (λ i. same _) (length (v ∷ vs)) room (e ∙ ap (splice xs at) by_place))

      pub all_whole : None ≡ slice_get rest 0 → Spends b xs at (flat_map f all) ys (b - w * length vs)
      all_whole e = spends_same refl (ap (flat_map f) (go rest e ∙ sym cut)) whole
        where
          go : (rest : List A) → None ≡ slice_get rest 0 → vs ≡ vs ++ rest
          go [] e = sym (append-nil vs)
          go (u ∷ rest) e = cc

      pub next_cut : {v : A} {zs : List ℕ} {left : ℕ} → Some v ≡ slice_get rest 0 → (length vs < length all → b < w * length vs + w)
          → Spends (b - w * length vs) ys (at + w * length vs) (f v) zs left → Spends b xs at (flat_map f all) zs left
      next_cut {v} {zs} {left} e short next = go rest e cut
        where
          go : (rest : List A) → Some v ≡ slice_get rest 0 → all ≡ vs ++ rest → Spends b xs at (flat_map f all) zs left
          go [] e cut = cc
          go (u ∷ rest) e cut =
              let more : length vs < length all = rw (cut, length-append) (omega arith) in
              let off : b < w * length vs + w = short more in
              let same_v : u ≡ v = cc in
              let here : get_or all (length vs) v ≡ v = ap (λ (l : List A). get_or l (length vs) v) cut ∙ get_or_at vs u rest v (length vs) refl ∙ same_v in
              let front : take (length vs) all ≡ vs = ap (take (length vs)) cut ∙ take_at vs (u ∷ rest) (length vs) refl in
              let by_place = ap (flat_map f) (sym front) ∙ listed f all (length vs) v (omega arith) in
              let none : left ≡ 0 = omega (arith, next.spent, same v) in
              rw none
              (spends_same refl (sym (listed_all f all v))
              (runs_cut b xs at w (λ i. f (get_or all i v)) (λ i. same _) (length vs) (length all) more room off fits
              (all_stored ∙ ap (splice xs at) by_place) (spends_same refl (ap f (sym here)) next)))
