-- Laws of a part of a list, and of a splice: what it leaves at its place, before it and after it, splices of a part and next to each other, and
-- stores one after the other.
use mathlib.Core.Bool.{Bool, true, false}
use mathlib.Core.Path.{◌≡◌, refl, sym, ap, ap₂, ◌∙◌}
use mathlib.Core.List.{List, [], ◌∷◌, ◌++◌, append_assoc, append-nil}
use mathlib.Core.Logic.{◌⊎◌, inl, inr, ⊎_elim}
use Prim.Native.Nat.{ℕ, zero, suc, ◌+◌, ◌-◌, ◌*◌, ◌<◌, ◌≤◌}
use native.Mathlib.Nat.{add-zero, zero-add, suc-add, mul_comm, le_refl}
use native.Mathlib.Numerals.{add-one}
use native.Mathlib.Omega.{arith}
use lib.Dec.{ltb, leb}
use lib.ListN.{length, take, drop, get_or, set, length-append, length-drop, take-append-drop}
use lib.Seq.{length-take-le, take-nil, take-take, take_at, take-add, take-append_seam, take-append-le, drop_at, drop-drop, drop-append-le, drop-length}
use lib.Seq.{get_or-take, get_or-drop, set_split, ext_get_or}
use borrow.Author.Tests.{ltb-true, ltb-false, leb-true, leb-false}
use Rattle.lists.specs.Below.{join_below, list_below}
use Rattle.lists.proofs.Below.{join_more, length_join, length_list, get_or_list}
use Rattle.lists.specs.Splice.{splice}

module _ {ℓ} {A : Type ℓ} where
  -- the part of a longer front
  take_drop : (b n : ℕ) (l : List A) → take n (drop b l) ≡ drop b (take (b + n) l)
  take_drop zero n l = ap (λ (k : ℕ). take k l) (sym (zero-add n))
  take_drop (suc b) n [] = take-nil n ∙ sym (ap (drop (suc b)) (take-nil (suc b + n)))
  take_drop (suc b) n (x ∷ xs) = take_drop b n xs ∙ ap (λ (k : ℕ). drop (suc b) (take k (x ∷ xs))) (sym (suc-add b n))

  -- a part of the first elements of a list, whatever follows these
  pub part_front : (b n len : ℕ) (xs tail : List A) → b + n ≤ len → len ≤ length xs
      → take n (drop b (take len xs ++ tail)) ≡ take n (drop b xs)
  part_front b n len xs tail h fits =
      let l : length (take len xs) ≡ len = length-take-le len xs fits in
      take_drop b n (take len xs ++ tail)
      ∙ ap (drop b) (take-append-le (b + n) (take len xs) tail (omega arith) ∙ take-take (b + n) len xs h)
      ∙ sym (take_drop b n xs)

  -- a part of a part
  pub part_part : (at len b n : ℕ) (xs : List A) → b + n ≤ len → take n (drop b (take len (drop at xs))) ≡ take n (drop (at + b) xs)
  part_part at len b n xs h =
      take_drop b n (take len (drop at xs))
      ∙ ap (drop b) (take-take (b + n) len (drop at xs) h)
      ∙ sym (take_drop b n (drop at xs))
      ∙ ap (take n) (drop-drop b at xs)

  -- the n elements from `at` on, after a splice at their start, put back: one splice of the whole
  pub splice_part : (xs : List A) (at n : ℕ) (vs part : List A) → length vs ≤ n → at + n ≤ length xs
      → part ≡ splice (take n (drop at xs)) 0 vs → take at xs ++ (part ++ drop n (drop at xs)) ≡ splice xs at vs
  unfolding splice
  splice_part xs at n vs part fits room e =
      let l : length (take n (drop at xs)) ≡ n = length-take-le n (drop at xs) (simp length-drop (omega arith)) in
      let h : length vs ≤ length (take n (drop at xs)) = omega arith in
      let rest = drop-append-le (length vs) (take n (drop at xs)) (drop n (drop at xs)) h in
      rw (e, zero-add, append_assoc vs, ← rest, take-append-drop, drop-drop)

  -- the same of elements that were replaced whole
  pub splice_whole : (xs : List A) (at : ℕ) (vs : List A) (n : ℕ) {part : List A} → part ≡ vs → length vs ≡ n
      → take at xs ++ (part ++ drop n (drop at xs)) ≡ splice xs at vs
  unfolding splice
  splice_whole xs at vs n e l = rw (e, drop-drop, ← l)

  module _ (xs : List A) (at : ℕ) (vs : List A) (fits : at + length vs ≤ length xs) where
    front : length (take at xs) ≡ at
    front = length-take-le at xs (omega arith)

    pub length_splice : length (splice xs at vs) ≡ length xs
    unfolding splice
    length_splice = simp (length-append, front, length-drop) (omega arith)

    -- what was put stands at its place
    pub splice_here : take (length vs) (drop at (splice xs at vs)) ≡ vs
    unfolding splice
    splice_here =
        ap (take (length vs)) (drop_at (take at xs) (vs ++ drop (at + length vs) xs) at front)
        ∙ take-append_seam vs (drop (at + length vs) xs)

    -- what stands before it is as it was
    take_splice : take at (splice xs at vs) ≡ take at xs
    unfolding splice
    take_splice = take_at (take at xs) (vs ++ drop (at + length vs) xs) at front

    pub splice_before : (b n : ℕ) → b + n ≤ at → take n (drop b (splice xs at vs)) ≡ take n (drop b xs)
    splice_before b n h =
        take_drop b n (splice xs at vs)
        ∙ ap (drop b) (sym (take-take (b + n) at (splice xs at vs) h) ∙ ap (take (b + n)) take_splice ∙ take-take (b + n) at xs h)
        ∙ sym (take_drop b n xs)

    -- what stands after it is as it was
    drop_splice : drop (at + length vs) (splice xs at vs) ≡ drop (at + length vs) xs
    unfolding splice
    drop_splice =
        rw (← append_assoc (take at xs) vs (drop (at + length vs) xs))
        (drop_at (take at xs ++ vs) (drop (at + length vs) xs) (at + length vs) (simp (length-append, front)))

    pub splice_after : (b : ℕ) → at + length vs ≤ b → drop b (splice xs at vs) ≡ drop b xs
    splice_after b h =
        let p : ℕ = at + length vs in
        let e : p + (b - p) ≡ b = omega arith in
        ap (λ (i : ℕ). drop i (splice xs at vs)) (sym e) ∙ sym (drop-drop (b - p) p (splice xs at vs))
        ∙ ap (drop (b - p)) drop_splice ∙ drop-drop (b - p) p xs ∙ ap (λ (i : ℕ). drop i xs) e

    -- the same of each element
    pub get_or_splice_in : (j : ℕ) (d : A) → j < length vs → get_or (splice xs at vs) (at + j) d ≡ get_or vs j d
    get_or_splice_in j d l =
        sym (get_or-drop at (splice xs at vs) j d) ∙ sym (get_or-take (length vs) (drop at (splice xs at vs)) j d l)
        ∙ ap (λ (s : List A). get_or s j d) splice_here

    pub get_or_splice_out : (i : ℕ) (d : A) → (i < at) ⊎ (at + length vs ≤ i) → get_or (splice xs at vs) i d ≡ get_or xs i d
    get_or_splice_out i d =
        ⊎_elim
        (λ l. sym (get_or-take at (splice xs at vs) i d l) ∙ ap (λ (s : List A). get_or s i d) take_splice ∙ get_or-take at xs i d l)
        (λ l. simp (get_or-drop, add-zero) at (ap (λ (s : List A). get_or s 0 d) (splice_after i l)))

  -- n elements put at the start, and what follows them
  module _ (xs vs : List A) (n : ℕ) (long : length vs ≡ n) (fits : 0 + length vs ≤ length xs) where
    pub splice_first : take n (splice xs 0 vs) ≡ vs
    splice_first = ap (λ (k : ℕ). take k (splice xs 0 vs)) (sym long) ∙ splice_here xs 0 vs fits

    pub splice_rest : drop n (splice xs 0 vs) ≡ drop n xs
    splice_rest = splice_after xs 0 vs fits n (omega arith)

  -- a list put over the whole of another
  pub splice_over : (xs vs : List A) → length vs ≡ length xs → splice xs 0 vs ≡ vs
  unfolding splice
  splice_over xs vs l = rw (zero-add, l, drop-length) (append-nil vs)

  -- a splice at the start makes no list shorter
  pub splice_longer : (xs vs : List A) → length xs ≤ length (splice xs 0 vs)
  unfolding splice
  splice_longer xs vs = simp (length-append, length-drop) (omega arith)

  -- a part that ends where a splice begins grows by what is put
  pub splice_grows : (xs : List A) (at i : ℕ) (vs : List A) → at + i + length vs ≤ length xs
      → take (i + length vs) (drop at (splice xs (at + i) vs)) ≡ take i (drop at xs) ++ vs
  splice_grows xs at i vs fits =
      take-add i (length vs) (drop at (splice xs (at + i) vs))
      ∙ ap₂ ◌++◌ (splice_before xs (at + i) vs fits at i (le_refl (at + i)))
      (ap (take (length vs)) (drop-drop i at (splice xs (at + i) vs)) ∙ splice_here xs (at + i) vs fits)

  -- two splices, the second where the first ends, are one
  pub splice_next : (xs : List A) (at : ℕ) (us vs : List A) → at + length us + length vs ≤ length xs
      → splice (splice xs at us) (at + length us) vs ≡ splice xs at (us ++ vs)
  unfolding splice
  splice_next xs at us vs h =
      let p : ℕ = at + length us in
      let fits : at + length us ≤ length xs = omega arith in
      let before : take p (splice xs at us) ≡ take at xs ++ us =
      ap (take p) (sym (append_assoc (take at xs) us (drop p xs)))
      ∙ take_at (take at xs ++ us) (drop p xs) p (simp (length-append, front xs at us fits)) in
      let after : drop (p + length vs) (splice xs at us) ≡ drop (p + length vs) xs =
      splice_after xs at us fits (p + length vs) (omega arith) in
      let e : p + length vs ≡ at + length (us ++ vs) = rw length-append (omega arith) in
      rw (before, after, e) (simp append_assoc)

  -- a store of one element is a splice of it
  set_splice : (xs : List A) (i : ℕ) (v : A) → i < length xs → set xs i v ≡ splice xs i (v ∷ [])
  unfolding splice
  set_splice xs i v l = rw add-one (set_split xs i v l)

  -- the store of the next element makes a splice longer
  splice_set : (xs : List A) (at : ℕ) (us : List A) (v : A) → at + length us < length xs
      → set (splice xs at us) (at + length us) v ≡ splice xs at (us ++ (v ∷ []))
  splice_set xs at us v l =
      set_splice (splice xs at us) (at + length us) v (rw (length_splice xs at us (omega arith)) l)
      ∙ splice_next xs at us (v ∷ []) (omega arith)

  -- a splice of the first i of numbered elements: of none, after the store of the next, and the same from the start on
  pub list_none : (xs : List A) (at : ℕ) (f : ℕ → A) → xs ≡ splice xs at (list_below 0 f)
  unfolding splice join_below
  list_none xs at f = rw add-zero (sym (take-append-drop at xs))

  pub list_more : (xs : List A) (at : ℕ) (f : ℕ → A) (i : ℕ) → at + i < length xs
      → set (splice xs at (list_below i f)) (at + i) (f i) ≡ splice xs at (list_below (i + 1) f)
  list_more xs at f i l =
      rw (join_more (λ j. f j ∷ []) i)
      (rw (length_list f i) at (splice_set xs at (list_below i f) (f i) (rw (length_list f i) l)))

  pub splice_none : (xs : List A) (f : ℕ → A) → xs ≡ splice xs 0 (list_below 0 f)
  splice_none xs f = list_none xs 0 f

  pub splice_more : (xs : List A) (f : ℕ → A) (i : ℕ) → i < length xs
      → set (splice xs 0 (list_below i f)) i (f i) ≡ splice xs 0 (list_below (i + 1) f)
  splice_more xs f i l = rw zero-add at (list_more xs 0 f i (rw zero-add l))

  -- and each of them
  pub splice_list : (xs : List A) (f : ℕ → A) (n : ℕ) (d : A) → n ≤ length xs → (i : ℕ) → i < n → get_or (splice xs 0 (list_below n f)) i d ≡ f i
  splice_list xs f n d fits i l =
      let e : length (list_below n f) ≡ n = length_list f n in
      rw zero-add at (get_or_splice_in xs 0 (list_below n f) (omega arith) i d (omega arith)) ∙ get_or_list f n i d l

  -- xs became ys when vs were put at `at`, and these end at `end`
  abbrev pub Put : List A → ℕ → List A → List A → ℕ → Type ℓ
  Put xs at vs ys end = (ys ≡ splice xs at vs) × (end ≡ at + length vs)

  module _ (xs : List A) (at : ℕ) where
    -- no elements, the same elements, and two lists of them, the second where the first ends
    pub put_none : Put xs at [] xs at
    unfolding splice
    put_none = (rw add-zero (sym (take-append-drop at xs)), omega arith)

    pub put_is : {us vs ys : List A} {end : ℕ} → us ≡ vs → Put xs at us ys end → Put xs at vs ys end
    put_is e p = rw e at p

    pub put_next : (us vs : List A) {ys zs : List A} {mid end : ℕ} → Put xs at us ys mid → Put ys mid vs zs end → end ≤ length xs
        → Put xs at (us ++ vs) zs end
    put_next us vs p q fits =
        let both = splice_next xs at us vs (omega (arith, p.1, q.1)) in
        (q.0 ∙ rw (p.0, p.1) both, rw length-append (omega (arith, p.1, q.1)))

    -- a store, and one more, of so many elements
    pub put_first : (vs : List A) (w : ℕ) {ys : List A} → length vs ≡ w → ys ≡ splice xs at vs → Put xs at vs ys (at + w)
    put_first vs w l e = (e, rw l)

    pub put_then : (us vs : List A) (w : ℕ) {ys zs : List A} {mid : ℕ} → Put xs at us ys mid → length vs ≡ w → zs ≡ splice ys mid vs
        → mid + w ≤ length xs → Put xs at (us ++ vs) zs (mid + w)
    put_then us vs w p l e fits = put_next us vs p (e, rw l) fits

    -- the first i of numbered lists, each of w elements: none, and one more
    module _ (w : ℕ) (f : ℕ → List A) (same : (j : ℕ) → length (f j) ≡ w) where
      pub put_join : {ys : List A} (i : ℕ) → ys ≡ splice xs at (join_below i f) → Put xs at (join_below i f) ys (at + w * i)
      put_join i e = (e, rw (length_join f i w (λ j h. same j), mul_comm i w))

      pub join_none : xs ≡ splice xs at (join_below 0 f)
      unfolding join_below
      join_none = put_none.0

      pub join_then : {ys zs : List A} (i : ℕ) → ys ≡ splice xs at (join_below i f) → zs ≡ splice ys (at + w * i) (f i)
          → at + w * i + w ≤ length xs → zs ≡ splice xs at (join_below (i + 1) f)
      join_then i e g fits = rw (join_more f i) (put_then (join_below i f) (f i) w (put_join i e) (same i) g fits).0

-- a place among those put, or outside them
pub within_or_not : (at n x : ℕ) → ((at ≤ x) × (x < at + n)) ⊎ ((x < at) ⊎ (at + n ≤ x))
within_or_not at n x = go (ltb x at) refl (leb (at + n) x) refl
  where
    go : (u : Bool) → ltb x at ≡ u → (v : Bool) → leb (at + n) x ≡ v → ((at ≤ x) × (x < at + n)) ⊎ ((x < at) ⊎ (at + n ≤ x))
    go true e v f = inr (inl (ltb-true _ _ e))
    go false e true f = inr (inr (leb-true _ _ f))
    go false e false f = inl (ltb-false _ _ e, omega (arith, leb-false))

-- an element that is none of those put is as it was
pub splice_other {ℓ} : {A : Type ℓ} (xs : List A) (at : ℕ) (vs : List A) (x : ℕ) (d : A) → at + length vs ≤ length xs → ((j : ℕ) → j < length vs → x ≡ at + j → ⊥)
    → get_or (splice xs at vs) x d ≡ get_or xs x d
splice_other xs at vs x d fits none =
    ⊎_elim (λ here. absurd (none (x - at) (omega arith) (omega arith))) (get_or_splice_out xs at vs fits x d) (within_or_not at (length vs) x)

-- two lists that have the same element at a place, unless something is put there, have the same there after the same is put into both
pub splice_agree {ℓ} : {A : Type ℓ} (xs ys : List A) (at : ℕ) (vs : List A) (x : ℕ) (d : A) → at + length vs ≤ length xs → at + length vs ≤ length ys
    → ((x < at) ⊎ (at + length vs ≤ x) → get_or xs x d ≡ get_or ys x d) → get_or (splice xs at vs) x d ≡ get_or (splice ys at vs) x d
splice_agree xs ys at vs x d fits fits' same = ⊎_elim inside outside (within_or_not at (length vs) x)
  where
    outside : (x < at) ⊎ (at + length vs ≤ x) → get_or (splice xs at vs) x d ≡ get_or (splice ys at vs) x d
    outside out = get_or_splice_out xs at vs fits x d out ∙ same out ∙ sym (get_or_splice_out ys at vs fits' x d out)

    inside : (at ≤ x) × (x < at + length vs) → get_or (splice xs at vs) x d ≡ get_or (splice ys at vs) x d
    inside here =
        let in-at : at + (x - at) ≡ x = omega arith in
        rw (← in-at)
        (get_or_splice_in xs at vs fits (x - at) d (omega arith) ∙ sym (get_or_splice_in ys at vs fits' (x - at) d (omega arith)))

-- two splices, one before the other, in either order
pub splice_swap : (xs : List ℕ) (a : ℕ) (us : List ℕ) (b : ℕ) (vs : List ℕ) → a + length us ≤ b → b + length vs ≤ length xs
    → splice (splice xs b vs) a us ≡ splice (splice xs a us) b vs
splice_swap xs a us b vs before fits =
    ext_get_or 0 _ _ (length_splice (splice xs b vs) a us fits_v ∙ long_v ∙ sym (length_splice (splice xs a us) b vs fits_u ∙ long_u))
    (λ x l. go x (within_or_not b (length vs) x))
  where
    fits_a : a + length us ≤ length xs
    fits_a = omega arith

    long_u : length (splice xs a us) ≡ length xs
    long_u = length_splice xs a us fits_a

    long_v : length (splice xs b vs) ≡ length xs
    long_v = length_splice xs b vs fits

    fits_u : b + length vs ≤ length (splice xs a us)
    fits_u = omega (arith, long_u)

    fits_v : a + length us ≤ length (splice xs b vs)
    fits_v = omega (arith, long_v)

    go : (x : ℕ) → ((b ≤ x) × (x < b + length vs)) ⊎ ((x < b) ⊎ (b + length vs ≤ x))
        → get_or (splice (splice xs b vs) a us) x 0 ≡ get_or (splice (splice xs a us) b vs) x 0
    go x (inl here) =
        get_or_splice_out (splice xs b vs) a us fits_v x 0 (inr (omega arith))
        ∙ splice_agree xs (splice xs a us) b vs x 0 fits fits_u (λ out. sym (get_or_splice_out xs a us fits_a x 0 (inr (omega arith))))
    go x (inr out) =
        splice_agree (splice xs b vs) xs a us x 0 fits_v fits_a (λ _. get_or_splice_out xs b vs fits x 0 out)
        ∙ sym (get_or_splice_out (splice xs a us) b vs fits_u x 0 out)
