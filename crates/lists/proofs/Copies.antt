-- Laws of a list that is copied part by part: the parts copied so far, with the next one behind them, are one part of the whole.
use mathlib.Core.Path.{◌≡◌, refl, sym, ap, ◌∙◌}
use mathlib.Core.List.{List, [], ◌∷◌, ◌++◌}
use Prim.Native.Nat.{ℕ, zero, suc, ◌+◌, ◌-◌, ◌≤◌, min}
use native.Mathlib.Nat.{zero-add, add-zero, min-le_left, sub-add-eq}
use native.Mathlib.Omega.{arith}
use lib.ListN.{length, take, drop, length-append, length-take, length-drop, take-append-drop}
use lib.Seq.{take-nil, drop-nil}
use Rattle.lists.specs.Below.{join_below}
use Rattle.lists.specs.Splice.{splice}
use Rattle.lists.proofs.Splice.{length_splice, splice_next}

-- n places that are filled by x elements, and then by as many of y as they hold
room_left : (n x k : ℕ) → k ≤ n - x → min n x + k ≤ n
room_left n x k h = omega arith

filled_twice : (n x y : ℕ) → min n x + min (n - min n x) y ≡ min n (x + y)
filled_twice n x y = omega arith

-- what follows p in a stream of two parts
rest_sum : (s c p : ℕ) → (s - p) + (c - (p - s)) ≡ s + c - p
rest_sum s c p = omega arith

module _ {ℓ} {A : Type ℓ} where
  -- a part of two lists, the second behind the first, is a part of each
  drop_append : (p : ℕ) (s c : List A) → drop p (s ++ c) ≡ drop p s ++ drop (p - length s) c
  drop_append zero s c = let e : 0 - length s ≡ 0 = omega arith in rw e
  drop_append (suc p) [] c = let e : suc p - 0 ≡ suc p = omega arith in rw e
  drop_append (suc p) (x ∷ s) c = let e : suc p - suc (length s) ≡ p - length s = omega arith in rw e (drop_append p s c)

  take_append : (n : ℕ) (s c : List A) → take n (s ++ c) ≡ take n s ++ take (n - length s) c
  take_append zero s c = let e : 0 - length s ≡ 0 = omega arith in rw e
  take_append (suc n) [] c = let e : suc n - 0 ≡ suc n = omega arith in rw e
  take_append (suc n) (x ∷ s) c =
      let e : suc n - suc (length s) ≡ n - length s = omega arith in rw e (ap (◌∷◌ x) (take_append n s c))

  part_append : (n p : ℕ) (s c : List A)
      → take n (drop p (s ++ c)) ≡ take n (drop p s) ++ take (n - (length s - p)) (drop (p - length s) c)
  part_append n p s c = rw (drop_append, take_append, length-drop)

  pub take_short : (n : ℕ) (s : List A) → length (take n s) ≤ n
  take_short n s = rw length-take (min-le_left _ _)

  length_part : (n p : ℕ) (s : List A) → length (take n (drop p s)) ≡ min n (length s - p)
  length_part n p s = rw (length-take, length-drop)

  -- xs filled by the part from p on of the stream s: what it is then, what is left to skip, and the places of xs that are filled
  pub record Copied (xs s : List A) (p : ℕ) (ys : List A) (skip done : ℕ) : Type ℓ where
    pub holds : ys ≡ splice xs 0 (take (length xs) (drop p s))
    pub left : skip ≡ p - length s
    pub filled : done ≡ min (length xs) (length s - p)

  -- of the empty stream, and of a stream with the next part behind it
  pub copied_none : (xs : List A) (p : ℕ) → Copied xs [] p xs p 0
  unfolding splice
  copied_none xs p = record { holds = rw (drop-nil, take-nil); left = omega arith; filled = omega arith }

  module _ {xs s : List A} {p : ℕ} {ys : List A} {skip done : ℕ} (so_far : Copied xs s p ys skip done) where
    abbrev first : List A
    first = take (length xs) (drop p s)

    first_length : 0 + length first ≡ done
    first_length = rw (zero-add, length_part) (sym so_far.filled)

    pub copied_same : length ys ≡ length xs
    copied_same = rw so_far.holds (length_splice xs 0 first (omega (arith, first_length, so_far.filled)))

    pub copied_fits : done ≤ length ys
    copied_fits = omega (arith, copied_same, so_far.filled)

    pub copied_more : (c zs : List A) (skip' done' : ℕ) → zs ≡ splice ys done (take (length ys - done) (drop skip c))
        → done' ≡ done + min (length ys - done) (length c - skip) → skip' ≡ skip - length c → Copied xs (s ++ c) p zs skip' done'
    copied_more c zs skip' done' z d k =
        let next : List A = take (length xs - (length s - p)) (drop (p - length s) c) in
        let room : length xs - done ≡ length xs - (length s - p) = rw so_far.filled (omega arith) in
        let fits : 0 + length first + length next ≤ length xs = rw (first_length, so_far.filled) (room_left _ _ _ (take_short _ (drop (p - length s) c))) in
        record {
          holds = z ∙ rw (copied_same, so_far.left, room, so_far.holds, part_append, ← first_length) (splice_next xs 0 first next fits);
          left = k ∙ rw (so_far.left, length-append, sub-add-eq);
          filled = d ∙ rw (copied_same, so_far.left, so_far.filled, length-append, ← rest_sum) (filled_twice _ _ _);
        }

    -- where xs is full, a part behind the stream changes nothing
    copied_on : length xs ≤ done → (c : List A) → Copied xs (s ++ c) p ys (skip - length c) done
    unfolding splice
    copied_on full c =
        let none : length ys - done ≡ 0 = omega (arith, copied_same) in
        copied_more c ys (skip - length c) done (rw (none, add-zero, take-append-drop)) (omega (arith, copied_same)) refl

  -- and so does none of the parts that are left
  pub copied_full : (f : ℕ → List A) (k : ℕ) {xs : List A} {p : ℕ} {ys : List A} {skip done : ℕ} → Copied xs (join_below k f) p ys skip done
      → length xs ≤ done → (j : ℕ) → (left : ℕ) × Copied xs (join_below (j + k) f) p ys left done
  unfolding join_below
  copied_full f k {skip = skip} so_far full zero = (skip, rw zero-add so_far)
  copied_full f k so_far full (suc j) =
      let (left, more) = copied_full f k so_far full j in
      let next : suc j + k ≡ suc (j + k) = omega arith in
      (left - length (f (j + k)), rw next (copied_on more full (f (j + k))))
