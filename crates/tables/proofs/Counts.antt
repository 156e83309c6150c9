-- The greatest of a list's numbers: as a fold computes it, and of the first n of them.
use mathlib.Core.Path.{◌≡◌, refl, sym, ap, ◌∙◌}
use mathlib.Core.List.{List}
use Prim.Native.Nat.{ℕ, zero, suc, ◌≤◌, max}
use native.Mathlib.Nat.{le_refl}
use native.Mathlib.Omega.{arith}
use lib.ListN.{length, take, get_or}
use lib.Seq.{length-take-le, get_or-take, take-suc, take_all}
use Rattle.std.specs.Prelude.{fold}
use Rattle.std.proofs.lemmas.List.Sums.{fold_push}
use Rattle.lists.specs.Below.{greatest_below}
use Rattle.lists.proofs.Below.{greatest_cong}

fold_first : (xs : List ℕ) (n : ℕ) → n ≤ length xs → fold (λ (most x : ℕ). max most x) 0 (take n xs) ≡ greatest_below n (λ i. get_or xs i 0)
unfolding greatest_below
fold_first xs zero l = refl
fold_first xs (suc n) l =
    ap (fold (λ (most x : ℕ). max most x) 0) (take-suc xs n 0 l)
    ∙ fold_push (λ (most x : ℕ). max most x) 0 (take n xs) (get_or xs n 0)
    ∙ ap (λ (most : ℕ). max most (get_or xs n 0)) (fold_first xs n (omega arith))

pub fold_greatest : (xs : List ℕ) → fold (λ (most x : ℕ). max most x) 0 xs ≡ greatest_below (length xs) (λ i. get_or xs i 0)
fold_greatest xs = ap (fold (λ (most x : ℕ). max most x) 0) (sym (take_all (length xs) xs (le_refl (length xs)))) ∙ fold_first xs (length xs) (le_refl (length xs))

pub greatest_taken : (n : ℕ) (xs : List ℕ) → n ≤ length xs → greatest_below (length (take n xs)) (λ i. get_or (take n xs) i 0) ≡ greatest_below n (λ i. get_or xs i 0)
greatest_taken n xs l =
    rw (length-take-le n xs l) (greatest_cong (get_or_zero (take n xs)) (get_or_zero xs) n (λ i h. get_or-take n xs i 0 h))
  where
    get_or_zero : List ℕ → ℕ → ℕ
    get_or_zero xs i = get_or xs i 0
