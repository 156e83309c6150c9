-- A number among others, as a test and as a claim.
use mathlib.Core.Path.{◌≡◌, refl}
use mathlib.Core.Bool.{Bool, true, false, ◌||◌, false≢true}
use mathlib.Core.List.{List, [], ◌∷◌, ◌++◌}
use mathlib.Core.Logic.{inl, inr}
use Prim.Native.Nat.{ℕ}
use lib.Dec.{eqb}
use borrow.Author.Tests.{eqb-true}
use Rattle.lists.specs.Logic.{OneOf}

-- whether a number is one of a list's, as a test
unfoldable pub listed : List ℕ → ℕ → Bool
listed [] r = false
listed (number ∷ numbers) r = eqb r number || listed numbers r

pub one_of : (numbers : List ℕ) (r : ℕ) → listed numbers r ≡ true → OneOf numbers r
unfolding listed
one_of [] r e = absurd (false≢true e)
one_of (number ∷ numbers) r e = go (eqb r number) refl e (one_of numbers r)
  where
    go : (b : Bool) → eqb r number ≡ b → (b || listed numbers r) ≡ true → (listed numbers r ≡ true → OneOf numbers r)
        → OneOf (number ∷ numbers) r
    go true t e rest = inl (eqb-true r number t)
    go false t e rest = inr (rest e)

-- a number of a list is one of a longer list
pub one_of_more : (numbers more : List ℕ) (r : ℕ) → OneOf numbers r → OneOf (numbers ++ more) r
one_of_more [] more r is = absurd is
one_of_more (number ∷ numbers) more r (inl e) = inl e
one_of_more (number ∷ numbers) more r (inr is) = inr (one_of_more numbers more r is)
