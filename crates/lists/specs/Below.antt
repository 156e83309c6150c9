-- What is said of every index below a number: a test of each or of one, the first that a test does not hold of, a sum, the greatest, and lists
-- put one after the other.
use Rattle.std.specs.Prelude.{Bool, true, false, ◌&&◌, ◌||◌, cond, List, [], ◌∷◌, ◌++◌, ℕ, zero, suc, ◌+◌, max}

-- the test holds of 0, 1, .. up to n - 1
unfoldable pub all_below : ℕ → (ℕ → Bool) → Bool
all_below zero p = true
all_below (suc n) p = all_below n p && p n

-- the test holds of one of 0, 1, .. up to n - 1
unfoldable pub any_below : ℕ → (ℕ → Bool) → Bool
any_below zero p = false
any_below (suc n) p = any_below n p || p n

-- the first of 0, 1, .. up to n - 1 of which the test does not hold, and n where it holds of all
unfoldable pub first_not : ℕ → (ℕ → Bool) → ℕ
first_not zero p = 0
first_not (suc n) p = cond (all_below (suc n) p) (suc n) (first_not n p)

-- f 0 + f 1 + .. + f (n - 1)
unfoldable pub sum_below : ℕ → (ℕ → ℕ) → ℕ
sum_below zero f = 0
sum_below (suc n) f = sum_below n f + f n

-- the greatest of f 0, f 1, .., f (n - 1), and 0 where n is 0
unfoldable pub greatest_below : ℕ → (ℕ → ℕ) → ℕ
greatest_below zero f = 0
greatest_below (suc n) f = max (greatest_below n f) (f n)

-- f 0, then f 1, .., then f (n - 1), as one list
unfoldable pub join_below {ℓ} : {A : Type ℓ} → ℕ → (ℕ → List A) → List A
join_below zero f = []
join_below (suc n) f = join_below n f ++ f n

-- the list of f 0, f 1, .., f (n - 1)
abbrev pub list_below {ℓ} : {A : Type ℓ} → ℕ → (ℕ → A) → List A
list_below n f = join_below n (λ i. f i ∷ [])
