-- What is said of claims and of numbers: the opposite of a claim, two claims that are the same, and a number among others.
use Rattle.std.specs.Prelude.{List, [], ◌∷◌, ◌⊎◌, ◌≡◌, ℕ}

abbrev pub Not : Type 0 → Type 0
Not A = A → ⊥

-- the one holds exactly where the other does
abbrev pub Exactly : Type 0 → Type 0 → Type 0
Exactly A B = (A → B) × (B → A)

-- a number is one of a list's
abbrev pub OneOf : List ℕ → ℕ → Type 0
OneOf [] r = ⊥
OneOf (number ∷ numbers) r = (r ≡ number) ⊎ OneOf numbers r
