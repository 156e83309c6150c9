-- Unsigned numbers as bytes, in either byte order and of any width (document 01, "Every number stands in the container's byte order"). The order
-- is a Bool that is passed: true, `big`, has the highest byte first.
use Rattle.std.specs.Prelude.{Bool, true, false, List, [], ◌∷◌, reverse, ℕ, zero, suc, ◌+◌, ◌*◌, ◌/◌, ◌%◌, take, drop}

-- the number whose bytes these are, the lowest first
abbrev pub little : List ℕ → ℕ
little [] = 0
little (b ∷ bs) = little bs * 256 + b

-- the number whose bytes these are, in an order
abbrev pub number : Bool → List ℕ → ℕ
number true bs = little (reverse bs)
number false bs = little bs

-- the w lowest bytes of v, the lowest first
abbrev pub lowest : ℕ → ℕ → List ℕ
lowest zero v = []
lowest (suc w) v = v % 256 ∷ lowest w (v / 256)

-- the w lowest bytes of v, in an order
abbrev pub digits : Bool → ℕ → ℕ → List ℕ
digits true w v = reverse (lowest w v)
digits false w v = lowest w v

-- the unsigned number of w bytes that stands at an offset
abbrev pub number_at : Bool → ℕ → List ℕ → ℕ → ℕ
number_at big w xs at = number big (take w (drop at xs))
