-- Stores in the order made, byte by byte: what they leave of a list, and what the first of them leave where the rest is cut off.
use Rattle.std.specs.Prelude.{◌≡◌, List, [], ◌∷◌, ℕ, ◌+◌, ◌-◌, length, take}
use Rattle.lists.specs.Splice.{splice}

-- bytes that are stored one after the other, from the place `at` on
pub record Store : Type 0 where
  pub at : ℕ
  pub bytes : List ℕ

abbrev pub store : ℕ → List ℕ → Store
store at bytes = record { at = at; bytes = bytes }

-- what is left of a list once all of them are made
unfoldable pub applied : List ℕ → List Store → List ℕ
applied xs [] = xs
applied xs (s ∷ ss) = applied (splice xs s.at s.bytes) ss

-- how many bytes they store
unfoldable pub byte_stores : List Store → ℕ
byte_stores [] = 0
byte_stores (s ∷ ss) = length s.bytes + byte_stores ss

-- the first b of these byte stores
unfoldable pub first_stores : ℕ → List Store → List Store
first_stores b [] = []
first_stores b (s ∷ ss) = store s.at (take b s.bytes) ∷ first_stores (b - length s.bytes) ss

-- what is found where no more than b byte stores are made
unfoldable pub found : ℕ → List ℕ → List Store → List ℕ
found b xs ss = applied xs (first_stores b ss)

-- bytes stored at `at` of xs within a budget b: what that leaves, and what is left of the budget
pub record Spends (b : ℕ) (xs : List ℕ) (at : ℕ) (bytes ys : List ℕ) (left : ℕ) : Type 0 where
  pub leaves : ys ≡ splice xs at (take b bytes)
  pub spent : left ≡ b - length bytes
