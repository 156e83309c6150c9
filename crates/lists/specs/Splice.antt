-- A list put into another at an offset: what a copy of bytes does.
use Rattle.std.specs.Prelude.{List, ◌++◌, ℕ, ◌+◌, length, take, drop}

-- xs with vs at the offset `at`, the elements before and after as they were
unfoldable pub splice {ℓ} : {A : Type ℓ} → List A → ℕ → List A → List A
splice xs at vs = take at xs ++ (vs ++ drop (at + length vs) xs)
