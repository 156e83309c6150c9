-- Signed numbers as bytes: two's complement (document 01, "is signed two's complement"), in either byte order and of any width.
use Rattle.std.specs.Prelude.{Bool, false, cond, ◌&&◌, List, ℕ, suc, ◌-◌, ◌*◌, ◌^◌, ltb, eqb, ℤ, pos, negsuc}
use Rattle.std.specs.Int.Signed.{le_z}
use Rattle.endian.specs.Number.{digits, number_at}

-- the integer that the h + 1 bits of n stand for
abbrev pub signed : ℕ → ℕ → ℤ
signed h n = cond (ltb n (2 ^ h)) (pos n) (negsuc (2 ^ suc h - suc n))

-- the h + 1 bits of an integer, as a number
abbrev pub bits_of : ℕ → ℤ → ℕ
bits_of h (pos n) = n
bits_of h (negsuc n) = 2 ^ suc h - suc n

-- how many bits stand beside the sign in w bytes
abbrev pub sign_bit : ℕ → ℕ
sign_bit w = 8 * w - 1

-- the signed number of w bytes that stands at an offset, and the w bytes of one
abbrev pub signed_at : Bool → ℕ → List ℕ → ℕ → ℤ
signed_at big w xs at = signed (sign_bit w) (number_at big w xs at)

abbrev pub signed_digits : Bool → ℕ → ℤ → List ℕ
signed_digits big w z = digits big w (bits_of (sign_bit w) z)

-- from lo to hi
abbrev pub within : ℕ → ℕ → ℤ → Bool
within lo hi z = le_z (pos lo) z && le_z z (pos hi)

-- two integers are the same
abbrev pub same_z : ℤ → ℤ → Bool
same_z (pos a) (pos b) = eqb a b
same_z (pos a) (negsuc b) = false
same_z (negsuc a) (pos b) = false
same_z (negsuc a) (negsuc b) = eqb a b

-- an integer that is not negative, as a number; 0 for a negative one
abbrev pub natural : ℤ → ℕ
natural (pos n) = n
natural (negsuc n) = 0
