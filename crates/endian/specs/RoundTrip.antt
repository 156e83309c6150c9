-- What is read from the bytes of a number is that number, unsigned and signed, for every width and in either order.
use mathlib.Core.Path.{◌≡◌, refl, sym, ap, ◌∙◌}
use mathlib.Core.Bool.{Bool, true, false}
use mathlib.Core.List.{reverse-reverse}
use Prim.Native.Nat.{ℕ, zero, suc, ◌+◌, ◌-◌, ◌*◌, ◌/◌, ◌%◌, ◌^◌, ◌<◌, ◌≤◌}
use native.Mathlib.Nat.{div-lt_iff_lt-mul, div-add-mod', pow-suc, mul-suc}
use native.Mathlib.Omega.{arith}
use lib.Arith.{lt-one, comp_comp, comp_ge}
use lib.Dec.{lit<}
use lib.IntN.{ℤ, pos, negsuc}
use lib.ListN.{length, length-reverse}
use lib.Pow.{pow-add}
use lib.Signed.{mag}
use borrow.Author.Tests.{lt-ltb, le-ltb}
use Rattle.endian.specs.Number.{little, number, lowest, digits}
use Rattle.endian.specs.Signed.{signed, bits_of, sign_bit, signed_digits}

length_lowest : (w v : ℕ) → length (lowest w v) ≡ w
length_lowest zero v = refl
length_lowest (suc w) v = ap suc (length_lowest w (v / 256))

pub length_digits : (big : Bool) (w v : ℕ) → length (digits big w v) ≡ w
length_digits true w v = length-reverse (lowest w v) ∙ length_lowest w v
length_digits false w v = length_lowest w v

-- a number of w bytes, written and read
little_lowest : (w v : ℕ) → v < 256 ^ w → little (lowest w v) ≡ v
little_lowest zero v h = sym (lt-one h)
little_lowest (suc w) v h =
    ap (λ (n : ℕ). n * 256 + v % 256) (little_lowest w (v / 256) ((div-lt_iff_lt-mul (lit< tt)).1 (rw pow-suc at h)))
    ∙ div-add-mod' v 256

pub number_digits : (big : Bool) (w v : ℕ) → v < 256 ^ w → number big (digits big w v) ≡ v
number_digits true w v h = ap little (reverse-reverse (lowest w v)) ∙ little_lowest w v h
number_digits false w v h = little_lowest w v h

-- the lower and the upper half of the numbers of h + 1 bits
pub signed_low : (h n : ℕ) → n < 2 ^ h → signed h n ≡ pos n
signed_low h n l = rw (lt-ltb n (2 ^ h) l)

pub signed_high : (h n : ℕ) → 2 ^ h ≤ n → signed h n ≡ negsuc (2 ^ suc h - suc n)
signed_high h n l = rw (le-ltb n (2 ^ h) l)

signed_bits_of : (h : ℕ) (z : ℤ) → mag z < 2 ^ h → signed h (bits_of h z) ≡ z
signed_bits_of h (pos n) l = signed_low h n l
signed_bits_of h (negsuc n) l =
    let e = pow-suc 2 h in
    signed_high h (2 ^ suc h - suc n) (rw e (comp_ge l)) ∙ ap negsuc (comp_comp (rw e (omega arith)))

bits_of_lt : (h : ℕ) (z : ℤ) → mag z < 2 ^ h → bits_of h z < 2 ^ suc h
bits_of_lt h (pos n) l = let e = pow-suc 2 h in omega arith
bits_of_lt h (negsuc n) l = let e = pow-suc 2 h in omega arith

-- the bits of w bytes
pow_bytes : (w : ℕ) → 2 ^ (8 * w) ≡ 256 ^ w
pow_bytes zero = refl
pow_bytes (suc w) = rw (mul-suc, pow-add 2 (8 * w) 8, pow_bytes w, pow-suc 256 w)

pub pow_sign_bit : (w : ℕ) → 0 < w → 2 ^ suc (sign_bit w) ≡ 256 ^ w
pow_sign_bit w h = ap (λ (n : ℕ). 2 ^ n) (omega arith) ∙ pow_bytes w

-- an integer of w bytes, written and read
pub signed_number_digits : (big : Bool) (w : ℕ) (z : ℤ) → 0 < w → mag z < 2 ^ sign_bit w → signed (sign_bit w) (number big (signed_digits big w z)) ≡ z
signed_number_digits big w z some l =
    let h : ℕ = sign_bit w in
    ap (signed h) (number_digits big w (bits_of h z) (rw (pow_sign_bit w some) at (bits_of_lt h z l))) ∙ signed_bits_of h z l
