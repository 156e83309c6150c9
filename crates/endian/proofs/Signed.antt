-- Laws of two's complement, each once for every width: there and back, bounds, a range test, and what is read where it was stored.
use mathlib.Core.Path.{◌≡◌, refl, sym, ap, ◌∙◌}
use mathlib.Core.Bool.{Bool, true, false, cond, ◌&&◌, and-false, false≢true}
use mathlib.Core.List.{List, ◌++◌, append_assoc}
use Prim.Native.Nat.{ℕ, suc, ◌+◌, ◌-◌, ◌*◌, ◌^◌, ◌<◌, ◌≤◌}
use native.Mathlib.Nat.{mul_comm, mul-le-mul_left, le_antisymm}
use native.Mathlib.Omega.{arith}
use lib.Dec.{ltb, leb}
use lib.IntN.{ℤ, pos, negsuc}
use lib.ListN.{length, take, drop}
use lib.Seq.{take_at, drop-drop, drop-append-le}
use lib.Signed.{mag}
use borrow.Author.Tests.{ltb-true, ltb-false, leb-true, le-leb, lt-leb, eqb-true, eq-eqb}
pub use Rattle.endian.specs.RoundTrip.{signed_low, signed_high, signed_number_digits}
use Rattle.lists.specs.Below.{join_below}
use Rattle.lists.specs.Logic.{Not}
use Rattle.endian.specs.Number.{number}
use Rattle.endian.specs.Signed.{signed, bits_of, sign_bit, signed_at, signed_digits, within, same_z, natural}
use Rattle.lists.proofs.Below.{and_left, and_right, length_join}
use Rattle.endian.proofs.Number.{length_digits}
use Rattle.lists.proofs.Pieces.{drop_join}

pub natural_signed : (h n : ℕ) → n < 2 ^ h → natural (signed h n) ≡ n
natural_signed h n l = ap natural (signed_low h n l)

pub signed_pos : (h n m : ℕ) → signed h n ≡ pos m → n ≡ m
signed_pos h n m e = go (ltb n (2 ^ h)) e
  where
    go : (b : Bool) → cond b (pos n) (negsuc (2 ^ suc h - suc n)) ≡ pos m → n ≡ m
    go true e = cc
    go false e = cc

-- what a range test says of a number that is not negative, and back
pub within_facts : (lo hi n : ℕ) → within lo hi (pos n) ≡ true → (lo ≤ n) × (n ≤ hi)
within_facts lo hi n e = (leb-true lo n (and_left (leb lo n) (leb n hi) e), leb-true n hi (and_right (leb lo n) (leb n hi) e))

pub within_holds : (lo hi n : ℕ) → lo ≤ n → n ≤ hi → within lo hi (pos n) ≡ true
within_holds lo hi n l h = rw (le-leb lo n l) (le-leb n hi h)

pub within_over : (lo hi n : ℕ) → hi < n → within lo hi (pos n) ≡ false
within_over lo hi n l = rw (lt-leb n hi l) (and-false (leb lo n))

-- an integer that passes a range test is the number that it stands for, within the range
abbrev pub InRange : ℕ → ℕ → ℤ → Type 0
InRange lo hi z = (z ≡ pos (natural z)) × (lo ≤ natural z) × (natural z ≤ hi)

pub within_natural : (lo hi : ℕ) (z : ℤ) → within lo hi z ≡ true → InRange lo hi z
within_natural lo hi (pos n) e = let f = within_facts lo hi n e in (refl, f.0, f.1)
within_natural lo hi (negsuc n) e = absurd (false≢true e)

-- a range of one number, and an integer that is another
pub within_one : (v : ℕ) (z : ℤ) → within v v z ≡ true → z ≡ pos v
within_one v z e = let f = within_natural v v z e in f.0 ∙ ap pos (le_antisymm f.2 f.1)

pub within_other : (v : ℕ) (z : ℤ) → Not (z ≡ pos v) → within v v z ≡ false
within_other v z other = go (within v v z) refl
  where
    go : (b : Bool) → within v v z ≡ b → b ≡ false
    go true e = absurd (other (within_one v z e))
    go false e = refl

-- an unsigned reading passes a range test exactly when the signed one does
pub within_signed : (lo hi h n : ℕ) → hi < 2 ^ h → within lo hi (signed h n) ≡ (leb lo n && leb n hi)
within_signed lo hi h n l = go (ltb n (2 ^ h)) refl
  where
    go : (b : Bool) → ltb n (2 ^ h) ≡ b → within lo hi (signed h n) ≡ (leb lo n && leb n hi)
    go true e = ap (within lo hi) (signed_low h n (ltb-true _ _ e))
    go false e =
        let m : 2 ^ h ≤ n = ltb-false _ _ e in
        ap (within lo hi) (signed_high h n m) ∙ sym (rw (lt-leb n hi (omega arith)) (and-false (leb lo n)))

-- n integers, one after the other
pub length_numbers : (big : Bool) (w n : ℕ) (f : ℕ → ℤ) → length (join_below n (λ i. signed_digits big w (f i))) ≡ w * n
length_numbers big w n f = length_join (λ i. signed_digits big w (f i)) n w (λ i l. length_digits big w _) ∙ mul_comm n w

-- where its bytes stand an integer is read back, and so is each of n integers
pub signed_there : (big : Bool) (w : ℕ) (z : ℤ) (xs rest : List ℕ) (at : ℕ) → 0 < w → drop at xs ≡ signed_digits big w z ++ rest
    → mag z < 2 ^ sign_bit w → signed_at big w xs at ≡ z
signed_there big w z xs rest at some e l =
    let h : ℕ = sign_bit w in
    ap (λ (s : List ℕ). signed h (number big s)) (ap (take w) e ∙ take_at (signed_digits big w z) rest w (length_digits big w (bits_of h z)))
    ∙ signed_number_digits big w z some l

pub signed_listed : (big : Bool) (w n : ℕ) (f : ℕ → ℤ) (xs rest : List ℕ) (at : ℕ) → 0 < w
    → drop at xs ≡ join_below n (λ i. signed_digits big w (f i)) ++ rest
    → (i : ℕ) → i < n → mag (f i) < 2 ^ sign_bit w → signed_at big w xs (at + w * i) ≡ f i
signed_listed big w n f xs rest at some e i l m =
    let g : ℕ → List ℕ = λ j. signed_digits big w (f j) in
    let same : (j : ℕ) → j < n → length (g j) ≡ w = λ j h. length_digits big w (bits_of (sign_bit w) (f j)) in
    let fits : w * i ≤ length (join_below n g) = rw (length_numbers big w n f) (mul-le-mul_left w (omega arith)) in
    let tail : List ℕ = drop w (drop (i * w) (join_below n g)) in
    signed_there big w (f i) xs (tail ++ rest) (at + w * i) some
    (sym (drop-drop (w * i) at xs) ∙ ap (drop (w * i)) e ∙ drop-append-le (w * i) (join_below n g) rest fits
    ∙ ap (λ (k : ℕ). drop k (join_below n g) ++ rest) (mul_comm w i)
    ∙ ap (λ (s : List ℕ). s ++ rest) (drop_join g n w same i l) ∙ append_assoc (g i) tail rest)
    m

-- equality of integers, as the test has it
pub same_z_eq : (a b : ℤ) → same_z a b ≡ true → a ≡ b
same_z_eq (pos m) (pos n) e = ap pos (eqb-true m n e)
same_z_eq (pos m) (negsuc n) e = cc
same_z_eq (negsuc m) (pos n) e = cc
same_z_eq (negsuc m) (negsuc n) e = ap negsuc (eqb-true m n e)

pub same_z_refl : (z : ℤ) → same_z z z ≡ true
same_z_refl (pos n) = eq-eqb n n refl
same_z_refl (negsuc n) = eq-eqb n n refl
