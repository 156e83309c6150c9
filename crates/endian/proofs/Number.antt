-- Laws of numbers as bytes, each once for every width and in either order: lengths, and there and back (both from `specs.RoundTrip`), bytes, that a
-- number has one list of bytes, and a number from its bytes one by one.
use mathlib.Core.Path.{◌≡◌, refl, sym, ap, ap₂, ◌∙◌}
use mathlib.Core.Bool.{Bool, true, false}
use mathlib.Core.List.{List, [], ◌∷◌, reverse, reverse_aux, reverse-reverse}
use Prim.Native.Nat.{ℕ, zero, suc, ◌+◌, ◌/◌, ◌<◌, ◌≤◌}
use native.Mathlib.Nat.{add-suc, suc-add}
use native.Mathlib.Omega.{arith}
use lib.Dec.{lit<}
use lib.ListN.{length, take, drop, get_or, length-reverse}
use lib.Seq.{drop-cons}
pub use Rattle.endian.specs.RoundTrip.{length_digits, number_digits}
use Rattle.lists.specs.Below.{join_below, list_below}
use Rattle.endian.specs.Number.{little, number, lowest, digits, number_at}
use Rattle.lists.proofs.Below.{part_list, join_cong}

-- each element is a byte, also the other way round
abbrev Bytes : List ℕ → Type 0
Bytes xs = (i : ℕ) → get_or xs i 0 < 256

bytes_none : Bytes []
bytes_none i = lit< tt

bytes_more : {b : ℕ} (bs : List ℕ) → b < 256 → Bytes bs → Bytes (b ∷ bs)
bytes_more bs l h zero = l
bytes_more bs l h (suc i) = h i

bytes_reversed : (xs ys : List ℕ) → Bytes xs → Bytes ys → Bytes (reverse_aux xs ys)
bytes_reversed [] ys h k = k
bytes_reversed (x ∷ xs) ys h k = bytes_reversed xs (x ∷ ys) (λ i. h (suc i)) (bytes_more ys (h 0) k)

bytes_lowest : (w v : ℕ) → Bytes (lowest w v)
bytes_lowest zero v = bytes_none
bytes_lowest (suc w) v = bytes_more (lowest w (v / 256)) (omega arith) (bytes_lowest w (v / 256))

-- the digits of a number are bytes
pub digits_bytes : (big : Bool) (w v : ℕ) (i : ℕ) → get_or (digits big w v) i 0 < 256
digits_bytes true w v = bytes_reversed (lowest w v) [] (bytes_lowest w v) bytes_none
digits_bytes false w v = bytes_lowest w v

-- lists of bytes of one length that say the same number are the same
little_same : (xs ys : List ℕ) → length xs ≡ length ys → Bytes xs → Bytes ys → little xs ≡ little ys → xs ≡ ys
little_same [] [] l h k e = refl
little_same [] (y ∷ ys) l h k e = absurd (omega arith)
little_same (x ∷ xs) [] l h k e = absurd (omega arith)
little_same (x ∷ xs) (y ∷ ys) l h k e =
    ap₂ ◌∷◌ (omega (arith, h 0, k 0)) (little_same xs ys (omega arith) (λ i. h (suc i)) (λ i. k (suc i)) (omega (arith, h 0, k 0)))

pub number_same : (big : Bool) (xs ys : List ℕ) → length xs ≡ length ys → ((i : ℕ) → get_or xs i 0 < 256) → ((i : ℕ) → get_or ys i 0 < 256)
    → number big xs ≡ number big ys → xs ≡ ys
number_same true xs ys l h k e =
    sym (reverse-reverse xs)
    ∙ ap reverse
    (little_same (reverse xs) (reverse ys) (length-reverse xs ∙ l ∙ sym (length-reverse ys)) (bytes_reversed xs [] h bytes_none)
    (bytes_reversed ys [] k bytes_none) e)
    ∙ reverse-reverse ys
number_same false xs ys l h k e = little_same xs ys l h k e

-- the number at an offset, from its bytes as code reads them one by one
pub number_at_bytes : (order : Bool) {big : Bool} (n : ℕ) (xs : List ℕ) (at : ℕ) {r : ℕ} → at + suc n ≤ length xs → big ≡ order
    → r ≡ number order (get_or xs at 0 ∷ list_below n (λ i. get_or xs (at + suc i) 0)) → r ≡ number_at big (suc n) xs at
number_at_bytes order n xs at fits same e =
    let rest : take n (drop (suc at) xs) ≡ list_below n (λ i. get_or xs (at + suc i) 0) =
    part_list n xs (suc at) 0 (rw suc-add (omega arith))
    ∙ join_cong _ _ n (λ i l. ap (λ (k : ℕ). get_or xs k 0 ∷ []) (suc-add at i ∙ sym (add-suc at i))) in
    let cons : drop at xs ≡ get_or xs at 0 ∷ drop (suc at) xs = drop-cons xs at 0 (omega arith) in
    rw (same, cons, rest) e

-- four elements are the number 1 in one order at most
pub one_order : (xs : List ℕ) (at : ℕ) → at + 4 ≤ length xs → number_at true 4 xs at ≡ 1 → number_at false 4 xs at ≡ 1 → ⊥
unfolding join_below
one_order xs at fits t f =
    let e = part_list 4 xs at 0 fits in
    omega (arith, rw e at t, rw e at f)
