-- A signed number is stored as what the machine reads back from its bits, which is the number.
use mathlib.Core.Path.{◌≡◌, ap}
use mathlib.Core.Bool.{Bool}
use mathlib.Core.List.{List}
use Prim.Native.Nat.{ℕ}
use lib.IntN.{ℤ}
use mir.Facts.{to_z-of_z}
use mir.Syntax.{Width}
use mir.Val.{SFits, to_z, of_z}
use Rattle.lists.specs.Splice.{splice}
use Rattle.lists.specs.Stores.{Spends}
use Rattle.endian.specs.Signed.{signed_digits}

pub store_signed : (ys : List ℕ) (at : ℕ) (big : Bool) (w : Width) (n : ℕ) {z : ℤ} → SFits w z
    → splice ys at (signed_digits big n (to_z w (of_z w z))) ≡ splice ys at (signed_digits big n z)
store_signed ys at big w n f = ap (λ (z : ℤ). splice ys at (signed_digits big n z)) (to_z-of_z f)

pub spends_signed : {b : ℕ} {xs : List ℕ} {at : ℕ} {ys : List ℕ} {left : ℕ} (big : Bool) (w : Width) (n : ℕ) {z : ℤ} → SFits w z
    → Spends b xs at (signed_digits big n (to_z w (of_z w z))) ys left → Spends b xs at (signed_digits big n z) ys left
spends_signed big w n f s = rw (to_z-of_z f) at s
