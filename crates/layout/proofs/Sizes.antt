-- The sizes of the first i tasks, as a loop over them meets them.
use mathlib.Core.Path.{◌≡◌}
use mathlib.Core.List.{List}
use Prim.Native.Nat.{ℕ, ◌<◌, ◌≤◌}
use native.Mathlib.Omega.{arith}
use lib.ListN.{length, take, get_or}
use lib.Seq.{length-take-le, get_or-take}
use Rattle.format.specs.Limits.{max_size, Sound}
use Rattle.format.proofs.Bounds.{sound_size}

module _ (b n : ℕ) (sizes : List ℕ) (p : Sound b n sizes) (i : ℕ) (few : i ≤ n) where
  pub length_first : length (take i sizes) ≡ i
  length_first = length-take-le i sizes (omega (arith, p.listed))

  module _ (k : ℕ) (l : k < length (take i sizes)) where
    pub within_first : k < i
    within_first = omega (arith, length_first)

    pub size_first : get_or (take i sizes) k 0 ≡ get_or sizes k 0
    size_first = get_or-take i sizes k 0 within_first

    pub size_small : get_or (take i sizes) k 0 ≤ max_size
    size_small = rw size_first (sound_size p k (omega (arith, within_first))).1
