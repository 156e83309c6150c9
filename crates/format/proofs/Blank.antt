-- The cells of a session in which nothing is written: how many they are, and which of them are 0.
use mathlib.Core.Path.{◌≡◌, ap, ◌∙◌}
use mathlib.Core.List.{◌++◌}
use Prim.Native.Nat.{ℕ, ◌+◌, ◌-◌, ◌*◌, ◌≤◌, ◌<◌}
use native.Mathlib.Nat.{mul-sub, mul-le-mul_left}
use native.Mathlib.Omega.{arith}
use lib.IntN.{ℤ, pos}
use lib.ListN.{length, get_or, replicate, length-append, length-replicate, get_or-replicate, get_or-append}
use lib.Seq.{get_or-append-add}
use Rattle.format.specs.Meta2.{unused}
use Rattle.format.specs.Open.{blank_cells}

module _ (begun n planned : ℕ) (fits : begun ≤ planned) where
  pub blank_parts : n * begun + n * (planned - begun) ≡ n * planned
  blank_parts = omega (arith, mul-sub n planned begun, mul-le-mul_left n fits)

  pub length_blank : length (blank_cells begun n planned) ≡ n * planned
  unfolding blank_cells
  length_blank = simp (length-append, length-replicate) blank_parts

  pub blank_begun : (j : ℕ) (d : ℤ) → j < n * begun → get_or (blank_cells begun n planned) j d ≡ pos 0
  unfolding blank_cells
  blank_begun j d l = get_or-append (replicate (n * begun) (pos 0)) _ d j (rw length-replicate l) ∙ get_or-replicate (n * begun) j (pos 0) d l

  pub blank_unused : (j : ℕ) (d : ℤ) → n * begun ≤ j → j < n * planned → get_or (blank_cells begun n planned) j d ≡ unused
  unfolding blank_cells
  blank_unused j d past l =
      let at : j ≡ length (replicate {A = ℤ} (n * begun) (pos 0)) + (j - n * begun) = rw length-replicate (omega arith) in
      ap (λ (i : ℕ). get_or (replicate (n * begun) (pos 0) ++ replicate (n * (planned - begun)) unused) i d) at
      ∙ get_or-append-add (replicate (n * begun) (pos 0)) _ (j - n * begun) d
      ∙ get_or-replicate (n * (planned - begun)) (j - n * begun) unused d (omega (arith, blank_parts))
