-- Rounding up to a multiple of b: `round_up b x` is the least multiple of b that is at least x.
use mathlib.Core.Path.{◌≡◌, refl}
use Prim.Native.Nat.{ℕ, ◌+◌, ◌-◌, ◌*◌, ◌/◌, ◌^◌, ◌%◌, ◌≤◌, ◌<◌}
use native.Mathlib.Nat.{le_of_suc-le-suc, suc-mul, mul-le-mul_right}
use native.Mathlib.Nat.{div-add-mod', div-lt_iff_lt-mul, mod-lt, mod-eq_of_lt}
use native.Mathlib.Omega.{arith}
use Rattle.format.specs.Layout.{round_up}

pub round_up_multiple : (b x : ℕ) → (q : ℕ) × (round_up b x ≡ q * b)
unfolding round_up
round_up_multiple b x = ((x + (b - 1)) / b, refl)

pub round_up_ge : (b x : ℕ) → 0 < b → x ≤ round_up b x
unfolding round_up
round_up_ge b x h = omega (arith, div-add-mod' (x + (b - 1)) b, mod-lt (x + (b - 1)) h)

pub round_up_least : (b x q : ℕ) → 0 < b → x ≤ q * b → round_up b x ≤ q * b
unfolding round_up
round_up_least b x q h l = mul-le-mul_right b (le_of_suc-le-suc ((div-lt_iff_lt-mul h).1 (rw suc-mul (omega arith))))

-- by a power of two it is a shift down and up again, in w bits that hold the result
pub round_up_shifts : (w k b x : ℕ) → b ≡ 2 ^ k → round_up b x < 2 ^ w → (x + (b - 1)) / 2 ^ k * 2 ^ k % 2 ^ w ≡ round_up b x
unfolding round_up
round_up_shifts w k b x e l = rw (← e) (mod-eq_of_lt l)
