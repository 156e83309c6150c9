-- The two values of fileformat_version as facts where their rule holds, and back; and the least count that each asks for.
use mathlib.Core.Path.{◌≡◌, refl}
use mathlib.Core.Bool.{Bool, true, false, cond}
use mathlib.Core.Logic.{inl, inr}
use Prim.Native.Nat.{ℕ, ◌≤◌, ◌<◌, ◌^◌, zero-le}
use native.Mathlib.Nat.{le_antisymm}
use native.Mathlib.Omega.{arith}
use lib.Dec.{eqb}
use lib.IntN.{ℤ, pos}
use borrow.Author.Tests.{eqb-true, eqb-false}
use Rattle.endian.specs.Signed.{signed}
use Rattle.endian.proofs.Signed.{InRange, within_natural, within_facts, within_signed}
use Rattle.format.specs.Limits.{plain_format, idle_format, format_rule}
use Rattle.format.specs.Meta2.{least_count}
use Rattle.format.specs.Container.{IsFormat}

-- a field of that value, read with its sign or without
pub format_natural : (z : ℤ) → format_rule z ≡ true → InRange plain_format idle_format z
unfolding format_rule
format_natural z e = within_natural plain_format idle_format z e

pub format_number : (n : ℕ) → format_rule (signed 31 n) ≡ format_rule (pos n)
unfolding format_rule
format_number n = within_signed plain_format idle_format 31 n (omega arith)

pub format_facts : (n : ℕ) → format_rule (pos n) ≡ true → (plain_format ≤ n) × (n ≤ idle_format)
unfolding format_rule
format_facts n e = within_facts plain_format idle_format n e

module _ {format : ℕ} where
  pub format_known : format_rule (pos format) ≡ true → IsFormat format
  format_known e = go (eqb format idle_format) refl
    where
      go : (b : Bool) → eqb format idle_format ≡ b → IsFormat format
      go true same = inr (eqb-true format idle_format same)
      go false other =
          let (least, most) = format_facts format e in
          let past = eqb-false format idle_format other in
          inl (le_antisymm (omega arith) least)

  pub format_kept : IsFormat format → format_rule (pos format) ≡ true
  unfolding format_rule
  format_kept (inl e) = rw e
  format_kept (inr e) = rw e

  pub format_small : IsFormat format → format < 2 ^ 31
  format_small (inl e) = omega arith
  format_small (inr e) = omega arith

  -- the least count is 1 in version 4 alone
  pub least_idle : {count : ℕ} → least_count format ≤ count → format ≡ 4 → 1 ≤ count
  unfolding least_count
  least_idle l e = rw e at l

  pub idle_least : {count : ℕ} → (format ≡ 4 → 1 ≤ count) → least_count format ≤ count
  unfolding least_count
  idle_least {count} idle = go (eqb format idle_format) refl
    where
      go : (b : Bool) → eqb format idle_format ≡ b → cond b 1 0 ≤ count
      go true same = idle (eqb-true format idle_format same)
      go false other = zero-le

-- and no more than that
pub least_one : (format : ℕ) → least_count format ≤ 1
unfolding least_count
least_one format = go (eqb format idle_format)
  where
    go : (b : Bool) → cond b 1 0 ≤ 1
    go true = omega arith
    go false = omega arith
