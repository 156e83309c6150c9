-- A task's count by its tally: u where a chunk is begun, and else the least count of the format.
use mathlib.Core.Path.{◌≡◌, refl, sym}
use mathlib.Core.Bool.{Bool, true, false}
use Prim.Native.Nat.{ℕ, ◌+◌, ◌≤◌, ◌<◌, zero-le}
use native.Mathlib.Nat.{le-max_left, le-max_right, max-le, max-eq_left, max-eq_right}
use native.Mathlib.Omega.{arith}
use lib.Dec.{eqb}
use borrow.Author.Tests.{eqb-true, eqb-false}
use Rattle.format.specs.Meta2.{least_count}
use Rattle.format.proofs.Formats.{least_one}
use Rattle.format.specs.Tally.{Tally, count_by}

module _ (format : ℕ) (x : Tally) where
  pub count_begun : 0 < x.u → count_by format x ≡ x.u
  unfolding count_by
  count_begun some = max-eq_left (omega (arith, least_one format))

  pub count_fresh : x.u ≡ 0 → count_by format x ≡ least_count format
  unfolding count_by
  count_fresh none = max-eq_right (rw none zero-le)

  pub count_over : x.u ≤ count_by format x
  unfolding count_by
  count_over = le-max_left x.u (least_count format)

  pub count_least : least_count format ≤ count_by format x
  unfolding count_by
  count_least = le-max_right x.u (least_count format)

  pub count_next : count_by format x ≤ x.u + 1
  unfolding count_by
  count_next = max-le (omega arith) (omega (arith, least_one format))

  pub count_most : {K : ℕ} → 1 ≤ K → x.u ≤ K → count_by format x ≤ K
  unfolding count_by
  count_most some most = max-le most (omega (arith, least_one format))

  -- it is not u only where no chunk is begun
  pub fresh_apart : (x.u ≡ count_by format x → ⊥) → x.u ≡ 0
  fresh_apart apart = go (eqb x.u 0) refl
    where
      go : (v : Bool) → eqb x.u 0 ≡ v → x.u ≡ 0
      go true e = eqb-true _ _ e
      go false e = absurd (apart (sym (count_begun (omega (arith, eqb-false)))))
