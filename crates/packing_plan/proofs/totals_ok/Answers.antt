-- No total is over the limit where the greatest is not.
use mathlib.Core.Path.{◌≡◌, refl, ap}
use mathlib.Core.Bool.{Bool, true, false, not}
use Prim.Native.Nat.{ℕ, ◌≤◌}
use native.Mathlib.Nat.{le_trans}
use native.Mathlib.Omega.{arith}
use lib.Dec.{leb, ltb}
use lib.ListN.{get_or}
use borrow.Author.Tests.{leb-true, leb-false, ltb-false, le-ltb, not-true}
use Rattle.lists.specs.Below.{all_below, greatest_below}
use Rattle.lists.proofs.Below.{all_at, all_of, greatest_le, greatest_ge}
use Rattle.format.specs.Limits.{max_size}
use Rattle.tables.proofs.Counts.{greatest_taken}
use Rattle.packing_plan.proofs.totals_ok.Goals as goal

module _ (f : ℕ → ℕ) (n : ℕ) where
  abbrev small : ℕ → Bool
  small i = not (ltb max_size (f i))

  -- the greatest is over the limit where one of them is
  within : leb (greatest_below n f) max_size ≡ all_below n small
  within = go (leb (greatest_below n f) max_size) refl (all_below n small) refl
    where
      go : (a : Bool) → leb (greatest_below n f) max_size ≡ a → (b : Bool) → all_below n small ≡ b → a ≡ b
      go true e true h = refl
      go false e false h = refl
      go true e false h =
          let all : all_below n small ≡ true =
          all_of small n (λ i l. ap not (le-ltb max_size (f i) (le_trans (greatest_ge f n i l) (leb-true _ _ e)))) in
          cc
      go false e true h =
          let most : greatest_below n f ≤ max_size =
          greatest_le f n max_size (λ i l. ltb-false _ _ (not-true _ (all_at small n i l h))) in
          absurd (omega (arith, leb-false (greatest_below n f) max_size e))

pub returns : goal.returns
returns c =
    let a = c.args in
    rw (c.greatest.ensures, greatest_taken a.n a.totals.now c.requires) (within (λ i. get_or a.totals.now i 0) a.n)
