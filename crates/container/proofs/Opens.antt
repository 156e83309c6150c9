-- Opening answers 0 exactly where it is given a good opening, and `needs` exactly where it is given a good plan.
use mathlib.Core.Path.{sym, ap, ◌∙◌}
use mathlib.Core.List.{List}
use Prim.Native.Nat.{ℕ, ◌-◌}
use native.Mathlib.Omega.{arith}
use lib.IntN.{ℤ}
use Rattle.format.specs.declared.session.Needed.{Needed}
use Rattle.format.specs.Open.{Opening}
use Rattle.container.specs.Format.{OpensExactly}
use Rattle.format.proofs.Opens.{opens_only, opens_every, plan_good, needed}
use Rattle.container.proofs.Refusing.{open_number}
use Rattle.format.proofs.About.{size_bounded}
use Rattle.format.proofs.Opening.{plan_holds, needs_number}

module _ (o : Opening) (image : List ℕ) (table : List ℤ) where
  pub opens_exactly : OpensExactly o image table
  opens_exactly = record {
    opens = (λ e. opens_only o image table (sym (open_number o image table) ∙ e), λ g. open_number o image table ∙ opens_every o image table g);
    plans = (
      λ e. plan_good o (plan_holds o (sym (needs_number o) ∙ e)),
      λ g. ap (λ (a : Needed). a.refusal) (needed o g),
    );
    sized = λ g task first last. size_bounded g.bounds (task - 1) (omega arith);
    needed = λ g. (ap (λ (a : Needed). a.image) (needed o g), ap (λ (a : Needed). a.cells) (needed o g));
  }
