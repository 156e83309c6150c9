-- The fold tests each number.
use mathlib.Core.Path.{◌≡◌, ◌∙◌}
use mathlib.Core.Bool.{Bool, true, not, ◌&&◌}
use Prim.Native.Nat.{ℕ}
use lib.Dec.{eqb}
use Rattle.std.proofs.Common.{arith}
use Rattle.std.proofs.lemmas.Grind.{common_steps}
use Rattle.std.specs.Prelude.{fold}
use Rattle.rules.proofs.First.{fold_all}
use Rattle.rules.proofs.limits.is_new.Goals as goal

pub returns : goal.returns
returns c =
    let a = c.args in
    let tested : c.fold.result ≡ fold (λ (new : Bool) (x : ℕ). new && not (eqb x a.value)) true a.before.now = grind (arith, common_steps) in
    tested ∙ fold_all (λ x. not (eqb x a.value)) a.before.now
