use mathlib.Core.Path.{◌≡◌, ◌∙◌}
use Prim.Native.Nat.{ℕ, max}
use Rattle.std.proofs.Common.{arith}
use Rattle.std.proofs.lemmas.Grind.{common_steps}
use Rattle.std.specs.Prelude.{fold}
use Rattle.tables.proofs.Counts.{fold_greatest}
use Rattle.tables.proofs.greatest.Goals as goal

pub returns : goal.returns
returns c =
    let xs = c.args.values.now in
    let folded : c.fold.result ≡ fold (λ (most x : ℕ). max most x) 0 xs = grind (arith, common_steps) in
    folded ∙ fold_greatest xs
