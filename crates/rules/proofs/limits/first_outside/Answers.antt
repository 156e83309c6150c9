-- `position` finds the first number that is outside.
use mathlib.Core.Path.{◌∙◌}
use mathlib.Core.Bool.{not}
use borrow.Author.Rules.{rules}
use lib.IntN.{pos}
use Rattle.std.proofs.lemmas.Iterator.{YieldsList-from_slice}
use Rattle.std.proofs.lemmas.Iterator.Search.{position_from_yields_List}
use Rattle.endian.specs.Signed.{within}
use Rattle.rules.proofs.First.{position_bad}
use Rattle.rules.proofs.limits.first_outside.Goals as goal

pub returns : goal.returns
returns c =
    let a = c.args in
    position_from_yields_List (λ x. not (within a.lo a.hi (pos x))) _ _ _ c.position.ensures.ran (YieldsList-from_slice a.values.now (cc)) (λ x b q k. search rules)
    ∙ position_bad (λ x. within a.lo a.hi (pos x)) a.values.now
