-- A budget that is greater than every length.
use mathlib.Core.Path.{◌∙◌}
use native.Mathlib.Omega.{arith}
use Rattle.format.specs.declared.head.File.TheVariants.{Single}
use Rattle.format.specs.Session.{state_of}
use Rattle.format.proofs.Storing.{close_few, close_whole}
use Rattle.closing.proofs.close.Goals as goal

pub returns-clause-image_after : goal.returns-clause-image_after
returns-clause-image_after c =
    let a = c.args in
    let st = state_of Single a.s a.lists.now a.image.now a.table.now in
    c.close_within.ensures.image_after ∙ close_whole st _ (omega (arith, close_few st))
