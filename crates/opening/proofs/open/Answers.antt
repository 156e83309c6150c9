-- A budget that is greater than every length.
use mathlib.Core.Path.{◌∙◌}
use native.Mathlib.Omega.{arith}
use Rattle.format.specs.declared.head.File.TheVariants.{Single}
use Rattle.format.specs.Open.{opening_of}
use Rattle.format.proofs.Storing.{open_few, open_whole}
use Rattle.opening.proofs.open.Goals as goal

pub returns-clause-image_after : goal.returns-clause-image_after
returns-clause-image_after c =
    let a = c.args in
    let o = opening_of Single a.plan a.ranks.now a.sizes.now a.prefix.now in
    let few = open_few o a.image.now a.table.now in
    c.open_within.ensures.image_after ∙ open_whole o a.image.now a.table.now _ (omega (arith, few, c.well_formed.1.1.1.1.0))
