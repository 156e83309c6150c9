-- Budgets that are greater than every length.
use mathlib.Core.Path.{◌∙◌}
use native.Mathlib.Omega.{arith}
use Rattle.format.specs.declared.head.File.TheVariants.{First, Second}
use Rattle.format.specs.Open.{opening_of}
use Rattle.format.proofs.Storing.{open_few}
use Rattle.pair_opening.proofs.Opened.{pair_whole}
use Rattle.pair_opening.proofs.open.Goals as goal

pub returns-clause-image1_after : goal.returns-clause-image1_after
returns-clause-image1_after c =
    let a = c.args in
    let o = opening_of First a.plan0 a.ranks0.now a.sizes0.now a.prefix0.now in
    let o' = opening_of Second a.plan1 a.ranks1.now a.sizes1.now a.prefix1.now in
    let few = open_few o a.image0.now a.table0.now in
    let few' = open_few o' a.image1.now a.table1.now in
    let short = c.well_formed.1.1.1.1.0 in
    let short' = c.well_formed.1.1.1.1.1.1.1.1.1.1.0 in
    c.open_within.ensures.image1_after
    ∙ pair_whole o o' a.image0.now a.table0.now a.image1.now a.table1.now _ _ (omega (arith, few, short)) (omega (arith, few', short'))
