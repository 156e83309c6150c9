-- Budgets that are greater than every length.
use mathlib.Core.Path.{◌∙◌}
use native.Mathlib.Omega.{arith}
use Rattle.format.specs.declared.head.File.TheVariants.{First, Second}
use Rattle.format.specs.Session.{state_of}
use Rattle.pairs.specs.Sessions.{pair_of}
use Rattle.pair_closing.proofs.Closed.{close_whole}
use Rattle.pair_closing.proofs.close.Goals as goal

pub returns-clause-image1_after : goal.returns-clause-image1_after
returns-clause-image1_after c =
    let a = c.args in
    let p =
    pair_of (state_of First a.s0 a.lists0.now a.image0.now a.table0.now) (state_of Second a.s1 a.lists1.now a.image1.now a.table1.now) in
    c.close_within.ensures.image1_after ∙ close_whole p _ _ (omega (arith, c.well_formed.1.1.0)) (omega (arith, c.well_formed.1.1.1.1.1.1.0))
