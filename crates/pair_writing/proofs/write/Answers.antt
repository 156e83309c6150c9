-- Budgets that are greater than every length.
use mathlib.Core.Path.{◌∙◌}
use native.Mathlib.Omega.{arith}
use Rattle.format.specs.declared.head.File.TheVariants.{First, Second}
use Rattle.format.specs.Session.{state_of}
use Rattle.format.specs.Write.{request_of}
use Rattle.pairs.specs.Sessions.{pair_of}
use Rattle.pair_writing.proofs.Written.{write_all}
use Rattle.pair_writing.proofs.write.Goals as goal

pub returns-clause-table1_after : goal.returns-clause-table1_after
returns-clause-table1_after c =
    let a = c.args in
    let p =
    pair_of (state_of First a.s0 a.lists0.now a.image0.now a.table0.now)
    (state_of Second a.s1 a.lists1.now a.image1.now a.table1.now) in
    let short = c.well_formed.1.1.1.1.1.1.1.1.1.0 in
    let done = c.write_within.ensures in
    done.table1_after ∙ write_all p (request_of a.rank a.bytes.now) _ _ (omega (arith, short)) (omega (arith, short))
