-- A budget that is greater than every length.
use mathlib.Core.Path.{◌∙◌}
use native.Mathlib.Omega.{arith}
use Rattle.format.specs.declared.head.File.TheVariants.{Single}
use Rattle.format.specs.Session.{state_of}
use Rattle.format.specs.Write.{request_of}
use Rattle.format.proofs.Storing.{write_whole}
use Rattle.writing.proofs.write.Goals as goal

pub returns-clause-table_after : goal.returns-clause-table_after
returns-clause-table_after c =
    let a = c.args in
    let st = state_of Single a.s a.lists.now a.image.now a.table.now in
    let done = c.write_within.ensures in
    done.table_after ∙ write_whole st (request_of a.task a.bytes.now) _ (omega (arith, c.well_formed.1.1.1.1.1.0))
