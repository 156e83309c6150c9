use Rattle.format.specs.Layout.{extended, capacity}
use Rattle.layout.proofs.chunk_holds.Goals as goal

pub returns-clause-extended : goal.returns-clause-extended
unfolding extended
returns-clause-extended c = c.round_up.ensures

pub returns-clause-holds : goal.returns-clause-holds
unfolding capacity extended
returns-clause-holds c = c.round_up.ensures
