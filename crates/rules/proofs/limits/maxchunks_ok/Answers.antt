use borrow.Author.Rules.{rules}
use Rattle.format.specs.Limits.{maxchunks_rule}
use Rattle.rules.proofs.limits.maxchunks_ok.Goals as goal

pub returns : goal.returns
unfolding maxchunks_rule
returns c = search rules
