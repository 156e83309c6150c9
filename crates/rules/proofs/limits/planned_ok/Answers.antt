use borrow.Author.Rules.{rules}
use Rattle.format.specs.Limits.{planned_rule}
use Rattle.rules.proofs.limits.planned_ok.Goals as goal

pub returns-then-planned-ge1 : goal.returns-then-planned-ge1
unfolding planned_rule
returns-then-planned-ge1 c = search rules

pub returns-else-planned-ge1 : goal.returns-else-planned-ge1
unfolding planned_rule
returns-else-planned-ge1 c = search rules
