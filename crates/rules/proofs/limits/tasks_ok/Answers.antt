use borrow.Author.Rules.{rules}
use Rattle.format.specs.Limits.{tasks_rule}
use Rattle.rules.proofs.limits.tasks_ok.Goals as goal

pub returns-then-n-ge1 : goal.returns-then-n-ge1
unfolding tasks_rule
returns-then-n-ge1 c = search rules

pub returns-else-n-ge1 : goal.returns-else-n-ge1
unfolding tasks_rule
returns-else-n-ge1 c = search rules
