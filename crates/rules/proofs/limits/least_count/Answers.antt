use borrow.Author.Rules.{rules}
use Rattle.format.specs.Meta2.{least_count}
use Rattle.rules.proofs.limits.least_count.Goals as goal

pub returns-then-format-eq-IDLE_FORMAT : goal.returns-then-format-eq-IDLE_FORMAT
unfolding least_count
returns-then-format-eq-IDLE_FORMAT c = search rules

pub returns-else-format-eq-IDLE_FORMAT : goal.returns-else-format-eq-IDLE_FORMAT
unfolding least_count
returns-else-format-eq-IDLE_FORMAT c = search rules
