use borrow.Author.Rules.{rules}
use Rattle.format.specs.Limits.{format_rule}
use Rattle.rules.proofs.limits.format_ok.Goals as goal

pub returns-then-format-ge-PLAIN_FORMAT : goal.returns-then-format-ge-PLAIN_FORMAT
unfolding format_rule
returns-then-format-ge-PLAIN_FORMAT c = search rules

pub returns-else-format-ge-PLAIN_FORMAT : goal.returns-else-format-ge-PLAIN_FORMAT
unfolding format_rule
returns-else-format-ge-PLAIN_FORMAT c = search rules
