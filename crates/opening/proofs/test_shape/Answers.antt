-- Each return by the tests that led there.
use borrow.Author.Rules.{rules}
use Rattle.format.specs.Limits.{tasks_rule}
use Rattle.format.specs.Refusals.{first_failing}
use Rattle.format.specs.Open.{shape_tests}
use Rattle.opening.proofs.test_shape.Goals as goal

pub returns-then-order-gt1 : goal.returns-then-order-gt1
unfolding first_failing shape_tests tasks_rule
returns-then-order-gt1 c = search rules

pub returns-then-not-format_ok : goal.returns-then-not-format_ok
unfolding first_failing shape_tests tasks_rule
returns-then-not-format_ok c = search rules

pub returns-then-not-blocksize_ok : goal.returns-then-not-blocksize_ok
unfolding first_failing shape_tests tasks_rule
returns-then-not-blocksize_ok c = search rules

pub returns-then-ranks-lt1 : goal.returns-then-ranks-lt1
unfolding first_failing shape_tests tasks_rule
returns-then-ranks-lt1 c = search rules

pub returns-then-ranks-gt-MAX_TASKS : goal.returns-then-ranks-gt-MAX_TASKS
unfolding first_failing shape_tests tasks_rule
returns-then-ranks-gt-MAX_TASKS c = search rules

pub returns-then-ranks-sizes : goal.returns-then-ranks-sizes
unfolding first_failing shape_tests tasks_rule
returns-then-ranks-sizes c = search rules

pub returns-then-prefix-gt-PREFIX : goal.returns-then-prefix-gt-PREFIX
unfolding first_failing shape_tests tasks_rule
returns-then-prefix-gt-PREFIX c = search rules

pub returns : goal.returns
unfolding first_failing shape_tests tasks_rule
returns c = search rules
