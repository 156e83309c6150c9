-- Each return by the tests that led there.
use borrow.Author.Rules.{rules}
use Rattle.format.specs.Refusals.{first_failing}
use Rattle.format.specs.Open.{number_tests}
use Rattle.opening.proofs.test_numbers.Goals as goal

pub returns-then-not-ranks_ok : goal.returns-then-not-ranks_ok
unfolding first_failing number_tests
returns-then-not-ranks_ok c = search rules

pub returns-then-not-sizes_ok : goal.returns-then-not-sizes_ok
unfolding first_failing number_tests
returns-then-not-sizes_ok c = search rules

pub returns-then-not-planned_ok : goal.returns-then-not-planned_ok
unfolding first_failing number_tests
returns-then-not-planned_ok c = search rules

pub returns : goal.returns
unfolding first_failing number_tests
returns c = search rules
