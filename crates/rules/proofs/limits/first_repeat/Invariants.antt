-- The loop's invariant: every number passed is a new one.
use mathlib.Core.Path.{◌≡◌}
use mathlib.Core.Bool.{true}
use lib.IntN.{pos}
use lib.ListN.{get_or}
use Rattle.lists.specs.Below.{all_below}
use Rattle.format.specs.Limits.{is_new}
use Rattle.rules.proofs.limits.first_repeat.Given as goal

abbrev pub invariant-loop-i : goal.invariant-loop-i
invariant-loop-i l = all_below l.i (is_new (λ j. pos (get_or l.values j 0))) ≡ true
