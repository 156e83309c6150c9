-- The counts of the first i tasks stand at the start of the list.
use mathlib.Core.Path.{◌≡◌}
use mathlib.Core.Bool.{cond}
use lib.Dec.{eqb}
use lib.ListN.{get_or}
use Rattle.lists.specs.Below.{list_below}
use Rattle.lists.specs.Splice.{splice}
use Rattle.packing_plan.proofs.put_counts.Given as goal

abbrev pub invariant-loop-i : goal.invariant-loop-i
invariant-loop-i l = l.count-items ≡ splice l.initial.count-items 0 (list_below l.i (λ j. cond (eqb (get_or l.totals j 0) 0) l.least 1))
