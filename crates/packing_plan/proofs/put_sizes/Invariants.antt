-- The sizes of the first i tasks stand at the start of the list.
use Prim.Native.Nat.{max}
use mathlib.Core.Path.{◌≡◌}
use lib.ListN.{get_or}
use Rattle.lists.specs.Below.{list_below}
use Rattle.lists.specs.Splice.{splice}
use Rattle.packing_plan.proofs.put_sizes.Given as goal

abbrev pub invariant-loop-i : goal.invariant-loop-i
invariant-loop-i l = l.size-items ≡ splice l.initial.size-items 0 (list_below l.i (λ j. max 1 (get_or l.totals j 0)))
