-- The totals of the first i tasks stand at the start of the list.
use mathlib.Core.Path.{◌≡◌}
use Rattle.lists.specs.Below.{list_below}
use Rattle.lists.specs.Splice.{splice}
use Rattle.format.specs.declared.head.File.TheVariants.{Single}
use Rattle.format.specs.Reads.{container_of}
use Rattle.packs.specs.Pack.{total}
use Rattle.packing_plan.proofs.put_totals.Given as goal

abbrev pub invariant-loop-i : goal.invariant-loop-i
invariant-loop-i l = l.total-items ≡ splice l.initial.total-items 0 (list_below l.i (total (container_of Single l.l l.lists l.image l.table)))
