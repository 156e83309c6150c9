-- The loop's invariant: what a chunk holds of the first i tasks is spliced into the list's start.
use mathlib.Core.Path.{◌≡◌}
use lib.ListN.{get_or}
use Rattle.lists.specs.Below.{list_below}
use Rattle.lists.specs.Splice.{splice}
use Rattle.format.specs.Layout.{capacity}
use Rattle.layout.proofs.Layout.chunks_hold.Given as goal

abbrev pub invariant-loop-i : goal.invariant-loop-i
invariant-loop-i l = l.holds ≡ splice l.initial.holds 0 (list_below l.i (λ j. capacity l.self.blocksize (get_or l.self.sizes.now j 0)))
