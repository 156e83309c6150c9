-- The first i of the numbers that there is room for are stored.
use mathlib.Core.Path.{◌≡◌}
use lib.ListN.{take}
use Rattle.std.specs.List.{flat_map}
use Rattle.lists.specs.Splice.{splice}
use Rattle.runs.proofs.put_list.Given as goal

abbrev pub invariant-loop-i : goal.invariant-loop-i
invariant-loop-i g l = l.image ≡ splice l.initial.image l.at (flat_map (g.T.Number.bytes_of l.big) (take l.i l.whole))
