-- The cells of the first i tasks stand at the start of the list.
use Prim.Native.Nat.{ℕ}
use mathlib.Core.Path.{◌≡◌}
use mathlib.Core.Bool.{cond}
use mathlib.Core.List.{List}
use lib.Dec.{eqb}
use lib.IntN.{ℤ, pos}
use lib.ListN.{get_or}
use Rattle.lists.specs.Below.{list_below}
use Rattle.lists.specs.Splice.{splice}
use Rattle.format.specs.Meta2.{unused}
use Rattle.packing_plan.proofs.put_cells.Given as goal

-- what META2 says of chunk 1 of task i + 1
abbrev pub cell_of : List ℕ → List ℕ → ℕ → ℤ
cell_of totals counts i = cond (eqb (get_or counts i 0) 0) unused (pos (get_or totals i 0))

abbrev pub invariant-loop-i : goal.invariant-loop-i
invariant-loop-i l = l.cell-items ≡ splice l.initial.cell-items 0 (list_below l.i (cell_of l.totals l.counts))
