-- The loop's invariant: every value passed keeps its rule.
use mathlib.Core.Path.{◌≡◌}
use Rattle.lists.specs.Below.{list_below}
use Rattle.format.specs.Record.{size_of}
use Rattle.format.specs.Refusals.{verdict, passed}
use Rattle.format.specs.Judge.{value_test}
use Rattle.meta2.proofs.judge_row.Given as goal

abbrev pub invariant-loop-i : goal.invariant-loop-i
invariant-loop-i l = passed ≡ verdict (list_below l.i (value_test l.fn.h (size_of l.lists) l.maxchunks l.at l.part l.k))
