-- The loop's invariant: the values of every chunk passed keep their rule.
use mathlib.Core.Path.{◌≡◌}
use Rattle.lists.specs.Below.{join_below, list_below}
use Rattle.format.specs.Record.{size_of}
use Rattle.format.specs.Refusals.{verdict, passed}
use Rattle.format.specs.Judge.{value_test}
use Rattle.meta2.proofs.judge_values.Given as goal

abbrev pub invariant-loop-k : goal.invariant-loop-k
invariant-loop-k l = passed ≡ verdict (join_below l.k (λ k. list_below l.h.n (value_test l.h (size_of l.lists) l.maxchunks l.at l.part k)))
