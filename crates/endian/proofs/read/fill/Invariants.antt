-- The first i numbers are in the slice.
use Rattle.std.proofs.Common.{◌≡◌, ◌+◌, ◌*◌, take, drop}
use Rattle.lists.specs.Below.{list_below}
use Rattle.lists.specs.Splice.{splice}
use Rattle.endian.proofs.read.fill.Given as goal

abbrev pub invariant-loop-i : goal.invariant-loop-i
invariant-loop-i g l = let n = g.T.Number in
    l.into ≡ splice l.initial.into 0 (list_below l.i (λ j. n.value_of l.big (take n.WIDTH (drop (l.at + n.WIDTH * j) l.s))))
