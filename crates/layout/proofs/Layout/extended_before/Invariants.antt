-- The loop's invariant: `sum` is what the tasks passed add up to.
use mathlib.Core.Path.{◌≡◌}
use lib.ListN.{get_or}
use Rattle.format.specs.Layout.{extended_before}
use Rattle.layout.proofs.Layout.extended_before.Given as goal

abbrev pub invariant-loop-size : goal.invariant-loop-size
invariant-loop-size l = l.sum ≡ extended_before l.self.blocksize (λ k. get_or l.self.sizes.now k 0) l.size-index
