-- The sum is that of the cells passed.
use mathlib.Core.Path.{◌≡◌}
use Rattle.lists.specs.Below.{sum_below}
use Rattle.endian.specs.Signed.{natural}
use Rattle.format.specs.Meta2.{value_index}
use Rattle.format.specs.Record.{cell}
use Rattle.reads.proofs.total_of.Given as goal

abbrev pub invariant-loop-k : goal.invariant-loop-k
invariant-loop-k l = (l.sum ≡ sum_below l.k (λ j. natural (cell l.table (value_index l.n j l.i))))
