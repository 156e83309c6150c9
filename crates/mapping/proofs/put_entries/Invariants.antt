-- The loop's invariant: the entries of the ranks passed stand one after the other.
use mathlib.Core.Path.{◌≡◌}
use lib.Dec.{ltb}
use lib.ListN.{length}
use Rattle.lists.specs.Below.{join_below}
use Rattle.lists.specs.Splice.{splice}
use Rattle.format.specs.Record.{entry}
use Rattle.mapping.specs.Entries.{task_in, entry_bytes}
use Rattle.mapping.proofs.put_entries.Given as goal

abbrev pub invariant-loop-r : goal.invariant-loop-r
invariant-loop-r l =
    (length l.bytes ≡ length l.initial.bytes)
    × (l.bytes ≡ splice l.initial.bytes 4 (join_below l.r (λ r. entry_bytes l.big (ltb l.n (entry l.holders r)) (task_in l.n (entry l.holders r)))))
