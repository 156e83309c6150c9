-- Before each turn the first k chunks are stored, one after the other, and `place` is where they end.
use Rattle.lists.proofs.Stores.{Run}
use Rattle.format.specs.Record.{file_in}
use Rattle.format.specs.Reads.{container_of}
use Rattle.packing_stores.proofs.Runs.{before}
use Rattle.packing_stores.proofs.put_stream.Given as goal

abbrev pub invariant-loop-k : goal.invariant-loop-k
invariant-loop-k l =
    Run l.budget l.initial.second l.at (before (container_of (file_in l.l.head) l.l l.lists l.image l.table) l.task l.k) l.second l.place l.left
