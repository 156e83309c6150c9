-- Before each turn the chunks of the first i tasks are stored, one after the other, and `place` is where they end.
use Rattle.lists.specs.Below.{join_below}
use Rattle.lists.proofs.Stores.{Run}
use Rattle.format.specs.Layout.{data_start}
use Rattle.format.specs.Record.{file_in}
use Rattle.format.specs.Reads.{container_of}
use Rattle.packs.specs.Pack.{packed_chunk}
use Rattle.packing_stores.proofs.put_chunks.Given as goal

abbrev pub invariant-loop-i : goal.invariant-loop-i
invariant-loop-i l =
    Run l.budget l.initial.second (data_start l.blocksize l.n)
    (join_below l.i (packed_chunk (container_of (file_in l.l.head) l.l l.lists l.image l.table))) l.second l.place l.left
