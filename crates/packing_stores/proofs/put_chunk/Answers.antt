-- The stream, and zeros from where it ends.
use Rattle.format.specs.Record.{file_in}
use Rattle.format.specs.Reads.{container_of, stream_of, total_of}
use Rattle.format.proofs.Stream.{stream_length}
use Rattle.packing_stores.proofs.Runs.{then_zeros}
use Rattle.packing_stores.proofs.put_chunk.Goals as goal

pub returns : goal.returns
returns c =
    let a = c.args in
    let g = container_of (file_in a.l.head) a.l a.lists.now a.image.now a.table.now in
    then_zeros (stream_of g a.task) (total_of g a.task) a.holds c.total_of-total.ensures (stream_length g a.task c.requires.readable)
    c.requires.task_bound.0 c.requires.task_bound.1 c.put_stream-left.ensures c.put_zeros.ensures
