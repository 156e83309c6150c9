-- The start of the data and the rounds of chunks are each small.
use native.Mathlib.Omega.{arith}
use Rattle.format.specs.Layout.{meta2_start}
use Rattle.format.proofs.Bounds.{data_start_small, rounds_small}
use Rattle.layout.proofs.Layout.meta2_start.Goals as goal

pub overflow_mul-result : goal.overflow_mul-result
overflow_mul-result c =
    let p = c.args.self.now.sound in
    rw c.global_skip.ensures (omega (arith, rounds_small p c.args.maxchunks c.requires))

pub overflow_add-result : goal.overflow_add-result
overflow_add-result c =
    let p = c.args.self.now.sound in
    let a = c.args in
    rw c.global_skip.ensures
    (omega (arith, data_start_small a.self.now.blocksize a.self.now.n p.block p.tasks, rounds_small p a.maxchunks c.requires))

pub returns : goal.returns
unfolding meta2_start
returns c = rw (c.global_skip.ensures, c.data_start.ensures)
