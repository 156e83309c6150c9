-- META2's start and length add up to a small number.
use native.Mathlib.Omega.{arith}
use Rattle.format.specs.Layout.{meta2_end}
use Rattle.format.proofs.Chunks.{meta2_end_small}
use Rattle.layout.proofs.Layout.meta2_end.Goals as goal

pub overflow_add-result : goal.overflow_add-result
unfolding meta2_end
overflow_add-result c =
    let p = c.args.self.now.sound in
    omega (arith, meta2_end_small p c.args.maxchunks c.requires)

pub returns : goal.returns
unfolding meta2_end
returns c = rw (c.meta2_length.ensures, c.meta2_start.ensures)
