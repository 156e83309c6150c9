-- The start of the data, the tasks before and the rounds before are each small.
use Prim.Native.Nat.{◌-◌}
use native.Mathlib.Omega.{arith}
use Rattle.format.specs.Layout.{chunk_start}
use Rattle.format.proofs.Bounds.{data_start_small, extended_before_small, rounds_small}
use Rattle.layout.proofs.Layout.chunk_start.Goals as goal

pub extended_before-requires : goal.extended_before-requires
extended_before-requires c = omega arith

pub overflow_add-first : goal.overflow_add-first
overflow_add-first c =
    let p = c.args.self.now.sound in
    let a = c.args in
    omega (arith, data_start_small a.self.now.blocksize a.self.now.n p.block p.tasks, extended_before_small p (a.task - 1) (omega arith))

pub overflow_mul-result : goal.overflow_mul-result
overflow_mul-result c =
    let p = c.args.self.now.sound in
    let a = c.args in
    rw c.global_skip.ensures (omega (arith, rounds_small p (a.chunk - 1) (omega arith)))

pub overflow_add-result : goal.overflow_add-result
overflow_add-result c =
    let p = c.args.self.now.sound in
    let a = c.args in
    rw c.global_skip.ensures
    (omega (
      arith,
      data_start_small a.self.now.blocksize a.self.now.n p.block p.tasks,
      extended_before_small p (a.task - 1) (omega arith),
      rounds_small p (a.chunk - 1) (omega arith),
    ))

pub returns : goal.returns
unfolding chunk_start
returns c = rw (c.global_skip.ensures, c.extended_before.ensures, c.data_start.ensures)
