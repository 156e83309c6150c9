use Prim.Native.Nat.{◌+◌}
use native.Mathlib.Omega.{arith}
use borrow.Author.Tests.{le-leb, lt-leb}
use Rattle.writing.specs.Writing.{next_chunk}
use Rattle.writing.proofs.next_chunk.Goals as goal

pub returns-then-planned-begun : goal.returns-then-planned-begun
unfolding next_chunk
returns-then-planned-begun c = rw (lt-leb (c.args.begun + 1) c.args.planned (omega arith))

pub returns : goal.returns
unfolding next_chunk
returns c = rw (le-leb (c.args.begun + 1) c.args.planned (omega arith))
