-- Before each turn out is filled from the first k chunks, one after the other; once it is full, the chunks that are left change nothing.
use mathlib.Core.List.{List}
use Prim.Native.Nat.{ℕ, ◌+◌}
use Rattle.lists.specs.Below.{join_below}
use Rattle.format.specs.Record.{file_in}
use Rattle.format.specs.Reads.{Container, container_of, chunk_bytes}
use Rattle.lists.proofs.Copies.{Copied}
use Rattle.reads.proofs.copy_stream.Given as goal

-- the bytes of the first k chunks
abbrev pub before : Container → ℕ → ℕ → List ℕ
before c task k = join_below k (λ j. chunk_bytes c task (j + 1))

abbrev pub invariant-loop-k : goal.invariant-loop-k
invariant-loop-k l =
    Copied l.initial.out (before (container_of (file_in l.l.head) l.l l.lists l.image l.table) l.task l.k) l.p l.out l.skip l.done
