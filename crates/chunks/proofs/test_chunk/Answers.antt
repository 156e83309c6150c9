-- The tests of a read, and then that of the chunk.
use mathlib.Core.Path.{sym}
use native.Mathlib.Omega.{arith}
use borrow.Author.Rules.{rules}
use Rattle.std.proofs.lemmas.Result.{err_from_is_err_and}
use Rattle.format.specs.Reads.{chunks_used, chunk_refusal}
use Rattle.format.proofs.Readable.{read_numbered, readable, read_sound}
use Rattle.chunks.proofs.Testing.{first_refuses, next_answers}
use Rattle.chunks.proofs.test_chunk.Goals as goal

pub returns-in_err-test_read : goal.returns-in_err-test_read
unfolding chunk_refusal
returns-in_err-test_read c =
    let p = err_from_is_err_and c.from_residual.result c.from_residual.ensures.1 in
    rw (p.1, p.2) (first_refuses _ _ _ c.in_err-test_read.ensures)

pub test_used-requires : goal.test_used-requires
test_used-requires c =
    let r = readable _ _ (search rules) (sym c.in_ok-test_read.ensures) in
    (r.first_task, omega (arith, r.last_task, (read_sound r).tasks))

pub returns : goal.returns
unfolding chunk_refusal chunks_used
returns c = next_answers _ _ (read_numbered _ _) c.in_ok-test_read.ensures c.test_used.ensures
