-- The tests of the pair, and then that of the chunk in the file that has the rank.
use Rattle.std.proofs.lemmas.Result.{err_from_is_err_and}
use Rattle.pairs.specs.Reads.{pair_chunk_refusal}
use Rattle.chunks.proofs.Testing.{first_refuses}
use Rattle.pair_reads.proofs.Finding.{is_task, chunk_tested}
use Rattle.pair_reads.proofs.test_chunk.Goals as goal

pub returns-in_err-c : goal.returns-in_err-c
unfolding pair_chunk_refusal
returns-in_err-c c =
    let p = err_from_is_err_and c.from_residual.result c.from_residual.ensures.1 in
    rw (p.1, p.2) (first_refuses _ _ _ c.in_err-c.ensures.value)

pub test_used-requires : goal.test_used-requires
test_used-requires c = is_task c.in_ok-c.ensures.found

pub returns : goal.returns
returns c = chunk_tested c.in_ok-c.ensures.found c.args.chunk c.in_ok-c.ensures.value c.test_used.ensures
