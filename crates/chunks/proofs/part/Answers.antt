-- Where the bytes of a chunk that the tests allow lie.
use mathlib.Core.Path.{◌≡◌, sym, ◌∙◌}
use Rattle.std.specs.Prelude.{Err}
use Prim.Native.Nat.{ℕ}
use borrow.Author.Rules.{rules}
use Rattle.std.proofs.lemmas.Result.{err_from_is_err_and}
use Rattle.format.specs.Refusals.{number_of}
use Rattle.format.specs.declared.refusal.Refusal.{Refusal}
use Rattle.format.specs.Answers.{part_of}
use Rattle.format.specs.Reads.{Container, chunk_refusal, part_answer}
use Rattle.format.proofs.Refusals.{some_number, when_accepted, when_refused}
use Rattle.format.proofs.Readable.{chunk_readable, chunk_file}
use Rattle.chunks.proofs.part.Goals as goal

refused : (k : Container) (task chunk : ℕ) (refusal : Refusal)
    → number_of refusal ≡ chunk_refusal k task chunk
    → part_of (Err refusal) ≡ part_answer k task chunk
unfolding part_answer
refused k task chunk refusal e = rw (← e) (sym (when_refused _ _ _ (some_number refusal)))

pub returns-in_err-test_chunk-clause-value : goal.returns-in_err-test_chunk-clause-value
returns-in_err-test_chunk-clause-value c =
    let p = err_from_is_err_and c.from_residual.result c.from_residual.ensures.1 in
    rw (p.1, p.2) (refused _ _ _ _ c.in_err-test_chunk.ensures)

pub place_of-requires-clause-readable : goal.place_of-requires-clause-readable
place_of-requires-clause-readable c =
    let passes = sym c.in_ok-test_chunk.ensures in
    rw (chunk_file _ _ _ passes) (chunk_readable _ _ (search rules) _ passes).0

pub place_of-requires-clause-le_chunk : goal.place_of-requires-clause-le_chunk
place_of-requires-clause-le_chunk c =
    let passes = sym c.in_ok-test_chunk.ensures in
    rw (chunk_file _ _ _ passes) (chunk_readable _ _ (search rules) _ passes).1

pub returns-clause-value : goal.returns-clause-value
unfolding part_answer
returns-clause-value c =
    let passes = sym c.in_ok-test_chunk.ensures in
    let place = rw (chunk_file _ _ _ passes) at c.place_of.ensures in
    place.value ∙ sym (when_accepted _ _ _ passes)
