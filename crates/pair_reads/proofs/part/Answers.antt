-- The place in the file that has the rank, where the tests allow the chunk.
use mathlib.Core.Path.{◌≡◌, refl, sym, ◌∙◌}
use Prim.Native.Nat.{ℕ}
use Rattle.std.specs.Prelude.{Ok, Err}
use Rattle.std.proofs.lemmas.Result.{err_from_is_err_and}
use Rattle.format.specs.declared.refusal.Refusal.{Refusal}
use Rattle.format.specs.declared.loaded.Place.{Place}
use Rattle.format.specs.Refusals.{number_of}
use Rattle.format.specs.Answers.{part_of}
use Rattle.format.specs.Reads.{Container, chunk_place}
use Rattle.format.proofs.Refusals.{some_number, when_accepted, when_refused}
use Rattle.pairs.specs.Answers.{pair_part_of}
use Rattle.pairs.specs.Reads.{LoadedPair, pair_chunk_refusal, pair_part}
use Rattle.chunks.proofs.Testing.{first_refuses}
use Rattle.pair_reads.specs.Found.{Found}
use Rattle.pair_reads.proofs.Finding.{there, is_task, chunk_tested, chunk_used}
use Rattle.pair_reads.proofs.part.Goals as goal

refused : (p : LoadedPair) (rank chunk : ℕ) (refusal : Refusal)
    → number_of refusal ≡ pair_chunk_refusal p rank chunk
    → pair_part_of (Err refusal) ≡ pair_part p rank chunk
unfolding pair_part
refused p rank chunk refusal e = rw (← e) (sym (when_refused _ _ _ (some_number refusal)))

accepted : {p : LoadedPair} {rank file : ℕ} {c : Container} {task : ℕ}
    → Found p rank file c task
    → (chunk : ℕ)
    → 0 ≡ pair_chunk_refusal p rank chunk
    → (place : Place)
    → part_of (Ok place) ≡ chunk_place c task chunk
    → pair_part_of (Ok (record { file = file; start = place.start; length = place.length })) ≡ pair_part p rank chunk
unfolding pair_part
accepted found chunk passes place e =
    let is = e ∙ there found (λ f t. chunk_place f t chunk) in
    (λ i. record { refusal = 0; file = found.which i; start = (is i).start; length = (is i).length }) ∙ sym (when_accepted _ _ _ (sym passes))

pub returns-in_err-c-clause-value : goal.returns-in_err-c-clause-value
unfolding pair_chunk_refusal
returns-in_err-c-clause-value c =
    let p = err_from_is_err_and c.from_residual.result c.from_residual.ensures.1 in
    rw (p.1, p.2) (refused _ _ _ _ (first_refuses _ _ _ c.in_err-c.ensures.value))

pub test_used-requires : goal.test_used-requires
test_used-requires c = is_task c.in_ok-c.ensures.found

pub returns-in_err-test_used-clause-value : goal.returns-in_err-test_used-clause-value
returns-in_err-test_used-clause-value c =
    let p = err_from_is_err_and c.from_residual-in_err-test_used.result c.from_residual-in_err-test_used.ensures.1 in
    let held = c.in_ok-c.ensures in
    rw (p.1, p.2) (refused _ _ _ _ (chunk_tested held.found c.args.chunk held.value c.in_err-test_used.ensures))

pub place_of-place-requires-clause-le_chunk : goal.place_of-place-requires-clause-le_chunk
place_of-place-requires-clause-le_chunk c =
    let held = c.in_ok-c.ensures in
    chunk_used held.found c.args.chunk held.value c.in_ok-test_used.ensures refl

pub returns-clause-value : goal.returns-clause-value
returns-clause-value c =
    let held = c.in_ok-c.ensures in
    accepted held.found c.args.chunk (chunk_tested held.found c.args.chunk held.value c.in_ok-test_used.ensures) _ c.place_of-place.ensures.value
