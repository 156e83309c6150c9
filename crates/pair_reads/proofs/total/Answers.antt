-- The total in the file that has the rank.
use mathlib.Core.Path.{◌≡◌, sym, ap, ◌∙◌}
use Prim.Native.Nat.{ℕ}
use Rattle.std.specs.Prelude.{Err}
use Rattle.std.proofs.lemmas.Result.{err_from_is_err_and}
use Rattle.format.specs.declared.refusal.Refusal.{Refusal}
use Rattle.format.specs.Refusals.{number_of, first_failing}
use Rattle.format.specs.Answers.{byte_count}
use Rattle.format.specs.Reads.{total_of}
use Rattle.format.proofs.Refusals.{some_number, when_accepted, when_refused}
use Rattle.format.proofs.Stream.{counted}
use Rattle.pairs.specs.Reads.{LoadedPair, file_there, task_there, pair_read_tests, pair_total}
use Rattle.pair_reads.proofs.Finding.{there}
use Rattle.pair_reads.proofs.total.Goals as goal

refused : (p : LoadedPair) (rank : ℕ) (refusal : Refusal)
    → number_of refusal ≡ first_failing (pair_read_tests p rank)
    → byte_count (Err refusal) ≡ pair_total p rank
unfolding pair_total
refused p rank refusal e = rw (← e) (sym (when_refused _ _ _ (some_number refusal)))

accepted : (p : LoadedPair) (rank bytes : ℕ)
    → 0 ≡ first_failing (pair_read_tests p rank)
    → bytes ≡ total_of (file_there p rank) (task_there p rank)
    → counted 0 bytes ≡ pair_total p rank
unfolding pair_total
accepted p rank bytes e t = ap (counted 0) t ∙ sym (when_accepted _ _ _ (sym e))

pub returns-in_err-c : goal.returns-in_err-c
returns-in_err-c c =
    let p = err_from_is_err_and c.from_residual.result c.from_residual.ensures.1 in
    rw (p.1, p.2) (refused _ _ _ c.in_err-c.ensures.value)

pub returns : goal.returns
returns c =
    let found = c.in_ok-c.ensures.found in
    accepted _ _ _ c.in_ok-c.ensures.value (c.total_of.ensures ∙ there found total_of)
