-- The answer by cases of what `test_read` says.
use mathlib.Core.Path.{◌≡◌, sym, ap, ◌∙◌}
use Prim.Native.Nat.{ℕ}
use borrow.Author.Rules.{rules}
use Rattle.std.specs.Prelude.{Err}
use Rattle.std.proofs.lemmas.Result.{err_from_is_err_and}
use Rattle.format.specs.declared.refusal.Refusal.{Refusal}
use Rattle.format.specs.Refusals.{number_of, first_failing}
use Rattle.format.specs.Answers.{byte_count}
use Rattle.format.specs.Reads.{Container, read_tests, total_of, total_answer}
use Rattle.format.proofs.Refusals.{some_number, when_accepted, when_refused}
use Rattle.format.proofs.Readable.{readable, read_file}
use Rattle.format.proofs.Stream.{counted}
use Rattle.reads.proofs.total.Goals as goal

refused : (c : Container) (task : ℕ) (refusal : Refusal)
    → number_of refusal ≡ first_failing (read_tests c task)
    → byte_count (Err refusal) ≡ total_answer c task
unfolding total_answer
refused c task refusal e = rw (← e) (sym (when_refused _ _ _ (some_number refusal)))

accepted : (c : Container) (task bytes : ℕ) → 0 ≡ first_failing (read_tests c task) → bytes ≡ total_of c task → counted 0 bytes ≡ total_answer c task
unfolding total_answer
accepted c task bytes e t = ap (counted 0) t ∙ sym (when_accepted _ _ _ (sym e))

pub returns-in_err-test_read : goal.returns-in_err-test_read
returns-in_err-test_read c =
    let p = err_from_is_err_and c.from_residual.result c.from_residual.ensures.1 in
    rw (p.1, p.2) (refused _ _ _ c.in_err-test_read.ensures)

pub total_of-requires : goal.total_of-requires
total_of-requires c =
    let passes = sym c.in_ok-test_read.ensures in
    rw (read_file _ _ passes) (readable _ _ (search rules) passes)

pub returns : goal.returns
returns c =
    let passes = c.in_ok-test_read.ensures in
    accepted _ _ _ passes (rw (read_file _ _ (sym passes)) at c.total_of.ensures)
