-- The answer by cases of what `test_loaded` says.
use mathlib.Core.Path.{◌≡◌, sym, ap, ◌∙◌}
use Prim.Native.Nat.{ℕ}
use borrow.Author.Rules.{rules}
use Rattle.std.specs.Prelude.{Err}
use Rattle.std.proofs.lemmas.Result.{err_from_is_err_and}
use Rattle.format.specs.declared.refusal.Refusal.{Refusal}
use Rattle.format.specs.Refusals.{number_of, first_failing}
use Rattle.format.specs.Answers.{byte_count}
use Rattle.format.specs.Record.{size_of, end_at}
use Rattle.format.specs.Reads.{Container, loaded_tests}
use Rattle.format.specs.About.{whole_refusal, length_answer}
use Rattle.format.proofs.Refusals.{some_number, when_accepted, when_refused}
use Rattle.format.proofs.Passing.{passed_sound}
use Rattle.format.proofs.LoadedRecords.{loaded_passed}
use Rattle.format.proofs.Stream.{counted}
use Rattle.about.proofs.whole_length.Goals as goal

refused : (c : Container) (refusal : Refusal)
    → number_of refusal ≡ first_failing (loaded_tests c)
    → byte_count (Err refusal) ≡ length_answer c
unfolding length_answer whole_refusal
refused c refusal e = rw (← e) (sym (when_refused _ _ _ (some_number refusal)))

accepted : (c : Container) (bytes : ℕ)
    → 0 ≡ first_failing (loaded_tests c)
    → bytes ≡ end_at c.loaded.head (size_of c.lists) c.loaded.maxchunks
    → counted 0 bytes ≡ length_answer c
unfolding length_answer whole_refusal
accepted c bytes e t = ap (counted 0) t ∙ sym (when_accepted _ _ _ (sym e))

pub returns-in_err-test_loaded : goal.returns-in_err-test_loaded
returns-in_err-test_loaded c =
    let p = err_from_is_err_and c.from_residual.result c.from_residual.ensures.1 in
    rw (p.1, p.2) (refused _ _ c.in_err-test_loaded.ensures)

pub of-requires : goal.of-requires
of-requires c = passed_sound (loaded_passed _ (sym c.in_ok-test_loaded.ensures)) (search rules)

pub meta2_end-requires : goal.meta2_end-requires
meta2_end-requires c = (loaded_passed _ (sym c.in_ok-test_loaded.ensures)).few

pub returns : goal.returns
unfolding end_at
returns c =
    let l = c.of.ensures in
    accepted _ _ c.in_ok-test_loaded.ensures (rw (l.n, l.blocksize, l.sizes) at c.meta2_end.ensures)
