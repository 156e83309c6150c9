-- The field of the prefix lies within META1, and so within the image.
use mathlib.Core.Path.{◌≡◌, sym, ap, ◌∙◌}
use Prim.Native.Nat.{ℕ, ◌+◌, ◌≤◌}
use native.Mathlib.Omega.{arith}
use lib.ListN.{length}
use Rattle.std.specs.Prelude.{Err}
use Rattle.std.proofs.lemmas.Result.{err_from_is_err_and}
use Rattle.format.specs.declared.refusal.Refusal.{Refusal}
use Rattle.format.specs.Refusals.{number_of, first_failing}
use Rattle.format.specs.Answers.{part_of}
use Rattle.format.specs.Layout.{meta1_end, meta2_start, meta2_end}
use Rattle.format.specs.Record.{end_at}
use Rattle.format.specs.Meta1.{prefix_at, prefix_length}
use Rattle.format.specs.Reads.{Container, loaded_tests}
use Rattle.format.specs.About.{whole_refusal, prefix_answer}
use Rattle.format.proofs.Refusals.{some_number, when_accepted, when_refused}
use Rattle.format.proofs.Power.{blocksize_facts}
use Rattle.format.proofs.Chunks.{meta1_before_data}
use Rattle.format.proofs.Passing.{head_block}
use Rattle.format.proofs.LoadedRecords.{loaded_passed}
use Rattle.about.proofs.prefix.Goals as goal

-- the prefix is within an image that the tests allow
inside : (c : Container) → first_failing (loaded_tests c) ≡ 0 → prefix_at + prefix_length ≤ length c.image
unfolding end_at meta2_end meta2_start meta1_end
inside c e =
    let p = loaded_passed c e in
    let block = blocksize_facts c.loaded.head.blocksize (head_block _ _ p.head) in
    omega (arith, p.image_long, meta1_before_data c.loaded.head.blocksize c.loaded.head.n (omega arith))

refused : (c : Container) (refusal : Refusal)
    → number_of refusal ≡ first_failing (loaded_tests c)
    → part_of (Err refusal) ≡ prefix_answer c
unfolding prefix_answer whole_refusal
refused c refusal e = rw (← e) (sym (when_refused _ _ _ (some_number refusal)))

pub slice_bounds-before_zero-end : goal.slice_bounds-before_zero-end
slice_bounds-before_zero-end c = inside _ (sym c.in_ok-test_loaded.ensures)

pub returns-in_err-test_loaded-clause-value : goal.returns-in_err-test_loaded-clause-value
returns-in_err-test_loaded-clause-value c =
    let p = err_from_is_err_and c.from_residual.result c.from_residual.ensures.1 in
    rw (p.1, p.2) (refused _ _ c.in_err-test_loaded.ensures)

pub returns-clause-value : goal.returns-clause-value
unfolding prefix_answer whole_refusal
returns-clause-value c =
    ap (λ (n : ℕ). record { refusal = 0; start = prefix_at; length = n }) c.before_zero-length.ensures.value
    ∙ sym (when_accepted _ _ _ (sym c.in_ok-test_loaded.ensures))

pub returns-clause-length_in_bounds : goal.returns-clause-length_in_bounds
returns-clause-length_in_bounds c =
    let lent = inside _ (sym c.in_ok-test_loaded.ensures) in
    omega (arith, lent, c.before_zero-length.ensures.upper_bound)
