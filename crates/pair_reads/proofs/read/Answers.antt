-- The answer by cases of what the tests and the total say, and the copy from the file that has the rank.
use mathlib.Core.Path.{◌≡◌, sym, ap, ◌∙◌}
use mathlib.Core.List.{List}
use Prim.Native.Nat.{ℕ, ◌-◌, ◌<◌, ◌≤◌, min}
use native.Mathlib.Omega.{arith}
use lib.ListN.{length, take, drop}
use borrow.Author.Tests.{lt-ltb, le-ltb}
use Rattle.std.specs.Prelude.{Err}
use Rattle.std.proofs.lemmas.Result.{err_from_is_err_and}
use Rattle.lists.specs.Splice.{splice}
use Rattle.format.specs.declared.refusal.Refusal.{Refusal}
use Rattle.format.specs.declared.refusal.Refusal.TheVariants.{PastTotal}
use Rattle.format.specs.Refusals.{number_of, first_failing}
use Rattle.format.specs.Answers.{byte_count}
use Rattle.format.specs.Reads.{Container, stream_of, total_of}
use Rattle.format.proofs.Refusals.{some_number, first_passes, when_accepted, when_refused}
use Rattle.format.proofs.Stream.{counted}
use Rattle.pairs.specs.Reads.{LoadedPair, file_there, task_there, pair_read_tests, pair_read_refusal, pair_read_answer, pair_read_output}
use Rattle.chunks.proofs.Testing.{first_refuses}
use Rattle.pair_reads.specs.Found.{Found}
use Rattle.pair_reads.proofs.Finding.{pair_read_numbered, there}
use Rattle.pair_reads.proofs.read.Goals as goal

-- the number by cases
module _ (p : LoadedPair) (rank place : ℕ) where
  tests_fail : (refusal : Refusal) → number_of refusal ≡ first_failing (pair_read_tests p rank) → number_of refusal ≡ pair_read_refusal p rank place
  unfolding pair_read_refusal
  tests_fail refusal e = first_refuses _ _ refusal e

  -- the answer and the output
  refused : (out : List ℕ) (refusal : Refusal)
      → number_of refusal ≡ pair_read_refusal p rank place
      → (byte_count (Err refusal) ≡ pair_read_answer p rank place out) × (out ≡ pair_read_output p rank place out)
  unfolding pair_read_answer pair_read_output
  refused out refusal e =
      rw (← e) (sym (when_refused _ _ _ (some_number refusal)), sym (when_refused (number_of refusal) _ _ (some_number refusal)))

  module _ (passes : 0 ≡ first_failing (pair_read_tests p rank)) {file : ℕ} {c : Container} {task : ℕ} (found : Found p rank file c task) where
    past_total : {t : ℕ} → t ≡ total_of c task → t < place → 23 ≡ pair_read_refusal p rank place
    unfolding pair_read_refusal first_failing
    past_total s l =
        sym (first_passes (pair_read_tests p rank) _ (pair_read_numbered p rank) (sym passes)
        ∙ rw (lt-ltb (total_of (file_there p rank) (task_there p rank)) place (omega (arith, there found total_of))))

    in_total : {t : ℕ} → t ≡ total_of c task → place ≤ t → pair_read_refusal p rank place ≡ 0
    unfolding pair_read_refusal first_failing
    in_total s l =
        first_passes (pair_read_tests p rank) _ (pair_read_numbered p rank) (sym passes)
        ∙ rw (le-ltb (total_of (file_there p rank) (task_there p rank)) place (omega (arith, there found total_of)))

    accepted : (out filled : List ℕ) (bytes : ℕ)
        → pair_read_refusal p rank place ≡ 0
        → filled ≡ splice out 0 (take (length out) (drop place (stream_of c task)))
        → bytes ≡ min (length out) (total_of c task - place)
        → (counted 0 bytes ≡ pair_read_answer p rank place out) × (filled ≡ pair_read_output p rank place out)
    unfolding pair_read_answer pair_read_output
    accepted out filled bytes e f g = (
      ap (counted 0) (g ∙ there found (λ k t. min (length out) (total_of k t - place))) ∙ sym (when_accepted _ _ _ e),
      f ∙ there found (λ k t. splice out 0 (take (length out) (drop place (stream_of k t)))) ∙ sym (when_accepted _ _ _ e),
    )

pub returns-in_err-c : goal.returns-in_err-c
returns-in_err-c c =
    let p = err_from_is_err_and c.from_residual.result c.from_residual.ensures.1 in
    let r = refused _ _ c.args.p c.args.out.now _ (tests_fail _ _ _ _ c.in_err-c.ensures.value) in
    record { value = rw (p.1, p.2) r.0; out_after = r.1; in_bounds = rw p.1 tt }

pub returns-then-total_of-p : goal.returns-then-total_of-p
returns-then-total_of-p c =
    let held = c.in_ok-c.ensures in
    let r = refused _ _ c.args.p c.args.out.now PastTotal (past_total _ _ _ held.value held.found c.total_of.ensures c.if-total_of-p.true) in
    record { value = r.0; out_after = r.1; in_bounds = tt }

pub returns : goal.returns
returns c =
    let held = c.in_ok-c.ensures in
    let copied = c.copy_stream.ensures in
    let inside = in_total _ _ _ held.value held.found c.total_of.ensures c.if-total_of-p.false in
    let r = accepted _ _ _ held.value held.found _ _ _ inside copied.out_after copied.value in
    record { value = r.0; out_after = r.1; in_bounds = omega (arith, copied.value) }
