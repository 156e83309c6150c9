-- The answer by cases of what `test_read` and `total_of` say.
use mathlib.Core.Path.{◌≡◌, sym, ap, ◌∙◌}
use mathlib.Core.List.{List}
use Prim.Native.Nat.{ℕ, ◌-◌, ◌<◌, ◌≤◌, min}
use native.Mathlib.Omega.{arith}
use lib.ListN.{length, take, drop}
use borrow.Author.Rules.{rules}
use borrow.Author.Tests.{lt-ltb, le-ltb}
use Rattle.std.specs.Prelude.{Err}
use Rattle.std.proofs.lemmas.Result.{err_from_is_err_and}
use Rattle.lists.specs.Splice.{splice}
use Rattle.format.specs.declared.refusal.Refusal.{Refusal}
use Rattle.format.specs.declared.refusal.Refusal.TheVariants.{PastTotal}
use Rattle.format.specs.Refusals.{number_of, first_failing}
use Rattle.format.specs.Answers.{byte_count}
use Rattle.format.specs.Reads.{Container, read_tests, stream_of, total_of, read_refusal, read_answer, read_output}
use Rattle.format.proofs.Refusals.{some_number, first_passes, when_accepted, when_refused}
use Rattle.format.proofs.Readable.{read_numbered, readable, read_file}
use Rattle.format.proofs.Stream.{counted}
use Rattle.chunks.proofs.Testing.{first_refuses}
use Rattle.reads.proofs.read.Goals as goal

-- the number by cases
module _ (c : Container) (task p : ℕ) where
  tests_fail : (refusal : Refusal) → number_of refusal ≡ first_failing (read_tests c task) → number_of refusal ≡ read_refusal c task p
  unfolding read_refusal
  tests_fail refusal e = first_refuses _ _ refusal e

  past_total : {t : ℕ} → 0 ≡ first_failing (read_tests c task) → t ≡ total_of c task → t < p → 23 ≡ read_refusal c task p
  unfolding read_refusal first_failing
  past_total e s l = sym (first_passes (read_tests c task) _ (read_numbered c task) (sym e) ∙ rw (lt-ltb (total_of c task) p (omega arith)))

  in_total : {t : ℕ} → 0 ≡ first_failing (read_tests c task) → t ≡ total_of c task → p ≤ t → read_refusal c task p ≡ 0
  unfolding read_refusal first_failing
  in_total e s l = first_passes (read_tests c task) _ (read_numbered c task) (sym e) ∙ rw (le-ltb (total_of c task) p (omega arith))

  -- the answer and the output
  refused : (out : List ℕ) (refusal : Refusal)
      → number_of refusal ≡ read_refusal c task p
      → (byte_count (Err refusal) ≡ read_answer c task p out) × (out ≡ read_output c task p out)
  unfolding read_answer read_output
  refused out refusal e =
      rw (← e) (sym (when_refused _ _ _ (some_number refusal)), sym (when_refused (number_of refusal) _ _ (some_number refusal)))

  accepted : (out filled : List ℕ) (bytes : ℕ)
      → read_refusal c task p ≡ 0
      → filled ≡ splice out 0 (take (length out) (drop p (stream_of c task)))
      → bytes ≡ min (length out) (total_of c task - p)
      → (counted 0 bytes ≡ read_answer c task p out) × (filled ≡ read_output c task p out)
  unfolding read_answer read_output
  accepted out filled bytes e f g = (ap (counted 0) g ∙ sym (when_accepted _ _ _ e), f ∙ sym (when_accepted _ _ _ e))

pub returns-in_err-test_read : goal.returns-in_err-test_read
returns-in_err-test_read c =
    let p = err_from_is_err_and c.from_residual.result c.from_residual.ensures.1 in
    let r = refused _ _ c.args.p c.args.out.now _ (tests_fail _ _ _ _ c.in_err-test_read.ensures) in
    record { value = rw (p.1, p.2) r.0; out_after = r.1; in_bounds = rw p.1 tt }

pub total_of-requires : goal.total_of-requires
total_of-requires c =
    let passes = sym c.in_ok-test_read.ensures in
    rw (read_file _ _ passes) (readable _ _ (search rules) passes)

pub returns-then-total_of-p : goal.returns-then-total_of-p
returns-then-total_of-p c =
    let passes = c.in_ok-test_read.ensures in
    let total = rw (read_file _ _ (sym passes)) at c.total_of.ensures in
    let r = refused _ _ c.args.p c.args.out.now PastTotal (past_total _ _ _ passes total c.if-total_of-p.true) in
    record { value = r.0; out_after = r.1; in_bounds = tt }

pub copy_stream-requires : goal.copy_stream-requires
copy_stream-requires c =
    let passes = sym c.in_ok-test_read.ensures in
    rw (read_file _ _ passes) (readable _ _ (search rules) passes)

pub returns : goal.returns
returns c =
    let passes = c.in_ok-test_read.ensures in
    let own = read_file _ _ (sym passes) in
    let total = rw own at c.total_of.ensures in
    let copied = c.copy_stream.ensures in
    let r = accepted _ _ _ _ _ _ (in_total _ _ _ passes total c.if-total_of-p.false) (rw own at copied.out_after) (rw own at copied.value) in
    record { value = r.0; out_after = r.1; in_bounds = omega (arith, copied.value) }
