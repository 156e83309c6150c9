-- Refused, nothing is stored; accepted, what the definitions of closing say.
use mathlib.Core.Path.{◌≡◌, sym, ap, ◌∙◌}
use Prim.Native.Nat.{ℕ, ◌<◌}
use native.Mathlib.Omega.{arith}
use Rattle.std.proofs.lemmas.Result.{err_from_is_err_and}
use Rattle.format.specs.declared.head.File.TheVariants.{Single}
use Rattle.format.specs.Record.{size_of, end_at}
use Rattle.format.specs.Refusals.{first_failing}
use Rattle.format.specs.Passed.{Passed}
use Rattle.format.proofs.Passing.{head_tasks, passed_fits, passed_used}
use Rattle.format.proofs.Refusals.{when_accepted, when_refused, some_number}
use Rattle.format.specs.Session.{State, state_of, session_tests, as_closed}
use Rattle.format.specs.Close.{maxchunks_used, close_refusal, closing_stores, close_answer}
use Rattle.lists.specs.Stores.{found}
use Rattle.format.proofs.Storing.{closed_found, refused_close_found}
use Rattle.format.proofs.Sessions.{session_passed}
use Rattle.closing.proofs.close_within.Goals as goal
use Rattle.closing.proofs.close_within.Goals.{Start}

abbrev lent : Start → State
lent s = let a = s.args in state_of Single a.s a.lists.now a.image.now a.table.now

-- what an accepted session gives of its chunks in use
used : (s : Start) → 0 ≡ first_failing (session_tests (lent s))
    → Passed s.args.s.head s.args.lists.now (maxchunks_used (lent s)) s.args.image.now s.args.table.now
used s passes = passed_used (session_passed _ (sym passes))

pub returns-in_err-test_session-clause-value : goal.returns-in_err-test_session-clause-value
unfolding close_answer close_refusal
returns-in_err-test_session-clause-value c =
    let s : Start = (goal.at.returns-in_err-test_session-clause-value c).Start in
    let p = err_from_is_err_and c.from_residual.result c.from_residual.ensures.1 in
    let e = c.in_err-test_session.ensures in
    let some : 0 < close_refusal (lent s) = omega (arith, e, some_number c.in_err-test_session.field-0.0) in
    rw (p.1, p.2) (ap (λ (n : ℕ). record { refusal = n; session = c.args.s; length = 0 }) e ∙ sym (when_refused (close_refusal (lent s)) _ _ some))

pub returns-in_err-test_session-clause-image_after : goal.returns-in_err-test_session-clause-image_after
unfolding close_refusal
returns-in_err-test_session-clause-image_after c =
    let s : Start = (goal.at.returns-in_err-test_session-clause-image_after c).Start in
    let some : 0 < close_refusal (lent s) = omega (arith, c.in_err-test_session.ensures, some_number c.in_err-test_session.field-0.0) in
    sym (refused_close_found (lent s) some c.args.budget)

pub most_chunks-maxchunks-requires : goal.most_chunks-maxchunks-requires
most_chunks-maxchunks-requires c =
    let s : Start = (goal.at.most_chunks-maxchunks-requires c).Start in
    (head_tasks _ _ (used s c.in_ok-test_session.ensures).head).1

pub overflow_cast-maxchunks : goal.overflow_cast-maxchunks
overflow_cast-maxchunks c =
    let s : Start = (goal.at.overflow_cast-maxchunks c).Start in
    omega (arith, (used s c.in_ok-test_session.ensures).few, c.most_chunks-maxchunks.ensures)

pub finish-length-requires : goal.finish-length-requires
finish-length-requires c =
    let s : Start = (goal.at.finish-length-requires c).Start in
    rw c.most_chunks-maxchunks.ensures (passed_fits (used s c.in_ok-test_session.ensures) c.told-lists)

pub returns-clause-value : goal.returns-clause-value
unfolding close_answer close_refusal
returns-clause-value c =
    let s : Start = (goal.at.returns-clause-value c).Start in
    let most = c.most_chunks-maxchunks.ensures in
    ap (λ (l : ℕ). record { refusal = 0; session = as_closed c.args.s; length = l })
    (c.finish-length.ensures.value ∙ ap (end_at c.args.s.head (size_of c.args.lists.now)) most)
    ∙ sym (when_accepted (close_refusal (lent s)) _ _ (sym c.in_ok-test_session.ensures))

pub returns-clause-image_after : goal.returns-clause-image_after
unfolding close_refusal
returns-clause-image_after c =
    let s : Start = (goal.at.returns-clause-image_after c).Start in
    let a = c.args in
    let most = c.most_chunks-maxchunks.ensures in
    c.finish-length.ensures.image_after ∙ ap (λ (m : ℕ). found a.budget a.image.now (closing_stores a.s.head a.lists.now m a.table.now)) most
    ∙ sym (closed_found (lent s) (sym c.in_ok-test_session.ensures) a.budget)
