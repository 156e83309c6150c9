-- Refused by the session's tests, nothing changes; else it is the request's.
use mathlib.Core.Path.{◌≡◌, sym, ◌∙◌}
use Prim.Native.Nat.{◌<◌}
use native.Mathlib.Omega.{arith}
use Rattle.std.proofs.lemmas.Result.{err_from_is_err_and}
use Rattle.format.specs.declared.head.File.TheVariants.{Single}
use Rattle.format.specs.Record.{file_in}
use Rattle.format.specs.Refusals.{first_failing}
use Rattle.format.proofs.Refusals.{first_fails, some_number}
use Rattle.format.specs.Session.{State, state_of, session_tests}
use Rattle.format.specs.Write.{Request, request_of, request_tests, write_refusal}
use Rattle.format.proofs.Sessions.{session_file}
use Rattle.format.proofs.Storing.{refused_write_found}
use Rattle.writing.proofs.write_within.Goals as goal
use Rattle.writing.proofs.write_within.Goals.{Start}

-- the session and the request
abbrev lent : Start → State
lent s = let a = s.args in state_of Single a.s a.lists.now a.image.now a.table.now

abbrev asked : Start → Request
asked s = request_of s.args.task s.args.bytes.now

-- refused by the session's tests
number : (s : Start) → 0 < first_failing (session_tests (lent s)) → write_refusal (lent s) (asked s) ≡ first_failing (session_tests (lent s))
unfolding write_refusal
number s some = first_fails (session_tests (lent s)) (request_tests (lent s) (asked s)) some

-- the file that the record says
own : (s : Start) → 0 ≡ first_failing (session_tests (lent s)) → file_in s.args.s.head ≡ Single
own s passes = session_file (lent s) (sym passes)

pub returns-in_err-test_session-clause-value : goal.returns-in_err-test_session-clause-value
returns-in_err-test_session-clause-value c =
    let s : Start = (goal.at.returns-in_err-test_session-clause-value c).Start in
    let p = err_from_is_err_and c.from_residual.result c.from_residual.ensures.1 in
    let e = c.in_err-test_session.ensures in
    rw (p.1, p.2) (e ∙ sym (number s (omega (arith, e, some_number c.in_err-test_session.field-0.0))))

pub returns-in_err-test_session-clause-table_after : goal.returns-in_err-test_session-clause-table_after
returns-in_err-test_session-clause-table_after c =
    let s : Start = (goal.at.returns-in_err-test_session-clause-table_after c).Start in
    let e = c.in_err-test_session.ensures in
    let some : 0 < first_failing (session_tests (lent s)) = omega (arith, e, some_number c.in_err-test_session.field-0.0) in
    sym (refused_write_found (lent s) (asked s) c.args.budget (omega (arith, number s some, some)))

pub request-requires : goal.request-requires
request-requires c =
    let s : Start = (goal.at.request-requires c).Start in
    rw (own s c.in_ok-test_session.ensures) (sym c.in_ok-test_session.ensures)

pub returns-clause-value : goal.returns-clause-value
returns-clause-value c =
    let s : Start = (goal.at.returns-clause-value c).Start in
    (rw (own s c.in_ok-test_session.ensures) at c.request.ensures).value

pub returns-clause-table_after : goal.returns-clause-table_after
returns-clause-table_after c =
    let s : Start = (goal.at.returns-clause-table_after c).Start in
    (rw (own s c.in_ok-test_session.ensures) at c.request.ensures).table_after
