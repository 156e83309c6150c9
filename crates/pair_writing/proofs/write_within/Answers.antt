-- Refused by the pair's tests or for its rank, nothing changes; else it is the request's to the file that has the rank.
use mathlib.Core.Path.{◌≡◌, sym, ap, ◌∙◌}
use mathlib.Core.Bool.{true, false}
use Prim.Native.Nat.{ℕ, ◌-◌, ◌≤◌, ◌<◌}
use native.Mathlib.Omega.{arith}
use Rattle.std.proofs.lemmas.Result.{err_from_is_err_and}
use Rattle.format.specs.declared.head.File.TheVariants.{First, Second}
use Rattle.format.specs.Record.{rank_of, file_in}
use Rattle.format.specs.Refusals.{first_failing}
use Rattle.format.specs.Session.{State, state_of}
use Rattle.format.specs.Write.{Request, request_of}
use Rattle.format.proofs.Passing.{head_tasks}
use Rattle.format.proofs.Refusals.{some_number}
use Rattle.format.proofs.Sessions.{session_file, session_passed}
use Rattle.pairs.specs.Sessions.{Pair, pair_of, size, second?, task_of_rank, pair_tests, pair_write_refusal}
use Rattle.pairs.proofs.Records.{pair_passed}
use Rattle.ranks.specs.Holders.{holder}
use Rattle.ranks.proofs.Finding.{found_first, found_second, task_is, found_below, lost_past}
use Rattle.pair_writing.proofs.Written.{tests_refuse, write_refused, rank_refused, in_first, in_second_file}
use Rattle.pair_writing.proofs.write_within.Goals as goal
use Rattle.pair_writing.proofs.write_within.Goals.{Start, In_err-test_sessions, In_ok-test_sessions, In_default, In-Some}

-- the pair and the request
abbrev lent : Start → Pair
lent s = let a = s.args in
    pair_of (state_of First a.s0 a.lists0.now a.image0.now a.table0.now)
    (state_of Second a.s1 a.lists1.now a.image1.now a.table1.now)

abbrev asked : Start → Request
asked s = request_of s.args.rank s.args.bytes.now

-- ---- refused by the pair's tests

some : (c : In_err-test_sessions) → 0 < first_failing (pair_tests (lent (goal.at.In_err-test_sessions c).Start))
some c = omega (arith, c.in_err-test_sessions.ensures, some_number c.in_err-test_sessions.field-0.0)

pub returns-in_err-test_sessions-clause-value : goal.returns-in_err-test_sessions-clause-value
returns-in_err-test_sessions-clause-value c =
    let at = goal.at.returns-in_err-test_sessions-clause-value c in
    let p = err_from_is_err_and c.from_residual.result c.from_residual.ensures.1 in
    rw (p.1, p.2) (c.in_err-test_sessions.ensures ∙ sym (tests_refuse (lent at.Start) (asked at.Start) (some at.In_err-test_sessions)))

pub returns-in_err-test_sessions-clause-table1_after : goal.returns-in_err-test_sessions-clause-table1_after
returns-in_err-test_sessions-clause-table1_after c =
    let at = goal.at.returns-in_err-test_sessions-clause-table1_after c in
    let number = tests_refuse (lent at.Start) (asked at.Start) (some at.In_err-test_sessions) in
    sym (write_refused (lent at.Start) (asked at.Start) c.args.budget0 c.args.budget1 (omega (arith, number, some at.In_err-test_sessions)))

-- ---- what tests that pass give

passes : (c : In_ok-test_sessions) → first_failing (pair_tests (lent (goal.at.In_ok-test_sessions c).Start)) ≡ 0
passes c = sym c.in_ok-test_sessions.ensures

pub task_of-requires : goal.task_of-requires
task_of-requires c =
    let both = pair_passed _ (passes (goal.at.task_of-requires c).In_ok-test_sessions) in
    ((head_tasks _ _ (session_passed _ both.0).head).1, (head_tasks _ _ (session_passed _ both.1).head).1)

-- no task carries the rank
refused : (c : In_default) → let s = (goal.at.In_default c).Start in pair_write_refusal (lent s) (asked s) ≡ 14
refused c =
    let at = goal.at.In_default c in
    let passed = passes at.In_ok-test_sessions in
    rank_refused (lent at.Start) (asked at.Start) passed
    (lost_past _ _ _ _ (pair_passed (lent at.Start) passed).2 c.args.rank (sym c.task_of.ensures ∙ c.in_default.is))

pub returns-in_default-clause-value : goal.returns-in_default-clause-value
returns-in_default-clause-value c = sym (refused (goal.at.returns-in_default-clause-value c).In_default)

pub returns-in_default-clause-table1_after : goal.returns-in_default-clause-table1_after
returns-in_default-clause-table1_after c =
    let at = goal.at.returns-in_default-clause-table1_after c in
    sym (write_refused (lent at.Start) (asked at.Start) c.args.budget0 c.args.budget1 (omega (arith, refused at.In_default)))

-- ---- the file that has the rank, and its task there

abbrev held : Start → ℕ
held s = let a = s.args in holder a.s0.head.n a.s1.head.n (rank_of a.lists0.now) (rank_of a.lists1.now) a.rank

holds : (c : In-Some) → held (goal.at.In-Some c).Start ≡ c.in-Some.task
holds c = let a = c.args in task_is a.s0.head.n a.s1.head.n (rank_of a.lists0.now) (rank_of a.lists1.now) a.rank (sym c.task_of.ensures ∙ c.in-Some.is)

below : (c : In-Some) → c.args.rank < size (lent (goal.at.In-Some c).Start)
below c =
    let at = goal.at.In-Some c in
    found_below _ _ _ _ (pair_passed (lent at.Start) (passes at.In_ok-test_sessions)).2 c.args.rank (sym c.task_of.ensures ∙ c.in-Some.is)

in_second : (c : In-Some) → c.args.s0.head.n < c.in-Some.task → let p = lent (goal.at.In-Some c).Start in
    (second? p c.args.rank ≡ true) × (task_of_rank p c.args.rank ≡ c.in-Some.task - c.args.s0.head.n)
in_second c past =
    let at = goal.at.In-Some c in
    let is = holds c in
    let there = found_second _ _ _ _ (pair_passed (lent at.Start) (passes at.In_ok-test_sessions)).2 c.args.rank (below c) (omega (arith, is, past)) in
    (there.0, sym there.1 ∙ ap (λ (x : ℕ). x - c.args.s0.head.n) is)

in_first_file : (c : In-Some) → c.in-Some.task ≤ c.args.s0.head.n → let p = lent (goal.at.In-Some c).Start in
    (second? p c.args.rank ≡ false) × (task_of_rank p c.args.rank ≡ c.in-Some.task)
in_first_file c within =
    let at = goal.at.In-Some c in
    let is = holds c in
    let there = found_first _ _ _ _ (pair_passed (lent at.Start) (passes at.In_ok-test_sessions)).2 c.args.rank (below c) (omega (arith, is, within)) in
    (there.0, sym there.1 ∙ is)

-- each session says which file it is
own_first : (c : In_ok-test_sessions) → file_in c.args.s0.head ≡ First
own_first c = session_file _ (pair_passed _ (passes c)).0

own_second : (c : In_ok-test_sessions) → file_in c.args.s1.head ≡ Second
own_second c = session_file _ (pair_passed _ (passes c)).1

pub request-requires : goal.request-requires
request-requires c =
    let ok = (goal.at.request-requires c).In_ok-test_sessions in
    rw (own_second ok) (pair_passed _ (passes ok)).1

pub returns-then-n-task-clause-value : goal.returns-then-n-task-clause-value
returns-then-n-task-clause-value c =
    let at = goal.at.returns-then-n-task-clause-value c in
    let there = in_second at.In-Some c.if-n-task.true in
    let done = in_second_file (lent at.Start) (asked at.Start) (passes at.In_ok-test_sessions) (below at.In-Some) there.0 there.1 in
    (rw (own_second at.In_ok-test_sessions) at c.request.ensures).value ∙ sym done.0

pub returns-then-n-task-clause-table1_after : goal.returns-then-n-task-clause-table1_after
returns-then-n-task-clause-table1_after c =
    let at = goal.at.returns-then-n-task-clause-table1_after c in
    let there = in_second at.In-Some c.if-n-task.true in
    let done = in_second_file (lent at.Start) (asked at.Start) (passes at.In_ok-test_sessions) (below at.In-Some) there.0 there.1 in
    ap (pair_of (lent at.Start).first) (rw (own_second at.In_ok-test_sessions) at c.request.ensures).table_after ∙ sym (done.1 c.args.budget0 c.args.budget1)

pub request-requires-2 : goal.request-requires-2
request-requires-2 c =
    let ok = (goal.at.request-requires-2 c).In_ok-test_sessions in
    rw (own_first ok) (pair_passed _ (passes ok)).0

pub returns-clause-value : goal.returns-clause-value
returns-clause-value c =
    let at = goal.at.returns-clause-value c in
    let there = in_first_file at.In-Some c.if-n-task.false in
    let done = in_first (lent at.Start) (asked at.Start) (passes at.In_ok-test_sessions) (below at.In-Some) there.0 there.1 in
    (rw (own_first at.In_ok-test_sessions) at c.request-2.ensures).value ∙ sym done.0

pub returns-clause-table1_after : goal.returns-clause-table1_after
returns-clause-table1_after c =
    let at = goal.at.returns-clause-table1_after c in
    let there = in_first_file at.In-Some c.if-n-task.false in
    let done = in_first (lent at.Start) (asked at.Start) (passes at.In_ok-test_sessions) (below at.In-Some) there.0 there.1 in
    ap (λ (st : State). pair_of st (lent at.Start).second) (rw (own_first at.In_ok-test_sessions) at c.request-2.ensures).table_after
    ∙ sym (done.1 c.args.budget0 c.args.budget1)
