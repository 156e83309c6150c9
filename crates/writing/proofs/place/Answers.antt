-- Each return is what is decided by the tests that led there.
use mathlib.Core.Path.{◌≡◌, ap, ◌∙◌}
use mathlib.Core.Bool.{and-false}
use Prim.Native.Nat.{ℕ, ◌-◌, ◌≤◌, ◌<◌}
use native.Mathlib.Omega.{arith}
use lib.Dec.{ltb}
use lib.ListN.{length}
use borrow.Author.Tests.{lt-leb, le-ltb}
use Rattle.endian.specs.Signed.{natural}
use Rattle.format.specs.Limits.{max_tasks}
use Rattle.format.specs.Meta2.{value_index}
use Rattle.format.specs.Record.{file_in, entry, cell, holds, count_at}
use Rattle.format.proofs.Stripes.{count_at_place}
use Rattle.format.specs.Session.{State, state_of}
use Rattle.format.specs.Write.{Request, request_of, begun, in_last, capacity_of}
use Rattle.writing.specs.Writing.{to, next_chunk}
use Rattle.format.specs.Passed.{Passed}
use Rattle.format.proofs.Passing.{head_tasks, passed_sound, count_few, cell_listed}
use Rattle.format.proofs.Sessions.{session_passed}
use Rattle.format.proofs.Writable.{last_small}
use Rattle.writing.proofs.Decisions.{decide_long, decide_next, decide_stays}
use Rattle.writing.proofs.place.Goals as goal
use Rattle.writing.proofs.place.Goals.{Start, After-chunk_holds-holds}

-- the session and the request
abbrev lent : Start → State
lent s = let a = s.args in state_of (file_in a.s.head) a.s a.lists.now a.image.now a.table.now

abbrev asked : Start → Request
asked s = request_of s.args.task s.args.bytes.now

-- what the tests before give
passed : (s : Start) → let st = (lent s) in Passed st.session.head st.lists st.session.planned st.image st.table
passed s = session_passed (lent s) s.requires.table_value

inside : (s : Start) → s.args.task - 1 < max_tasks
inside s = omega (arith, s.requires.le_task, head_tasks _ _ (passed s).head)

-- what the code reads of the lists and of the table
counted : (s : Start) → entry s.args.lists.now (count_at (s.args.task - 1)) ≡ begun (lent s) (asked s)
unfolding begun
counted s = count_at_place s.args.lists.now (s.args.task - 1) (inside s)

begun_few : (s : Start) → begun (lent s) (asked s) ≤ s.args.s.planned
unfolding begun
begun_few s = let (first, last, _) = s.requires.le_task in count_few (passed s) s.args.task first last

listed : (s : Start) → 0 < begun (lent s) (asked s)
    → value_index s.args.s.head.n (entry s.args.lists.now (count_at (s.args.task - 1)) - 1) (s.args.task - 1) < length s.args.table.now
listed s some =
    let (first, last, _) = s.requires.le_task in
    rw (counted s) (cell_listed (passed s) s.args.task first last (begun (lent s) (asked s) - 1) (omega (arith, some, begun_few s)))

held : (c : After-chunk_holds-holds) → let a = c.args in
    c.chunk_holds-holds.result ≡ capacity_of (state_of (file_in a.s.head) a.s a.lists.now a.image.now a.table.now) (request_of a.task a.bytes.now)
unfolding capacity_of holds
held c = let l = c.of.ensures in rw (l.blocksize, l.sizes) at c.chunk_holds-holds.ensures

last_there : (s : Start) {last : ℕ}
    → last ≡ natural (cell s.args.table.now (value_index s.args.s.head.n (entry s.args.lists.now (count_at (s.args.task - 1)) - 1) (s.args.task - 1)))
    → last ≡ in_last (lent s) (asked s)
unfolding in_last
last_there s e = e ∙ ap (λ (k : ℕ). natural (cell s.args.table.now (value_index s.args.s.head.n (k - 1) (s.args.task - 1)))) (counted s)

pub of-requires : goal.of-requires
of-requires c = passed_sound (passed (goal.at.of-requires c).Start) c.told-lists

pub returns-then-holds-length : goal.returns-then-holds-length
returns-then-holds-length c =
    let s : Start = (goal.at.returns-then-holds-length c).Start in
    let (first, last, bytes) = c.requires.le_task in
    decide_long (lent s) (asked s) c.requires.table_value first last bytes
    (omega (arith, c.if-holds-length.true, held (goal.at.returns-then-holds-length c).After-chunk_holds-holds))

pub returns-then-begun-eq0 : goal.returns-then-begun-eq0
returns-then-begun-eq0 c =
    let s : Start = (goal.at.returns-then-begun-eq0 c).Start in
    let (first, last, bytes) = c.requires.le_task in
    let fits : length (asked s).bytes ≤ capacity_of (lent s) (asked s) = omega (arith, c.if-holds-length.false, held (goal.at.returns-then-begun-eq0 c).After-chunk_holds-holds) in
    c.next_chunk.ensures ∙ ap (next_chunk c.args.s.planned) (counted s)
    ∙ decide_next (lent s) (asked s) c.requires.table_value first last bytes fits
    (rw (le-ltb 0 (begun (lent s) (asked s)) (omega (arith, c.if-begun-eq0.true, counted s))))

pub overflow_mul-at : goal.overflow_mul-at
overflow_mul-at c =
    let s : Start = (goal.at.overflow_mul-at c).Start in
    omega (arith, listed s (omega (arith, c.if-begun-eq0.false, counted s)))

pub overflow_add-at : goal.overflow_add-at
overflow_add-at c =
    let s : Start = (goal.at.overflow_add-at c).Start in
    omega (arith, listed s (omega (arith, c.if-begun-eq0.false, counted s)))

pub written-last-requires : goal.written-last-requires
written-last-requires c =
    let s : Start = (goal.at.written-last-requires c).Start in
    listed s (omega (arith, c.if-begun-eq0.false, counted s))

pub overflow_sub-holds : goal.overflow_sub-holds
overflow_sub-holds c =
    let s : Start = (goal.at.overflow_sub-holds c).Start in
    let (first, last, _) = c.requires.le_task in
    omega (
      arith,
      last_small (lent s) (asked s) (passed s) first last (omega (arith, c.if-begun-eq0.false, counted s)),
      last_there s c.written-last.ensures,
      held (goal.at.overflow_sub-holds c).After-chunk_holds-holds,
    )

pub returns-then-length-holds : goal.returns-then-length-holds
returns-then-length-holds c =
    let s : Start = (goal.at.returns-then-length-holds c).Start in
    let there = last_there s c.written-last.ensures in
    let holds_is = held (goal.at.returns-then-length-holds c).After-chunk_holds-holds in
    let fits : length (asked s).bytes ≤ capacity_of (lent s) (asked s) = omega (arith, c.if-holds-length.false, holds_is) in
    let (first, last, bytes) = c.requires.le_task in
    (λ i. to (record { chunk = (counted s) i; from = there i }))
    ∙ decide_stays (lent s) (asked s) c.requires.table_value first last bytes fits (omega (arith, c.if-begun-eq0.false, counted s)) (begun_few s)
    (omega (arith, c.if-length-holds.true, there, holds_is))

pub next_chunk-requires-2 : goal.next_chunk-requires-2
next_chunk-requires-2 c =
    let s : Start = (goal.at.next_chunk-requires-2 c).Start in
    rw (counted s) (begun_few s)

pub returns : goal.returns
returns c =
    let s : Start = (goal.at.returns c).Start in
    let there = last_there s c.written-last.ensures in
    let holds_is = held (goal.at.returns c).After-chunk_holds-holds in
    let fits : length (asked s).bytes ≤ capacity_of (lent s) (asked s) = omega (arith, c.if-holds-length.false, holds_is) in
    let st = lent s in
    let q = asked s in
    let (first, last, bytes) = c.requires.le_task in
    c.next_chunk-2.ensures ∙ ap (next_chunk c.args.s.planned) (counted s)
    ∙ decide_next st q c.requires.table_value first last bytes fits
    (rw (lt-leb (length q.bytes) (capacity_of st q - in_last st q) (omega (arith, c.if-length-holds.false, there, holds_is))) (and-false (ltb 0 (begun st q))))
