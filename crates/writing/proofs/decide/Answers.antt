-- Each return is what is decided by the tests that led there.
use mathlib.Core.Path.{sym, ◌∙◌}
use borrow.Author.Tests.{lt-leb, eqb-true}
use Rattle.endian.proofs.Signed.{within_over}
use Rattle.format.specs.Record.{file_in}
use Rattle.format.specs.Session.{State, state_of}
use Rattle.format.specs.Write.{Request, request_of}
use Rattle.writing.proofs.Decisions.{decide_no_task, decide_empty}
use Rattle.writing.proofs.decide.Goals as goal
use Rattle.writing.proofs.decide.Goals.{Start, then-task-lt1-via-then-task-lt1, then-task-lt1-via-else-task-lt1+then-s-task}

-- the session and the request
abbrev lent : Start → State
lent s = let a = s.args in state_of (file_in a.s.head) a.s a.lists.now a.image.now a.table.now

abbrev asked : Start → Request
asked s = request_of s.args.task s.args.bytes.now

pub returns-then-task-lt1 : goal.returns-then-task-lt1
returns-then-task-lt1 c =
    let s : Start = (goal.at.returns-then-task-lt1 c).Start in
    elim c.then-task-lt1.branch [
      | then-task-lt1-via-then-task-lt1 w ↦ decide_no_task (lent s) (asked s) c.requires (rw (lt-leb 1 c.args.task w.if-task-lt1.true))
      | then-task-lt1-via-else-task-lt1+then-s-task w ↦ decide_no_task (lent s) (asked s) c.requires (within_over 1 _ c.args.task w.if-s-task.true)
    ]

pub returns-then-is_empty : goal.returns-then-is_empty
returns-then-is_empty c =
    let s : Start = (goal.at.returns-then-is_empty c).Start in
    decide_empty (lent s) (asked s) c.requires c.if-task-lt1.false c.if-s-task.false (eqb-true _ 0 (sym c.is_empty.ensures ∙ c.if-is_empty.true))
