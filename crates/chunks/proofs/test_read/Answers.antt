-- The tests of the record, and then that of the task.
use borrow.Author.Tests.{lt-leb}
use Rattle.std.proofs.lemmas.Result.{err_from_is_err_and}
use Rattle.endian.proofs.Signed.{within_holds, within_over}
use Rattle.format.specs.Refusals.{first_failing}
use Rattle.format.specs.Reads.{read_tests}
use Rattle.format.proofs.LoadedRecords.{loaded_numbered}
use Rattle.chunks.proofs.Testing.{first_refuses, next_answers}
use Rattle.chunks.proofs.test_read.Goals as goal
use Rattle.chunks.proofs.test_read.Goals.{then-task-lt1-via-then-task-lt1, then-task-lt1-via-else-task-lt1+then-l-task}

pub returns-in_err-test_loaded : goal.returns-in_err-test_loaded
unfolding read_tests
returns-in_err-test_loaded c =
    let p = err_from_is_err_and c.from_residual.result c.from_residual.ensures.1 in
    rw (p.1, p.2) (first_refuses _ _ _ c.in_err-test_loaded.ensures)

pub returns-then-task-lt1 : goal.returns-then-task-lt1
unfolding read_tests first_failing
returns-then-task-lt1 c =
    let a = c.args in
    next_answers _ _ (loaded_numbered _) c.in_ok-test_loaded.ensures
    (elim c.then-task-lt1.branch [
      | then-task-lt1-via-then-task-lt1 w ↦ simp (lt-leb 1 a.task w.if-task-lt1.true)
      | then-task-lt1-via-else-task-lt1+then-l-task w ↦ simp (within_over 1 a.l.head.n a.task w.if-l-task.true)
    ])

pub returns : goal.returns
unfolding read_tests first_failing
returns c =
    let a = c.args in
    next_answers _ _ (loaded_numbered _) c.in_ok-test_loaded.ensures (simp (within_holds 1 a.l.head.n a.task c.if-task-lt1.false c.if-l-task.false))
