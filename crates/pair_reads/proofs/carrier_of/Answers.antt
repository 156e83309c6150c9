-- Each return by the tests that led there, and what the search for the task found.
use mathlib.Core.Path.{◌≡◌, sym, ap, ◌∙◌}
use Prim.Native.Nat.{ℕ}
use Rattle.std.specs.Prelude.{Option, None, Err, ok_or}
use Rattle.std.proofs.lemmas.Result.{err_from_is_err_and}
use Rattle.format.specs.declared.refusal.Refusal.{Refusal}
use Rattle.format.specs.Refusals.{number_of}
use Rattle.pairs.specs.Reads.{pair_read_tests}
use Rattle.chunks.proofs.Testing.{first_refuses}
use Rattle.pair_reads.proofs.Finding.{few_tasks, rank_lost, rank_found, in_file_0, in_file_1}
use Rattle.pair_reads.proofs.carrier_of.Goals as goal

pub returns-in_err-test_loaded-clause-value : goal.returns-in_err-test_loaded-clause-value
unfolding pair_read_tests
returns-in_err-test_loaded-clause-value c =
    let p = err_from_is_err_and c.from_residual.result c.from_residual.ensures.1 in
    rw (p.1, p.2) (first_refuses _ _ _ c.in_err-test_loaded.ensures)

pub task_of-requires : goal.task_of-requires
task_of-requires c = few_tasks _ c.in_ok-test_loaded.ensures

-- a lost rank is refused by the name that is given for it
lost_named : {o : Option ℕ} {refusal : Refusal} (given : Refusal) → o ≡ None → Err refusal ≡ ok_or o given → number_of refusal ≡ number_of given
lost_named {o} {refusal} given lost e = let h = rw lost at e in ap number_of cc

pub returns-in_err-task-clause-value : goal.returns-in_err-task-clause-value
returns-in_err-task-clause-value c =
    let p = err_from_is_err_and c.from_residual-in_err-task.result c.from_residual-in_err-task.ensures.1 in
    let missed = c.in_err-task.ensures in
    rw (p.1, p.2) (lost_named _ missed.ok_part missed.value ∙ rank_lost _ c.in_ok-test_loaded.ensures _ (sym c.task_of.ensures ∙ missed.ok_part))

pub returns-then-n-task-clause-value : goal.returns-then-n-task-clause-value
returns-then-n-task-clause-value c = rank_found _ c.in_ok-test_loaded.ensures _ (sym c.task_of.ensures ∙ c.in_ok-task.ensures.ok_part)

pub returns-then-n-task-clause-found : goal.returns-then-n-task-clause-found
returns-then-n-task-clause-found c =
    in_file_1 _ c.in_ok-test_loaded.ensures _ (sym c.task_of.ensures ∙ c.in_ok-task.ensures.ok_part) c.told-lists1 c.if-n-task.true

pub returns-clause-value : goal.returns-clause-value
returns-clause-value c = rank_found _ c.in_ok-test_loaded.ensures _ (sym c.task_of.ensures ∙ c.in_ok-task.ensures.ok_part)

pub returns-clause-found : goal.returns-clause-found
returns-clause-found c =
    in_file_0 _ c.in_ok-test_loaded.ensures _ (sym c.task_of.ensures ∙ c.in_ok-task.ensures.ok_part) c.told-lists0 c.if-n-task.false
