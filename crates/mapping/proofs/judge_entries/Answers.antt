-- The loop's invariant: the entries of the ranks passed break no rule.
use lib.ListN.{length}
use native.Mathlib.Omega.{arith}
use Rattle.std.proofs.lemmas.Result.{err_from_is_err_and}
use Rattle.format.specs.Record.{entry}
use Rattle.format.proofs.Judged.{ask_none, ask_more, ask_fails}
use Rattle.pairs.specs.Mapping.{mapping_length}
use Rattle.mapping.proofs.Judging.{entry_numbered}
use Rattle.mapping.proofs.judge_entries.Goals as goal

pub loop-rank-init : goal.loop-rank-init
loop-rank-init c =
    let a = c.args in
    ask_none _ (entry_numbered (length a.first.now) (length a.second.now) (entry a.first.now) (entry a.second.now) a.big a.image.now a.start)

pub judge_entry-requires : goal.judge_entry-requires
unfolding mapping_length
judge_entry-requires c =
    let p = c.requires in
    (p.0, p.1, omega (arith, p.0.few, p.1.few), omega (arith, p.2))

pub returns-in_err-judge_entry : goal.returns-in_err-judge_entry
returns-in_err-judge_entry c =
    let a = c.args in
    let p = err_from_is_err_and c.from_residual.result c.from_residual.ensures.1 in
    rw (p.1, p.2)
    (ask_fails _ (entry_numbered (length a.first.now) (length a.second.now) (entry a.first.now) (entry a.second.now) a.big a.image.now a.start) _
    c.loop-rank.rank c.loop-rank-test.true c.loop-rank.invariant _ c.in_err-judge_entry.ensures)

pub loop-rank-preserved : goal.loop-rank-preserved
loop-rank-preserved c =
    let a = c.args in
    ask_more _ (entry_numbered (length a.first.now) (length a.second.now) (entry a.first.now) (entry a.second.now) a.big a.image.now a.start)
    c.loop-rank.rank c.loop-rank.invariant c.in_ok-judge_entry.ensures
