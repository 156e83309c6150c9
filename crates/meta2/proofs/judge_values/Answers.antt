-- The loop's invariant: the values of every chunk passed keep their rule.
use mathlib.Core.Path.{◌≡◌, ap, ◌∙◌}
use mathlib.Core.List.{List}
use Prim.Native.Nat.{ℕ}
use native.Mathlib.Omega.{arith}
use Rattle.std.proofs.lemmas.Result.{err_from_is_err_and}
use Rattle.lists.specs.Below.{join_below, list_below}
use Rattle.format.specs.declared.head.Head.{Head}
use Rattle.format.specs.Record.{size_of}
use Rattle.format.specs.Refusals.{Test, verdict}
use Rattle.format.specs.Judge.{value_test, value_tests}
use Rattle.format.proofs.Refusals.{Numbered}
use Rattle.format.proofs.Accepting.{value_kept}
use Rattle.format.proofs.Verdicts.{fields_numbered}
use Rattle.format.proofs.Judged.{ask_none, ask_more, ask_fails}
use Rattle.meta2.proofs.judge_values.Goals as goal

module _ (h : Head) (lists : List ℕ) (maxchunks at : ℕ) (part : List ℕ) where
  -- the tests of a chunk's values
  abbrev row : ℕ → List Test
  row k = list_below h.n (value_test h (size_of lists) maxchunks at part k)

  numbered : (k : ℕ) → Numbered (row k)
  unfolding value_test
  numbered k = fields_numbered 13 (omega arith) _ (value_kept h (size_of lists) maxchunks part k) h.n

pub loop-k-init : goal.loop-k-init
loop-k-init c = let a = c.args in ask_none _ (numbered a.h a.lists.now a.maxchunks a.at a.part.now)

pub returns-in_err-judge_row : goal.returns-in_err-judge_row
unfolding value_tests
returns-in_err-judge_row c =
    let a = c.args in
    let l = c.loop-k in
    let p = err_from_is_err_and c.from_residual.result c.from_residual.ensures.1 in
    rw (p.1, p.2)
    (ask_fails _ (numbered a.h a.lists.now a.maxchunks a.at a.part.now) a.maxchunks l.k c.loop-k-test.true l.invariant _ c.in_err-judge_row.ensures)

pub loop-k-preserved : goal.loop-k-preserved
loop-k-preserved c =
    let a = c.args in
    let l = c.loop-k in
    ask_more _ (numbered a.h a.lists.now a.maxchunks a.at a.part.now) l.k l.invariant c.in_ok-judge_row.ensures

pub returns : goal.returns
unfolding value_tests
returns c =
    let all : c.loop-k.k ≡ c.args.maxchunks = omega arith in
    let a = c.args in
    c.loop-k.invariant ∙ ap (λ (k : ℕ). verdict (join_below k (row a.h a.lists.now a.maxchunks a.at a.part.now))) all
