-- Each return by the tests that led there.
use mathlib.Core.Path.{◌≡◌}
use borrow.Author.Rules.{rules}
use borrow.Author.Tests.{le-ltb}
use Rattle.format.specs.Layout.{meta2_end}
use Rattle.format.specs.Refusals.{first_failing}
use Rattle.format.specs.Record.{size_of, holds, too_short, cells_agree}
use Rattle.records.proofs.test_lent.Goals as goal
use Rattle.records.proofs.test_lent.Goals.{After-meta2_end, After-cells_ok}

-- where the record's image ends, and whether its cells agree, as the tests ask it
ended : (c : After-meta2_end) → let a = c.args in c.meta2_end.result ≡ meta2_end a.h.blocksize a.h.n (size_of a.lists.now) a.m
ended c = let l = c.of-layout.ensures in rw (l.n, l.blocksize, l.sizes) at c.meta2_end.ensures

agreed : (c : After-cells_ok) → let a = c.args in c.cells_ok.result ≡ cells_agree a.h a.lists.now a.m a.table.now
unfolding cells_agree holds
agreed c = let l = c.of-layout.ensures in rw (l.n, l.blocksize, l.sizes) at c.cells_ok.ensures

pub returns-then-image-meta2_end : goal.returns-then-image-meta2_end
unfolding first_failing too_short
returns-then-image-meta2_end c = search rules

pub returns-then-not-cells_ok : goal.returns-then-not-cells_ok
unfolding first_failing too_short
returns-then-not-cells_ok c =
    let at = goal.at.returns-then-not-cells_ok c in
    simp (← ended at.After-meta2_end, le-ltb _ _ c.if-image-meta2_end.false, le-ltb _ _ c.if-table-h.false, ← agreed at.After-cells_ok, c.if-not-cells_ok.true)

pub returns : goal.returns
unfolding first_failing too_short
returns c =
    let at = goal.at.returns c in
    simp (← ended at.After-meta2_end, le-ltb _ _ c.if-image-meta2_end.false, le-ltb _ _ c.if-table-h.false, ← agreed at.After-cells_ok, c.if-not-cells_ok.false)
