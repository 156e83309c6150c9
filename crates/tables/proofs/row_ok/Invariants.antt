-- The loop's invariant: no top bit is set exactly where every cell passed keeps its rule.
use Rattle.std.proofs.Common.{◌≡◌, ◌^◌, ltb, get_or, pos}
use Rattle.lists.specs.Below.{all_below}
use Rattle.format.specs.Meta2.{value_rule}
use Rattle.tables.proofs.row_ok.Given as goal

abbrev pub invariant-loop-i : goal.invariant-loop-i
invariant-loop-i l =
    ltb l.bad (2 ^ 63)
    ≡ all_below l.i (λ j. value_rule (ltb l.k (get_or l.counts j 0)) (get_or l.holds j 0) (get_or l.cells j (pos 0)))
