-- The loop's invariant: every value passed keeps its rule.
use Prim.Native.Nat.{◌≤◌}
use mathlib.Core.Path.{◌≡◌}
use mathlib.Core.Bool.{true}
use lib.ListN.{length}
use Rattle.lists.specs.Below.{all_below}
use Rattle.format.specs.Meta2.{value_field}
use Rattle.tables.specs.Spans.{rule_at}
use Rattle.meta2.proofs.values_held.Given as goal

abbrev pub invariant-loop-j : goal.invariant-loop-j
invariant-loop-j l =
    (l.j ≤ l.cells) × (all_below l.j (λ t. rule_at (length l.holds) l.holds l.counts t (value_field l.big l.part l.n t)) ≡ true)
