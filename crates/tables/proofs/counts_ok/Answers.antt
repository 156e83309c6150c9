use mathlib.Core.Path.{◌≡◌, sym, ap, ◌∙◌}
use lib.IntN.{pos}
use lib.ListN.{length, get_or}
use Rattle.std.specs.Option.{is_none}
use Rattle.lists.specs.Below.{all_below}
use Rattle.endian.specs.Signed.{within}
use Rattle.format.specs.Meta2.{least_count, counts_rule}
use Rattle.rules.proofs.First.{is_none_of, is_none_bad}
use Rattle.tables.proofs.counts_ok.Goals as goal
use Rattle.tables.proofs.counts_ok.Goals.{After-is_none}

-- what the test judged
judged : (c : After-is_none)
    → c.is_none.result ≡ all_below (length c.args.counts.now) (λ i. within (least_count c.args.format) c.args.maxchunks (pos (get_or c.args.counts.now i 0)))
judged c =
    rw c.least_count-least.ensures at
    (is_none_of _ _ c.is_none.ensures ∙ ap is_none c.first_outside.ensures ∙ is_none_bad _ _)

pub returns-then-is_none : goal.returns-then-is_none
unfolding counts_rule
returns-then-is_none c = rw (sym (judged (goal.at.returns-then-is_none c).After-is_none) ∙ c.if-is_none.true, c.greatest.ensures)

pub returns-else-is_none : goal.returns-else-is_none
unfolding counts_rule
returns-else-is_none c = rw (sym (judged (goal.at.returns-else-is_none c).After-is_none) ∙ c.if-is_none.false) c.if-is_none.false
