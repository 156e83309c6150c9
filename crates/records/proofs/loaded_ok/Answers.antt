-- Each return by the tests that led there.
use mathlib.Core.Path.{◌≡◌, sym, ◌∙◌}
use mathlib.Core.Bool.{true}
use borrow.Author.Rules.{rules}
use lib.IntN.{pos}
use lib.ListN.{length, take, get_or}
use lib.Seq.{length-take-le}
use Rattle.format.specs.Meta2.{counts_rule}
use Rattle.format.specs.Record.{counts_of, count_of, head_sound}
use Rattle.format.specs.Loaded.{loaded_sound}
use Rattle.records.proofs.Counts.{counted, rule_taken}
use Rattle.records.proofs.loaded_ok.Goals as goal
use Rattle.records.proofs.loaded_ok.Goals.{Else-not-head_ok, then-maxchunks_ok, else-maxchunks_ok}

head : (c : Else-not-head_ok) → head_sound c.args.l.head c.args.lists.now ≡ true
head c = sym c.head_ok.ensures ∙ c.if-not-head_ok.false

pub returns-then-not-head_ok : goal.returns-then-not-head_ok
unfolding loaded_sound
returns-then-not-head_ok c = search rules

pub slice_bounds-counts-end-2 : goal.slice_bounds-counts-end-2
slice_bounds-counts-end-2 c =
    sym (length-take-le _ _ (counted c.args.l.head c.args.lists.now c.told-lists (head (goal.at.slice_bounds-counts-end-2 c).Else-not-head_ok)))

-- the counts, where the most chunks are few enough
rule : (c : Else-not-head_ok) → let a = c.args in
    counts_rule a.l.head.format (length (take a.l.head.n (counts_of a.lists.now))) a.l.maxchunks (λ i. pos (get_or (take a.l.head.n (counts_of a.lists.now)) i 0))
    ≡ counts_rule a.l.head.format a.l.head.n a.l.maxchunks (λ i. pos (count_of a.lists.now i))
rule c = rule_taken c.args.l.head c.args.lists.now c.told-lists (head c) c.args.l.maxchunks

pub returns-then-counts_ok : goal.returns-then-counts_ok
unfolding loaded_sound
returns-then-counts_ok c = let known = rule (goal.at.returns-then-counts_ok c).Else-not-head_ok in search rules

pub returns-else-counts_ok : goal.returns-else-counts_ok
unfolding loaded_sound
returns-else-counts_ok c = let known = rule (goal.at.returns-else-counts_ok c).Else-not-head_ok in search rules
