-- Each return by the tests that led there.
use mathlib.Core.Path.{◌≡◌, sym, ap, ◌∙◌}
use mathlib.Core.Bool.{true}
use Prim.Native.Nat.{ℕ}
use borrow.Author.Rules.{rules}
use lib.IntN.{pos}
use lib.ListN.{length, take, get_or}
use lib.Seq.{length-take-le}
use Rattle.std.specs.Option.{is_none}
use Rattle.lists.specs.Below.{all_below}
use Rattle.endian.specs.Signed.{within}
use Rattle.format.specs.Meta2.{least_count}
use Rattle.format.specs.Record.{counts_of, count_of, head_sound}
use Rattle.format.specs.Session.{session_sound}
use Rattle.rules.proofs.First.{is_none_of, is_none_bad}
use Rattle.records.proofs.Counts.{counted, within_taken}
use Rattle.records.proofs.session_ok.Goals as goal
use Rattle.records.proofs.session_ok.Goals.{Else-not-head_ok, then-planned_ok, else-planned_ok}

head : (c : Else-not-head_ok) → head_sound c.args.s.head c.args.lists.now ≡ true
head c = sym c.head_ok.ensures ∙ c.if-not-head_ok.false

-- the counts
rule : (c : Else-not-head_ok) (least : ℕ) → least ≡ least_count c.args.s.head.format → let a = c.args in
    all_below (length (take a.s.head.n (counts_of a.lists.now))) (λ i. within least a.s.planned (pos (get_or (take a.s.head.n (counts_of a.lists.now)) i 0)))
    ≡ all_below a.s.head.n (λ i. within (least_count a.s.head.format) a.s.planned (pos (count_of a.lists.now i)))
rule c least e =
    within_taken c.args.s.head c.args.lists.now c.told-lists (head c) least c.args.s.planned
    ∙ ap (λ (k : ℕ). all_below c.args.s.head.n (λ i. within k c.args.s.planned (pos (count_of c.args.lists.now i)))) e

pub returns-then-not-head_ok : goal.returns-then-not-head_ok
unfolding session_sound
returns-then-not-head_ok c = search rules

pub slice_bounds-counts-end-2 : goal.slice_bounds-counts-end-2
slice_bounds-counts-end-2 c =
    sym (length-take-le _ _ (counted c.args.s.head c.args.lists.now c.told-lists (head (goal.at.slice_bounds-counts-end-2 c).Else-not-head_ok)))

pub returns-then-is_none : goal.returns-then-is_none
unfolding session_sound
returns-then-is_none c =
    let known = rule (goal.at.returns-then-is_none c).Else-not-head_ok _ c.least_count-least.ensures in
    elim c.if-planned_ok.branch [
      | then-planned_ok w ↦
          let judged = is_none_of _ _ w.is_none.ensures ∙ ap is_none w.first_outside.ensures ∙ is_none_bad _ _ in
          rw (
            ← c.head_ok.ensures,
            c.if-not-head_ok.false,
            ← c.planned_ok.ensures,
            w.if-planned_ok.true,
            sym known ∙ sym judged ∙ sym w.value-is ∙ c.if-is_none.true,
          )
          c.suits.ensures
      | else-planned_ok w ↦ cc
    ]

pub returns-else-is_none : goal.returns-else-is_none
unfolding session_sound
returns-else-is_none c =
    let known = rule (goal.at.returns-else-is_none c).Else-not-head_ok _ c.least_count-least.ensures in
    search (rules, is_none_of, is_none_bad)
