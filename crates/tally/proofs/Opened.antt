-- What an accepted opening leaves follows the initial book of the tally, from the opening's own arguments.
use mathlib.Core.Path.{◌≡◌, refl, sym, ap, ◌∙◌, subst}
use mathlib.Core.Bool.{true}
use mathlib.Core.List.{List}
use Prim.Native.Nat.{ℕ, ◌+◌, ◌*◌, ◌≤◌, ◌<◌}
use native.Mathlib.Nat.{zero-add, mul-le-mul_left}
use native.Mathlib.Omega.{arith}
use lib.IntN.{ℤ, pos}
use lib.ListN.{length}
use Rattle.lists.proofs.Splice.{length_splice, get_or_splice_in, splice_longer}
use Rattle.format.specs.Limits.{max_tasks, blocksize_rule}
use Rattle.format.specs.Meta1.{opening_bytes}
use Rattle.format.specs.Meta2.{value_index, unused, least_count}
use Rattle.format.specs.Record.{entry, cell, size_of, holds, start_of, end_at}
use Rattle.format.proofs.Judging.{suits_holds}
use Rattle.format.proofs.Filled.{entry_filled}
use Rattle.format.proofs.Stripes.{length_lists, counts_made}
use Rattle.format.proofs.Rules.{value_index_lt}
use Rattle.format.proofs.Formats.{least_one}
use Rattle.format.proofs.Blank.{length_blank, blank_begun, blank_unused}
use Rattle.format.specs.Open.{Opening, tasks, blank_cells, open_refusal, open_head, open_session, open_lists, open_table, opened}
use Rattle.format.proofs.Opening.{OpeningHolds, opening_holds, sizes_kept, opened_sound, opened_session, opened_lists, opened_image, opened_table}
use Rattle.format.specs.Tally.{Terms, count_by, initial, terms_of}
use Rattle.tally.proofs.Counts.{count_fresh}
use Rattle.tally.proofs.Places.{Layout, reachable_blank}
use Rattle.tally.specs.Simulates.{terms_in, Simulates}
use Rattle.tally.proofs.Simulating.{layout_of}

-- the tally is fed the same of the record and of the opening
pub terms_are : (o : Opening) → terms_of o ≡ terms_in (open_session o) (entry o.sizes)
unfolding open_session open_head holds start_of
terms_are o = refl

pub planned_layout : (o : Opening) → blocksize_rule (pos o.plan.blocksize) ≡ true
    → Layout o.plan.blocksize (end_at (open_head o) (entry o.sizes) o.plan.planned) (terms_of o)
unfolding open_session open_head
planned_layout o block =
    subst (λ (p : Terms). Layout o.plan.blocksize (end_at (open_head o) (entry o.sizes) o.plan.planned) p) (sym (terms_are o))
    (layout_of (open_session o) (entry o.sizes) block)

module _ (o : Opening) (image : List ℕ) (table : List ℤ) (accepted : open_refusal o (length image) (length table) ≡ 0) where
  facts : OpeningHolds o (length image) (length table)
  facts = opening_holds o (length image) (length table) accepted

  tasks_are : (open_head o).n ≡ tasks o
  unfolding open_head
  tasks_are = refl

  fresh_count : (task : ℕ) → count_by (open_head o).format (initial task) ≡ least_count o.plan.format
  unfolding open_head
  fresh_count task = count_fresh o.plan.format (initial task) refl

  -- the chunks that each task has in use, and the cells put into the table
  abbrev begun : ℕ
  begun = least_count o.plan.format

  begun_planned : begun ≤ o.plan.planned
  begun_planned = omega (arith, least_one o.plan.format, facts.plan.some)

  abbrev fresh : List ℤ
  fresh = blank_cells begun (tasks o) o.plan.planned

  fresh_long : length fresh ≡ tasks o * o.plan.planned
  fresh_long = length_blank begun (tasks o) o.plan.planned begun_planned

  fresh_fits : 0 + length fresh ≤ length table
  fresh_fits = omega (arith, fresh_long, facts.table_long)

  fresh_at : (j : ℕ) → j < tasks o * o.plan.planned → cell (open_table o image table) j ≡ cell fresh j
  fresh_at j l =
      let put = get_or_splice_in table 0 fresh fresh_fits j (pos 0) (omega (arith, fresh_long)) in
      rw (opened_table o image table accepted) (rw zero-add at put)

  -- those of chunk k + 1 of task i + 1: 0 where it is in use, -1 where it is not
  module _ (i k : ℕ) (task : i < tasks o) (planned : k < o.plan.planned) where
    inside : value_index (tasks o) k i < tasks o * o.plan.planned
    inside = value_index_lt (tasks o) o.plan.planned k i task planned

    fresh_begun : k < begun → cell (open_table o image table) (value_index (tasks o) k i) ≡ pos 0
    fresh_begun l =
        fresh_at _ inside
        ∙ blank_begun begun (tasks o) o.plan.planned begun_planned _ (pos 0) (value_index_lt (tasks o) begun k i task l)

    fresh_unused : begun ≤ k → cell (open_table o image table) (value_index (tasks o) k i) ≡ unused
    fresh_unused l =
        fresh_at _ inside
        ∙ blank_unused begun (tasks o) o.plan.planned begun_planned _ (pos 0) (omega (arith, mul-le-mul_left (tasks o) l)) inside

  pub opened_simulates : Simulates (open_session o) (entry o.sizes) initial (opened o image table)
  unfolding open_session open_head open_lists
  opened_simulates =
      let lists = opened_lists o image table accepted in
      let few : (open_head o).n ≤ max_tasks = omega (arith, tasks_are, facts.plan.few_tasks) in
      let none = counts_made (tasks o) (entry o.ranks) (entry o.sizes) (λ i. begun) in
      record {
        session_is = opened_session o image table accepted;
        sizes_are = ap size_of lists ∙ sizes_kept o facts.plan;
        file_suits = suits_holds o.file (open_head o) refl refl;
        not_closed = refl;
        sound = rw lists (opened_sound o facts.plan);
        some = facts.plan.some;
        few = facts.plan.few;
        as_many = rw lists (length_lists (tasks o) (entry o.ranks) (entry o.sizes) (λ i. begun));
        image_long =
            rw (opened_image o image table accepted)
            (omega (arith, facts.image_long, splice_longer image (opening_bytes (open_head o) (entry o.ranks) (entry o.sizes) o.prefix)));
        table_long =
            rw (opened_table o image table accepted, length_splice table 0 fresh fresh_fits, tasks_are) facts.table_long;
        counts_are = λ i l.
            rw (lists, none) (entry_filled (tasks o) (λ i. begun) i facts.plan.few_tasks (omega (arith, tasks_are)))
            ∙ sym (fresh_count (i + 1));
        cells_are = λ i k l m.
            let task : i < tasks o = omega (arith, tasks_are) in
            rw (tasks_are, fresh_count (i + 1))
            (record {
              used = λ y. absurd (omega (arith, least_one o.plan.format));
              last = λ y. fresh_begun i k task m (omega arith);
              none = λ y. fresh_unused i k task m y;
            });
        reachable = reachable_blank (terms_in (open_session o) (entry o.sizes));
      }
