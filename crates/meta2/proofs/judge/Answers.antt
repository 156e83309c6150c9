-- The counts are put beside ranks and sizes, and judged there.
use mathlib.Core.Path.{◌≡◌, ap, ◌∙◌}
use mathlib.Core.List.{List}
use Prim.Native.Nat.{ℕ, ◌+◌, ◌-◌, ◌*◌, ◌≤◌}
use native.Mathlib.Nat.{zero-add}
use native.Mathlib.Omega.{arith}
use lib.ListN.{length, drop, length-drop}
use lib.Seq.{length-take-le}
use borrow.Rule.Slice.PartMut.{mid_of, put_mid}
use Rattle.endian.specs.Number.{number_at}
use Rattle.lists.specs.Below.{list_below}
use Rattle.lists.proofs.Below.{length_list}
use Rattle.lists.proofs.Splice.{splice_whole}
use Rattle.format.specs.Limits.{max_tasks}
use Rattle.format.specs.Record.{all_lists, entry, is_big, sizes_of, with_counts}
use Rattle.format.specs.Refusals.{verdict}
use Rattle.format.specs.Judge.{meta2_tests}
use Rattle.format.proofs.Chunks.{meta2_parts}
use Rattle.format.proofs.Stripes.{sizes_counted, count_counted}
use Rattle.meta2.proofs.judge.Goals as goal
use Rattle.meta2.proofs.judge.Goals.{Start, After-fill}

-- the stripe has the counts of n tasks
module _ (lists : List ℕ) (long : length lists ≡ all_lists) (n : ℕ) (few : n ≤ max_tasks) where
  length_stripe : length (mid_of (2 * max_tasks) (2 * max_tasks + n - 2 * max_tasks) lists) ≡ n
  length_stripe = rw (length-take-le (2 * max_tasks + n - 2 * max_tasks) (drop (2 * max_tasks) lists) (simp length-drop (omega arith))) (omega arith)

  stripe_placed : (count : ℕ → ℕ) {stripe : List ℕ}
      → stripe ≡ list_below (length (mid_of (2 * max_tasks) (2 * max_tasks + n - 2 * max_tasks) lists)) count
      → put_mid (2 * max_tasks) (2 * max_tasks + n - 2 * max_tasks) lists stripe ≡ with_counts lists n count
  unfolding with_counts
  stripe_placed count filled =
      splice_whole lists (2 * max_tasks) (list_below n count) (2 * max_tasks + n - 2 * max_tasks)
      (filled ∙ ap (λ (k : ℕ). list_below k count) length_stripe) (length_list count n ∙ omega arith)

pub fill-requires : goal.fill-requires
fill-requires c =
    let p = c.requires in
    omega (arith, length_stripe c.args.lists.now c.told-lists c.args.h.n p.sound.tasks, p.whole, meta2_parts c.args.h.n c.args.maxchunks)

-- the lists with the counts
counted : (s : After-fill) → let a = s.args in
    put_mid (2 * max_tasks) (2 * max_tasks + a.h.n - 2 * max_tasks) a.lists.now s.fill.new.into
    ≡ with_counts a.lists.now a.h.n (λ i. number_at (is_big a.h) 8 a.part.now (8 * i))
counted s = let a = s.args in stripe_placed a.lists.now s.told-lists a.h.n s.requires.sound.tasks _ (simp zero-add at s.fill.ensures)

pub judge_read-requires : goal.judge_read-requires
judge_read-requires c =
    let a = c.args in
    let p = c.requires in
    let count : ℕ → ℕ = λ i. number_at (is_big a.h) 8 a.part.now (8 * i) in
    rw (counted c)
    (record {
      there = record {
        sound = rw (sizes_counted a.lists.now a.h.n count p.sound.tasks c.told-lists) p.sound;
        small = p.small;
        whole = p.whole;
        ends = p.ends;
      };
      counts_are = count_counted a.lists.now a.h.n count p.sound.tasks c.told-lists;
    })

pub returns-clause-value : goal.returns-clause-value
returns-clause-value c =
    let a = c.args in
    let s : After-fill = (goal.at.returns-clause-value c).After-fill in
    let count : ℕ → ℕ = λ i. number_at (is_big a.h) 8 a.part.now (8 * i) in
    c.judge_read.ensures
    ∙ ap (λ (sizes : List ℕ). verdict (meta2_tests a.h (entry sizes) a.maxchunks a.at a.part.now))
    (ap sizes_of (counted s) ∙ sizes_counted a.lists.now a.h.n count c.requires.sound.tasks c.told-lists)

pub returns-clause-lists_after : goal.returns-clause-lists_after
returns-clause-lists_after c =
    let s : After-fill = (goal.at.returns-clause-lists_after c).After-fill in
    counted s
