-- Ranks, then sizes, are put into lists of zeros, and judged there.
use mathlib.Core.Path.{◌≡◌, ap, ap₂, ◌∙◌}
use mathlib.Core.List.{List, ◌++◌}
use Prim.Native.Nat.{ℕ, ◌+◌, ◌-◌, ◌*◌, ◌≤◌}
use native.Mathlib.Omega.{arith}
use borrow.Rule.Slice.PartMut.{mid_of, post_of}
use lib.ListN.{length, take, drop, length-drop}
use lib.Seq.{length-take-le}
use Rattle.lists.specs.Below.{list_below}
use Rattle.lists.specs.Splice.{splice}
use Rattle.lists.proofs.Below.{length_list}
use Rattle.lists.proofs.Splice.{splice_whole}
use Rattle.endian.specs.Number.{number_at}
use Rattle.format.specs.Limits.{max_tasks}
use Rattle.format.specs.Layout.{meta1_end}
use Rattle.format.specs.Record.{all_lists, is_big, no_lists}
use Rattle.meta1.specs.Judging.{lists_read}
use Rattle.format.proofs.Stripes.{lists_put, length_ranked}
use Rattle.meta1.proofs.Answers.{rank, size}
use Rattle.meta1.proofs.judge_lists.Goals as goal
use Rattle.meta1.proofs.judge_lists.Goals.{Start, After-fill, After-fill-2}

-- META1 is there whole
long : (s : Start) → meta1_end s.args.h.n ≤ length s.args.xs.now
unfolding meta1_end
long s = let few = s.requires.0.few in
    s.requires.0.covers (meta1_end s.args.h.n) s.requires.0.long (omega arith)

ranks_long : (s : Start) → length (take s.args.h.n s.args.lists.now) ≡ s.args.h.n
ranks_long s = length-take-le s.args.h.n s.args.lists.now (omega (arith, s.requires.0.few, s.told-lists))

pub fill-requires : goal.fill-requires
unfolding meta1_end
fill-requires c =
    let s = (goal.at.fill-requires c).Start in
    omega (arith, long s, ranks_long s)

-- the lists after the ranks
ranked : (c : After-fill) → length (take c.args.h.n c.args.lists.now) ≡ c.args.h.n
    → c.fill.new.into ++ post_of 0 c.args.h.n c.args.lists.now ≡ splice no_lists 0 (list_below c.args.h.n (rank c.requires.0))
ranked c n = let ranks = list_below c.args.h.n (rank c.requires.0) in
    splice_whole c.args.lists.now 0 ranks c.args.h.n (c.fill.ensures ∙ ap (λ (n : ℕ). list_below n (rank c.requires.0)) n)
    (length_list (rank c.requires.0) c.args.h.n)
    ∙ ap (λ (lists : List ℕ). splice lists 0 ranks) c.requires.1

sizes_long : (lists : List ℕ) (n : ℕ) → length lists ≡ all_lists → n ≤ max_tasks → length (mid_of max_tasks (max_tasks + n - max_tasks) lists) ≡ n
sizes_long lists n l few = length-take-le (max_tasks + n - max_tasks) (drop max_tasks lists) (omega (arith, length-drop max_tasks lists)) ∙ omega arith

pub fill-requires-2 : goal.fill-requires-2
unfolding meta1_end
fill-requires-2 c =
    let at = goal.at.fill-requires-2 c in
    let n = c.args.h.n in
    let lists = c.fill.new.into ++ post_of 0 n c.args.lists.now in
    let put = ranked at.After-fill (ranks_long at.Start) in
    let many : length lists ≡ all_lists = ap length put ∙ length_ranked n (rank c.requires.0) (size c.requires.0) c.requires.0.few in
    omega (arith, long at.Start, c.sizes_at.ensures, sizes_long lists n many c.requires.0.few)

-- and after the sizes
filled : (c : After-fill-2) (lists : List ℕ) → lists ≡ splice no_lists 0 (list_below c.args.h.n (rank c.requires.0))
    → c.fill-2.new.into
    ≡ list_below (length (mid_of max_tasks (max_tasks + c.args.h.n - max_tasks) lists))
    (λ i. number_at (is_big c.args.h) 8 c.args.xs.now (c.sizes_at.result + 8 * i))
    → take max_tasks lists ++ (c.fill-2.new.into ++ post_of max_tasks (max_tasks + c.args.h.n - max_tasks) lists) ≡ lists_read c.args.xs.now c.args.h
unfolding lists_read
filled c lists put e =
    let p = c.requires.0 in
    let n = c.args.h.n in
    let many : length lists ≡ all_lists = ap length put ∙ length_ranked n (rank p) (size p) p.few in
    let sizes : c.fill-2.new.into ≡ list_below n (size p) =
    e
    ∙ ap₂ (λ (n : ℕ) (at : ℕ). list_below n (λ i. number_at (is_big c.args.h) 8 c.args.xs.now (at + 8 * i)))
    (sizes_long lists n many p.few) c.sizes_at.ensures in
    splice_whole lists max_tasks (list_below n (size p)) (max_tasks + n - max_tasks) sizes (length_list (size p) n ∙ omega arith)
    ∙ ap (λ (lists : List ℕ). splice lists max_tasks (list_below n (size p))) put
    ∙ lists_put n (rank p) (size p) p.few

pub judge_read-requires : goal.judge_read-requires
judge_read-requires c =
    let at = goal.at.judge_read-requires c in
    (c.requires.0, filled at.After-fill-2 _ (ranked at.After-fill (ranks_long at.Start)) c.fill-2.ensures)

pub returns-clause-lists_after : goal.returns-clause-lists_after
returns-clause-lists_after c =
    let at = goal.at.returns-clause-lists_after c in
    filled at.After-fill-2 _ (ranked at.After-fill (ranks_long at.Start)) c.fill-2.ensures
