-- Chunk k + 1 is in use in its turn, and there is room for it behind those that are stored.
use mathlib.Core.Path.{◌≡◌, refl, ap}
use mathlib.Core.List.{List}
use Prim.Native.Nat.{ℕ, ◌+◌, ◌-◌, ◌≤◌, ◌<◌}
use native.Mathlib.Omega.{arith}
use lib.ListN.{length, get_or, length-take, length-drop}
use Rattle.lists.specs.Below.{join_below}
use Rattle.lists.proofs.Below.{join_more}
use Rattle.lists.proofs.Stores.{run_then, spends_part, spends_same}
use Rattle.format.specs.Record.{file_in}
use Rattle.format.specs.Reads.{Container, container_of, chunks_used, chunk_bytes, total_of}
use Rattle.format.specs.Passed.{Readable}
use Rattle.format.proofs.Readable.{read_listed, read_counted}
use Rattle.packing_stores.proofs.Runs.{run_none, before, before_fits, before_all}
use Rattle.packing_stores.proofs.put_stream.Goals as goal

-- the place at which a task's chunks are counted
counted : {c : Container} {task : ℕ} → Readable c task → get_or c.lists (128 + (task - 1)) 0 ≡ chunks_used c task
counted r = read_counted r

-- there is room for chunk k + 1
room : {c : Container} {task : ℕ} (r : Readable c task) (k at n m place : ℕ) (part : List ℕ) → k < get_or c.lists (128 + (task - 1)) 0
    → at + total_of c task ≤ n → m ≡ n → place ≡ at + length (before c task k) → part ≡ chunk_bytes c task (k + 1) → place + length part ≤ m
room r k at n m place part used fits long ends e = omega (arith, ap length e, before_fits r k (omega (arith, counted r)))

pub bounds-lists-i : goal.bounds-lists-i
bounds-lists-i c = omega (arith, read_listed c.requires.readable, c.requires.readable.as_many)

pub loop-k-init : goal.loop-k-init
unfolding join_below
loop-k-init c = (run_none c.args.budget c.args.second.now c.args.at)

pub chunk_part-part-requires-clause-le_chunk : goal.chunk_part-part-requires-clause-le_chunk
chunk_part-part-requires-clause-le_chunk c = (omega arith, omega (arith, counted c.requires.readable, c.loop-k-test.true))

pub slice_bounds-copy_within-count : goal.slice_bounds-copy_within-count
slice_bounds-copy_within-count c =
    let l = c.loop-k in
    let fits =
    room c.requires.readable l.k c.args.at _ _ l.place _ c.loop-k-test.true c.requires.task_in_bounds l.auto.second l.invariant.ends
    c.chunk_part-part.ensures in
    omega (arith, fits)

pub slice_bounds-copy_within-start : goal.slice_bounds-copy_within-start
slice_bounds-copy_within-start c =
    let l = c.loop-k in
    let fits =
    room c.requires.readable l.k c.args.at _ _ l.place _ c.loop-k-test.true c.requires.task_in_bounds l.auto.second l.invariant.ends
    c.chunk_part-part.ensures in
    omega (arith, fits)

pub copy_within-left-requires : goal.copy_within-left-requires
copy_within-left-requires c =
    let l = c.loop-k in
    let fits =
    room c.requires.readable l.k c.args.at _ _ l.place _ c.loop-k-test.true c.requires.task_in_bounds l.auto.second l.invariant.ends
    c.chunk_part-part.ensures in
    simp (length-take, length-drop) (omega (arith, fits))

pub overflow_add-place : goal.overflow_add-place
overflow_add-place c =
    let l = c.loop-k in
    let fits =
    room c.requires.readable l.k c.args.at _ _ l.place _ c.loop-k-test.true c.requires.task_in_bounds l.auto.second l.invariant.ends
    c.chunk_part-part.ensures in
    omega (arith, fits)

pub loop-k-preserved : goal.loop-k-preserved
loop-k-preserved c =
    let a = c.args in
    let l = c.loop-k in
    let given : Container = container_of (file_in a.l.head) a.l a.lists.now a.image.now a.table.now in
    let part = c.chunk_part-part.result.now in
    let n = length l.second - l.place in
    let fits =
    room c.requires.readable l.k a.at _ _ l.place part c.loop-k-test.true c.requires.task_in_bounds l.auto.second l.invariant.ends
    c.chunk_part-part.ensures in
    let stored = spends_part l.left l.second l.place n part (omega (arith, fits)) (omega (arith, fits)) c.copy_within-left.ensures in
    rw (join_more (λ j. chunk_bytes given a.task (j + 1)) l.k, ← c.chunk_part-part.ensures)
    (run_then a.budget a.second.now a.at _ part (length part) l.invariant refl stored (omega (arith, fits, l.auto.second)))

pub returns : goal.returns
returns c =
    let a = c.args in
    let l = c.loop-k in
    let given : Container = container_of (file_in a.l.head) a.l a.lists.now a.image.now a.table.now in
    spends_same refl (before_all given a.task l.k (omega (arith, counted c.requires.readable)))
    l.invariant.spends
