-- What is listed for a task is its packed size, so its chunk holds that many bytes, and there is room for it behind those that are stored.
use mathlib.Core.Path.{◌≡◌, refl, sym, ap, ◌∙◌}
use mathlib.Core.Bool.{true}
use mathlib.Core.List.{List, ◌++◌}
use Prim.Native.Nat.{ℕ, ◌+◌, ◌-◌, ◌≤◌, ◌<◌}
use native.Mathlib.Nat.{le_antisymm}
use native.Mathlib.Omega.{arith}
use lib.IntN.{pos}
use lib.ListN.{length, take, get_or, replicate}
use Rattle.lists.specs.Below.{join_below, list_below}
use Rattle.lists.proofs.Below.{join_more, length_list, get_or_list}
use Rattle.lists.proofs.Stores.{run_then, spends_same}
use Rattle.format.specs.Limits.{blocksize_rule, max_tasks}
use Rattle.format.specs.Layout.{data_start, globalskip, capacity}
use Rattle.format.specs.Refusals.{first_failing}
use Rattle.format.specs.Record.{file_in}
use Rattle.format.specs.Reads.{Container, container_of, stream_of}
use Rattle.format.proofs.Passing.{head_block, head_tasks}
use Rattle.packs.specs.Pack.{pack_tests, total, packed_size, packed_chunk}
use Rattle.packs.proofs.Packed.{passed, total_fits, chunk_long}
use Rattle.packing_stores.proofs.Runs.{run_none}
use Rattle.packing_stores.proofs.Chunks.{task_readable, packed_small, chunks_fit}
use Rattle.packing_stores.proofs.put_chunks.Goals as goal

-- a container whose packing is accepted, and the list of its packed sizes
module _ (g : Container) (e : first_failing (pack_tests g) ≡ 0) (sizes : List ℕ)
    (same : take g.loaded.head.n sizes ≡ list_below g.loaded.head.n (packed_size g)) where
  abbrev b : ℕ
  b = g.loaded.head.blocksize

  abbrev n : ℕ
  n = g.loaded.head.n

  block : (blocksize_rule (pos b) ≡ true) × (n ≤ max_tasks)
  block = let h = (passed g e).head in (head_block _ _ h, (head_tasks _ _ h).1)

  -- a turn is one of the tasks, and has its packed size
  long : length (take n sizes) ≡ n
  long = ap length same ∙ length_list (packed_size g) n

  turn : {i : ℕ} → i < length (take n sizes) → i < n
  turn l = rw long at l

  listed : (i : ℕ) → i < n → get_or (take n sizes) i 0 ≡ packed_size g i
  listed i l = ap (λ (xs : List ℕ). get_or xs i 0) same ∙ get_or_list (packed_size g) n i 0 l

  -- what the chunk of task i + 1 holds
  held : (i : ℕ) → i < n → (holds : ℕ) → holds ≡ capacity b (get_or (take n sizes) i 0) → holds ≡ capacity b (packed_size g i)
  held i l holds h = h ∙ ap (capacity b) (listed i l)

  -- there is room for it
  room : (i : ℕ) → i < n → (holds : ℕ) → holds ≡ capacity b (get_or (take n sizes) i 0) → (old m place : ℕ)
      → data_start b n + globalskip b n (packed_size g) ≤ old → m ≡ old → place ≡ data_start b n + length (join_below i (packed_chunk g))
      → place + holds ≤ m
  room i l holds h old m place fits long ends = omega (arith, held i l holds h, chunks_fit g e i l)

pub data_start-place-requires : goal.data_start-place-requires
data_start-place-requires c =
    let a = c.args in
    let given : Container = container_of (file_in a.l.head) a.l a.lists.now a.image.now a.table.now in
    block given c.requires.passes a.sizes.now c.requires.sizes_value

pub loop-i-init : goal.loop-i-init
unfolding join_below
loop-i-init c = (rw c.data_start-place.ensures (run_none c.args.budget c.args.second.now _))

pub slice_bounds-size-items-end : goal.slice_bounds-size-items-end
slice_bounds-size-items-end c =
    let a = c.args in
    sym (long (container_of (file_in a.l.head) a.l a.lists.now a.image.now a.table.now) c.requires.passes a.sizes.now c.requires.sizes_value)

pub chunk_holds-holds-requires : goal.chunk_holds-holds-requires
chunk_holds-holds-requires c =
    let a = c.args in
    let given : Container = container_of (file_in a.l.head) a.l a.lists.now a.image.now a.table.now in
    let e = c.requires.passes in
    let same = c.requires.sizes_value in
    let i = c.loop-i.i in
    let here = turn given e a.sizes.now same c.loop-i-test.true in
    ((block given e a.sizes.now same).0, omega (arith, listed given e a.sizes.now same i here, packed_small given e i here))

pub put_chunk-left-requires-clause-readable : goal.put_chunk-left-requires-clause-readable
put_chunk-left-requires-clause-readable c =
    let a = c.args in
    let given : Container = container_of (file_in a.l.head) a.l a.lists.now a.image.now a.table.now in
    let e = c.requires.passes in
    task_readable given e c.told-lists c.loop-i.i (turn given e a.sizes.now c.requires.sizes_value c.loop-i-test.true)

pub put_chunk-left-requires-clause-task_bound : goal.put_chunk-left-requires-clause-task_bound
put_chunk-left-requires-clause-task_bound c =
    let a = c.args in
    let given : Container = container_of (file_in a.l.head) a.l a.lists.now a.image.now a.table.now in
    let e = c.requires.passes in
    let same = c.requires.sizes_value in
    let l = c.loop-i in
    let here = turn given e a.sizes.now same c.loop-i-test.true in
    let holds = c.chunk_holds-holds.ensures.holds in (
      omega (arith, held given e a.sizes.now same l.i here _ holds, total_fits given e l.i),
      room given e a.sizes.now same l.i here _ holds _ _ l.place c.requires.table_in_bounds l.auto.second l.invariant.ends,
    )

pub overflow_add-place : goal.overflow_add-place
overflow_add-place c =
    let a = c.args in
    let given : Container = container_of (file_in a.l.head) a.l a.lists.now a.image.now a.table.now in
    let e = c.requires.passes in
    let l = c.loop-i in
    let here = turn given e a.sizes.now c.requires.sizes_value c.loop-i-test.true in
    let fits =
    room given e a.sizes.now c.requires.sizes_value l.i here _ c.chunk_holds-holds.ensures.holds _ _ l.place
    c.requires.table_in_bounds l.auto.second l.invariant.ends in
    omega (arith, fits)

pub loop-i-preserved : goal.loop-i-preserved
unfolding packed_chunk
loop-i-preserved c =
    let a = c.args in
    let given : Container = container_of (file_in a.l.head) a.l a.lists.now a.image.now a.table.now in
    let e = c.requires.passes in
    let l = c.loop-i in
    let here = turn given e a.sizes.now c.requires.sizes_value c.loop-i-test.true in
    let holds = c.chunk_holds-holds.result in
    let same = held given e a.sizes.now c.requires.sizes_value l.i here holds c.chunk_holds-holds.ensures.holds in
    let fits =
    room given e a.sizes.now c.requires.sizes_value l.i here holds c.chunk_holds-holds.ensures.holds _ _ l.place c.requires.table_in_bounds
    l.auto.second l.invariant.ends in
    let chunk = packed_chunk given l.i in
    let long = chunk_long given e l.i here ∙ sym same in
    let stored =
    spends_same refl (ap (λ (k : ℕ). stream_of given (l.i + 1) ++ replicate (k - total given l.i) 0) same) c.put_chunk-left.ensures in
    rw (join_more (packed_chunk given) l.i)
    (run_then a.budget a.second.now _ _ chunk holds l.invariant long stored (omega (arith, fits, l.auto.second)))

pub returns : goal.returns
returns c =
    let a = c.args in
    let given : Container = container_of (file_in a.l.head) a.l a.lists.now a.image.now a.table.now in
    let l = c.loop-i in
    let last : l.i ≡ a.l.head.n =
    le_antisymm l.auto.i-end c.loop-i-test.false ∙ long given c.requires.passes a.sizes.now c.requires.sizes_value in
    spends_same refl (ap (λ (k : ℕ). join_below k (packed_chunk given)) last) l.invariant.spends
