-- Before each turn out is filled from the first k chunks, one after the other; once it is full, the chunks that are left change nothing.
use mathlib.Core.Path.{◌≡◌, ap, ◌∙◌}
use mathlib.Core.List.{List}
use Prim.Native.Nat.{ℕ, ◌-◌, ◌<◌, min}
use native.Mathlib.Omega.{arith}
use lib.ListN.{length, take, drop}
use Rattle.lists.specs.Below.{join_below}
use Rattle.lists.specs.Splice.{splice}
use Rattle.lists.proofs.Below.{join_more}
use Rattle.format.specs.Limits.{max_tasks}
use Rattle.format.specs.Record.{file_in, entry, count_at}
use Rattle.format.specs.Reads.{Container, container_of, chunks_used, stream_of, total_of}
use Rattle.format.proofs.Readable.{read_listed, read_counted}
use Rattle.format.proofs.Stream.{stream_length}
use Rattle.lists.proofs.Copies.{copied_full, copied_more, copied_same, copied_none, Copied}
use Rattle.format.specs.Passed.{Readable}
use Rattle.reads.proofs.copy_stream.Invariants.{before}
use Rattle.reads.proofs.copy_stream.Goals as goal

whole : (c : Container) (task k : ℕ) → k ≡ chunks_used c task → before c task k ≡ stream_of c task
unfolding stream_of
whole c task k e = ap (before c task) e

-- the end, where out is filled from all chunks
ended : {c : Container} {task p k : ℕ} {xs ys : List ℕ} {skip done : ℕ}
    → Readable c task
    → k ≡ chunks_used c task
    → Copied xs (before c task k) p ys skip done
    → (ys ≡ splice xs 0 (take (length xs) (drop p (stream_of c task)))) × (done ≡ min (length xs) (total_of c task - p))
ended {c} {task} {p} {k} {xs} r e copied =
    let s = whole c task k e in (
      copied.holds ∙ ap (λ (s : List ℕ). splice xs 0 (take (length xs) (drop p s))) s,
      copied.filled ∙ ap (λ (n : ℕ). min (length xs) (n - p)) (ap length s ∙ stream_length _ _ r),
    )

pub bounds-lists-i : goal.bounds-lists-i
bounds-lists-i c = let listed : c.args.task - 1 < max_tasks = read_listed c.requires in omega (arith, listed, c.requires.as_many)

pub loop-k-init : goal.loop-k-init
unfolding join_below
loop-k-init c = copied_none c.args.out.now c.args.p

pub returns-then-out-done : goal.returns-then-out-done
returns-then-out-done c =
    let a = c.args in
    let given : Container = container_of (file_in a.l.head) a.l a.lists.now a.image.now a.table.now in
    let counted : entry a.lists.now (count_at (a.task - 1)) ≡ chunks_used given a.task = read_counted c.requires in
    let l = c.loop-k in
    let in_use : l.k < chunks_used given a.task = omega (arith, counted, c.loop-k-test.true) in
    let copied = l.invariant in
    let left : ℕ = chunks_used given a.task - l.k in
    let end = ended c.requires (omega (arith, in_use)) (copied_full _ l.k copied (omega (arith, copied_same copied, c.if-out-done.true)) left).1 in
    record { out_after = end.0; value = end.1 }

pub chunk_part-part-requires-clause-le_chunk : goal.chunk_part-part-requires-clause-le_chunk
chunk_part-part-requires-clause-le_chunk c =
    let counted : entry c.args.lists.now (count_at (c.args.task - 1)) ≡ chunks_used _ c.args.task = read_counted c.requires in
    (omega arith, omega (arith, counted, c.loop-k-test.true))

pub loop-k-preserved : goal.loop-k-preserved
loop-k-preserved c =
    let l = c.loop-k in
    let part = c.chunk_part-part in
    let copied = c.copy_chunk-done.ensures in
    rw (join_more _ l.k, ← part.ensures) (copied_more l.invariant part.result.now _ _ _ copied.out_after copied.value c.saturating_sub-skip.ensures)

pub returns : goal.returns
returns c =
    let counted : entry c.args.lists.now (count_at (c.args.task - 1)) ≡ chunks_used _ c.args.task = read_counted c.requires in
    let l = c.loop-k in
    let end = ended c.requires (omega (arith, counted)) l.invariant in
    record { out_after = end.0; value = end.1 }
