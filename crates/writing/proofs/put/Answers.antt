-- The copy into the unwritten rest of the chunk is one into the whole image.
use mathlib.Core.Path.{◌≡◌, refl, ap}
use Prim.Native.Nat.{ℕ, ◌+◌, ◌-◌, ◌≤◌}
use native.Mathlib.Omega.{arith}
use lib.ListN.{length, length-take, length-drop}
use Rattle.lists.proofs.Stores.{spends_part, spends_same, found_last}
use Rattle.format.specs.Record.{size_of, holds, start_of}
use Rattle.writing.proofs.put.Goals as goal
use Rattle.writing.proofs.put.Goals.{After-chunk_start-start, After-chunk_holds}

-- where the chunk starts, and what it holds
starts : (c : After-chunk_start-start) → c.chunk_start-start.result ≡ start_of c.args.h (size_of c.args.lists.now) c.args.task c.args.spot.chunk
unfolding start_of
starts c = let l = c.of-layout.ensures in rw (l.n, l.blocksize, l.sizes) at c.chunk_start-start.ensures

held : (c : After-chunk_holds) → c.chunk_holds.result ≡ holds c.args.h (size_of c.args.lists.now) (c.args.task - 1)
unfolding holds
held c = let l = c.of-layout.ensures in rw (l.blocksize, l.sizes) at c.chunk_holds.ensures

-- the bytes fit into it, and it lies in the image
fits : (c : After-chunk_holds) → c.args.spot.from + length c.args.bytes.now ≤ c.chunk_holds.result
fits c = omega (arith, held c, c.requires.fits)

inside : (c : After-chunk_holds) → c.chunk_start-start.result + c.chunk_holds.result ≤ length c.args.image.now
unfolding start_of
inside c =
    let l = c.of-layout.ensures in
    let start = rw (l.n, l.blocksize, l.sizes) at c.chunk_start-start.ensures in
    omega (arith, start, held c, c.requires.inside)

pub overflow_add-free : goal.overflow_add-free
overflow_add-free c =
    omega (arith, starts (goal.at.overflow_add-free c).After-chunk_start-start, c.requires.fits, c.requires.inside)

pub overflow_add-end : goal.overflow_add-end
overflow_add-end c = omega (arith, inside (goal.at.overflow_add-end c).After-chunk_holds)

pub slice_bounds-copy_within-start : goal.slice_bounds-copy_within-start
slice_bounds-copy_within-start c = omega (arith, fits (goal.at.slice_bounds-copy_within-start c).After-chunk_holds)

pub slice_bounds-copy_within-end : goal.slice_bounds-copy_within-end
slice_bounds-copy_within-end c = omega (arith, inside (goal.at.slice_bounds-copy_within-end c).After-chunk_holds)

pub slice_bounds-copy_within-count : goal.slice_bounds-copy_within-count
slice_bounds-copy_within-count c =
    let at = goal.at.slice_bounds-copy_within-count c in
    omega (arith, fits at.After-chunk_holds, inside at.After-chunk_holds)

pub copy_within-requires : goal.copy_within-requires
copy_within-requires c =
    let at = goal.at.copy_within-requires c in
    simp (length-take, length-drop) (omega (arith, fits at.After-chunk_holds, inside at.After-chunk_holds))

pub returns : goal.returns
returns c =
    let at = goal.at.returns c in
    let a = c.args in
    let from : ℕ = c.chunk_start-start.result in
    let end : ℕ = from + c.chunk_holds.result in
    found_last
    (spends_same (ap (λ (x : ℕ). x + a.spot.from) (starts at.After-chunk_start-start)) refl
    (spends_part a.budget a.image.now (from + a.spot.from) (end - (from + a.spot.from)) a.bytes.now
    (omega (arith, fits at.After-chunk_holds))
    (omega (arith, fits at.After-chunk_holds, inside at.After-chunk_holds))
    c.copy_within.ensures))
