-- The loop's invariant: what a chunk holds of the first i tasks is spliced into the list's start.
use mathlib.Core.Path.{◌≡◌, ap, ◌∙◌}
use Prim.Native.Nat.{ℕ}
use native.Mathlib.Nat.{le_refl}
use native.Mathlib.Omega.{arith}
use lib.ListN.{get_or}
use Rattle.lists.specs.Below.{list_below}
use Rattle.lists.specs.Splice.{splice}
use Rattle.lists.proofs.Splice.{splice_none, splice_more}
use Rattle.format.specs.Layout.{capacity}
use Rattle.layout.proofs.Sizes.{length_first, within_first, size_first, size_small}
use Rattle.layout.proofs.Layout.chunks_hold.Goals as goal

pub loop-i-init : goal.loop-i-init
loop-i-init c =
    let s = c.args.self.now in
    splice_none c.args.holds.now (λ j. capacity s.blocksize (get_or s.sizes.now j 0))

pub chunk_holds-requires : goal.chunk_holds-requires
chunk_holds-requires c =
    let s = c.args.self.now in
    (s.sound.block, size_small s.blocksize s.n s.sizes.now s.sound s.n (le_refl s.n) c.loop-i.i c.loop-i-test.true)

pub loop-i-preserved : goal.loop-i-preserved
loop-i-preserved c =
    let s = c.args.self.now in
    let i = c.loop-i.i in
    let item = size_first s.blocksize s.n s.sizes.now s.sound s.n (le_refl s.n) i c.loop-i-test.true in
    let here = within_first s.blocksize s.n s.sizes.now s.sound s.n (le_refl s.n) i c.loop-i-test.true in
    rw (c.chunk_holds.ensures.holds, item, c.loop-i.invariant)
    (splice_more c.args.holds.now (λ j. capacity s.blocksize (get_or s.sizes.now j 0)) i (omega (arith, here, c.requires)))

pub returns : goal.returns
returns c =
    let s = c.args.self.now in
    let end : c.loop-i.i ≡ s.n = omega (arith, length_first s.blocksize s.n s.sizes.now s.sound s.n (le_refl s.n)) in
    c.loop-i.invariant ∙ ap (λ (k : ℕ). splice c.args.holds.now 0 (list_below k (λ j. capacity s.blocksize (get_or s.sizes.now j 0)))) end
