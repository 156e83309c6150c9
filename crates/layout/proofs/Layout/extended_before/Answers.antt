-- The loop's invariant: `sum` is what the tasks passed add up to.
use mathlib.Core.Path.{◌≡◌, sym, ap, ◌∙◌}
use native.Mathlib.Omega.{arith}
use lib.ListN.{get_or}
use Rattle.format.specs.Layout.{extended, extended_before}
use Rattle.format.proofs.Bounds.{extended_before_small}
use Rattle.format.proofs.Chunks.{extended_before_none, extended_before_more, extended_before_step}
use Rattle.layout.proofs.Sizes.{length_first, within_first, size_first, size_small}
use Rattle.layout.proofs.Layout.extended_before.Goals as goal
use Rattle.layout.proofs.Layout.extended_before.Goals.{After-chunk_holds-sum}

pub loop-size-init : goal.loop-size-init
loop-size-init c = sym (extended_before_none c.args.self.now.blocksize (λ k. get_or c.args.self.now.sizes.now k 0))

pub chunk_holds-sum-requires : goal.chunk_holds-sum-requires
chunk_holds-sum-requires c =
    let s = c.args.self.now in
    (s.sound.block, size_small s.blocksize s.n s.sizes.now s.sound c.args.i c.requires c.loop-size.size-index c.loop-size-test.true)

-- what is added is the extended size of the next task
added : (c : After-chunk_holds-sum) → c.chunk_holds-sum.result ≡ extended c.args.self.now.blocksize (get_or c.args.self.now.sizes.now c.loop-size.size-index 0)
added c =
    let s = c.args.self.now in
    c.chunk_holds-sum.ensures.extended
    ∙ ap (extended s.blocksize) (size_first s.blocksize s.n s.sizes.now s.sound c.args.i c.requires c.loop-size.size-index c.loop-size-test.true)

pub overflow_add-sum : goal.overflow_add-sum
overflow_add-sum c =
    let s = c.args.self.now in
    let k = c.loop-size.size-index in
    omega (
      arith,
      added (goal.at.overflow_add-sum c).After-chunk_holds-sum,
      extended_before_step s.blocksize (λ k. get_or s.sizes.now k 0) k c.args.i
          (within_first s.blocksize s.n s.sizes.now s.sound c.args.i c.requires k c.loop-size-test.true),
      extended_before_small s.sound c.args.i c.requires,
    )

pub loop-size-preserved : goal.loop-size-preserved
loop-size-preserved c =
    let s = c.args.self.now in
    omega (
      arith,
      added (goal.at.loop-size-preserved c).After-chunk_holds-sum,
      extended_before_more s.blocksize (λ k. get_or s.sizes.now k 0) c.loop-size.size-index,
    )

pub returns : goal.returns
returns c =
    let s = c.args.self.now in
    let k = c.loop-size.size-index in
    let end : k ≡ c.args.i = omega (arith, length_first s.blocksize s.n s.sizes.now s.sound c.args.i c.requires) in
    c.loop-size.invariant ∙ ap (extended_before s.blocksize (λ k. get_or s.sizes.now k 0)) end
