-- By the sizes and the counts that are put.
use mathlib.Core.Path.{ap, ◌∙◌}
use native.Mathlib.Omega.{arith}
use Rattle.format.specs.Layout.{meta2_end}
use Rattle.format.proofs.Chunks.{meta2_end_agree}
use Rattle.packing_plan.proofs.Planned.{each, greatest_is, sizes_sound, size_for, size_range, most_one}
use Rattle.packing_plan.proofs.packed_end.Goals as goal

pub overflow_cast-most : goal.overflow_cast-most
overflow_cast-most c =
    let most = greatest_is _ _ _ _ (omega (arith, c.requires)) c.put_counts.ensures in
    omega (arith, c.greatest-most.ensures, most, most_one c.args.totals.now c.args.h.n c.args.h.format)

pub invariant_of-layout : goal.invariant_of-layout
invariant_of-layout c =
    let sized = size_range c.args.totals.now c.args.h.n c.requires.i_value in
    record { sound = sizes_sound _ _ _ _ (omega (arith, c.requires)) c.put_sizes.ensures _ c.requires.blocksize_value.0 c.requires.blocksize_value.1 sized }

pub meta2_end-requires : goal.meta2_end-requires
meta2_end-requires c =
    let most = greatest_is _ _ _ _ (omega (arith, c.requires)) c.put_counts.ensures in
    omega (arith, c.greatest-most.ensures, most, most_one c.args.totals.now c.args.h.n c.args.h.format)

pub returns : goal.returns
returns c =
    let most = greatest_is _ _ _ _ (omega (arith, c.requires)) c.put_counts.ensures in
    let same = each _ _ _ _ (omega (arith, c.requires)) c.put_sizes.ensures in
    c.meta2_end.ensures
    ∙ meta2_end_agree _ _ _ (size_for c.args.totals.now) same _
    ∙ ap (meta2_end c.args.h.blocksize c.args.h.n (size_for c.args.totals.now)) (c.greatest-most.ensures ∙ most)
