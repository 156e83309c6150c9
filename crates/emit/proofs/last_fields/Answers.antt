-- Both fields made, and copied in as one run.
use mathlib.Core.Path.{refl, ◌∙◌}
use Prim.Native.Nat.{ℕ, ◌-◌}
use native.Mathlib.Omega.{arith}
use lib.ListN.{length, replicate, length-take, length-drop}
use Rattle.endian.specs.Number.{digits}
use Rattle.endian.proofs.Number.{length_digits}
use Rattle.lists.proofs.Splice.{splice_over, put_first, put_then}
use Rattle.lists.proofs.Stores.{spends_part, spends_same}
use Rattle.format.specs.Layout.{meta1_end}
use Rattle.format.specs.Meta1.{last_fields}
use Rattle.format.proofs.Stored.{length_last}
use Rattle.emit.proofs.last_fields.Goals as goal

pub slice_bounds-copy_within-start : goal.slice_bounds-copy_within-start
unfolding meta1_end
slice_bounds-copy_within-start c = omega (arith, c.last_at-at.ensures, c.requires)

pub slice_bounds-copy_within-count : goal.slice_bounds-copy_within-count
unfolding meta1_end
slice_bounds-copy_within-count c = omega (arith, c.last_at-at.ensures, c.requires)

pub copy_within-requires : goal.copy_within-requires
unfolding meta1_end
copy_within-requires c = simp (length-take, length-drop) (omega (arith, c.last_at-at.ensures, c.requires, c.put-2.auto.s))

pub returns : goal.returns
unfolding last_fields meta1_end
returns c =
    let a = c.args in
    let xs = a.image.now in
    let zeros = replicate {A = ℕ} 12 0 in
    let maxchunks = put_first zeros 0 (digits a.big 4 a.maxchunks) 4 (length_digits a.big 4 _) c.put.ensures in
    let both = (put_then zeros 0 _ (digits a.big 8 a.start) 8 maxchunks (length_digits a.big 8 _) c.put-2.ensures (omega arith)).0 in
    let long = length_last a.big a.maxchunks a.start in
    let made = both ∙ splice_over zeros (last_fields a.big a.maxchunks a.start) long in
    let at = c.last_at-at.result in
    spends_same c.last_at-at.ensures refl
    (spends_part a.budget xs at (length xs - at) (last_fields a.big a.maxchunks a.start) (omega (arith, long, c.requires, c.last_at-at.ensures))
    (omega (arith, c.requires, c.last_at-at.ensures)) (rw made at c.copy_within.ensures))
