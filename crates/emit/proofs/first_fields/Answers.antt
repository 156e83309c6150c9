-- Two groups, the second where the first ends, over all of the bytes.
use mathlib.Core.Path.{◌∙◌}
use Prim.Native.Nat.{ℕ}
use native.Mathlib.Omega.{arith}
use lib.ListN.{replicate}
use Rattle.lists.proofs.Splice.{splice_over, put_first, put_then}
use Rattle.emit.specs.Parts.{first_fields}
use Rattle.emit.proofs.Parts.{length_versions, length_shape, length_first}
use Rattle.emit.proofs.first_fields.Goals as goal

pub returns : goal.returns
returns c =
    let a = c.args in
    let h = a.h in
    let xs = replicate {A = ℕ} 52 0 in
    let start = put_first xs 0 _ 20 (length_versions a.big h.version h.patch h.format) c.put_versions.ensures in
    (put_then xs 0 _ _ 32 start (length_shape a.big h.blocksize h.n h.files h.file) c.put_shape.ensures (omega arith)).0
    ∙ splice_over xs (first_fields a.big h) (length_first a.big h)
