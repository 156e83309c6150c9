-- Five stores, each where the last ended.
use mathlib.Core.Path.{refl, ◌∙◌}
use native.Mathlib.Omega.{arith}
use borrow.Author.Rules.{rules}
use mir.Syntax.{w32}
use Rattle.endian.specs.Number.{digits}
use Rattle.endian.specs.Signed.{signed_digits}
use Rattle.endian.proofs.Number.{length_digits}
use Rattle.lists.proofs.Splice.{put_first, put_then}
use Rattle.format.specs.Meta1.{magic, order_number}
use Rattle.emit.specs.Parts.{versions}
use Rattle.runs.proofs.Signed.{store_signed}
use Rattle.emit.proofs.put_versions.Goals as goal

pub returns : goal.returns
unfolding versions
returns c =
    let a = c.args in
    let xs = a.fields.now in
    let wide = length_digits a.big 4 in
    let marked = put_first xs 0 magic 4 refl c.copy_in.ensures in
    let ordered = put_then xs 0 _ (digits a.big 4 order_number) 4 marked (wide _) c.put.ensures (omega (arith, c.requires)) in
    let version =
    put_then xs 0 _ (signed_digits a.big 4 a.h.version) 4 ordered (wide _)
    (c.put-2.ensures ∙ store_signed _ 8 a.big w32 4 {z = a.h.version} (search rules)) (omega (arith, c.requires)) in
    let patch =
    put_then xs 0 _ (signed_digits a.big 4 a.h.patch) 4 version (wide _)
    (c.put-3.ensures ∙ store_signed _ 12 a.big w32 4 {z = a.h.patch} (search rules)) (omega (arith, c.requires)) in
    (put_then xs 0 _ (digits a.big 4 a.h.format) 4 patch (wide _) c.put-4.ensures (omega (arith, c.requires))).0
