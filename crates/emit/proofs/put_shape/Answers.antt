-- Five stores, each where the last ended.
use mathlib.Core.Path.{◌≡◌, ap, ◌∙◌}
use Prim.Native.Nat.{ℕ}
use native.Mathlib.Omega.{arith}
use lib.ListN.{length, take, drop, replicate, length-drop, length-replicate}
use lib.Seq.{length-take-le}
use Rattle.endian.proofs.Number.{length_digits}
use Rattle.lists.proofs.Splice.{splice_whole, put_first, put_then}
use Rattle.emit.specs.Parts.{shape}
use Rattle.emit.proofs.put_shape.Goals as goal

pub returns : goal.returns
unfolding shape
returns c =
    let a = c.args in
    let xs = a.fields.now in
    let ys = c.put-4.new.s in
    let wide = length_digits a.big 4 in
    let blocksize = put_first xs 20 _ 4 (wide a.h.blocksize) c.put.ensures in
    let tasks = put_then xs 20 _ _ 4 blocksize (wide a.h.n) c.put-2.ensures (omega (arith, c.requires)) in
    let files = put_then xs 20 _ _ 4 tasks (wide a.h.files) c.put-3.ensures (omega (arith, c.requires)) in
    let number = put_then xs 20 _ _ 4 files (wide a.h.file) c.put-4.ensures (omega (arith, c.requires)) in
    let flags : length (take 16 (drop 36 ys)) ≡ 16 = length-take-le 16 (drop 36 ys) (simp length-drop (omega (
      arith,
      c.requires,
      c.put-4.auto.s,
      c.put-3.auto.s,
      c.put-2.auto.s,
      c.put.auto.s,
    ))) in
    let cleared = splice_whole ys 36 (replicate 16 0) 16 (c.clear.ensures ∙ ap (λ (k : ℕ). replicate k 0) flags) (length-replicate {A = ℕ} 16 0) in
    (put_then xs 20 _ (replicate 16 0) 16 number (length-replicate {A = ℕ} 16 0) cleared (omega (arith, c.requires))).0
