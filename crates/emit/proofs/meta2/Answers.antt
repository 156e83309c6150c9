-- The counts, and the cells where these end.
use mathlib.Core.Path.{refl}
use Prim.Native.Nat.{◌*◌}
use native.Mathlib.Omega.{arith}
use lib.IntN.{pos}
use lib.ListN.{length-take}
use Rattle.endian.specs.Number.{digits}
use Rattle.endian.specs.Signed.{signed_digits}
use Rattle.endian.proofs.Number.{length_digits}
use Rattle.endian.proofs.Signed.{length_numbers}
use Rattle.lists.proofs.Stores.{spends_same, runs, run_then}
use Rattle.runs.proofs.Listed.{listed}
use Rattle.format.specs.Meta2.{meta2}
use Rattle.format.specs.Record.{entry, cell}
use Rattle.format.proofs.Chunks.{meta2_parts}
use Rattle.emit.proofs.meta2.Goals as goal

pub put_list-left-requires : goal.put_list-left-requires
put_list-left-requires c = let a = c.args in simp length-take (omega (arith, c.requires, meta2_parts a.n a.maxchunks))

pub put_list-requires : goal.put_list-requires
put_list-requires c = let a = c.args in simp length-take (omega (arith, c.requires, meta2_parts a.n a.maxchunks))

pub returns : goal.returns
unfolding meta2
returns c =
    let a = c.args in
    let xs = a.image.now in
    let cells = a.n * a.maxchunks in
    let few = c.requires.n_le_max_tasks in
    let put_counts = spends_same refl (listed (digits a.big 8) a.counts.now a.n 0 (omega arith)) c.put_list-left.ensures in
    let put_cells = spends_same refl (listed (signed_digits a.big 8) a.table.now cells (pos 0) (omega arith)) c.put_list.ensures in
    let counts = runs a.budget xs a.at 8 (λ i. digits a.big 8 (entry a.counts.now i)) (λ i. length_digits a.big 8 _) a.n put_counts in
    (run_then a.budget xs a.at _ _ (8 * cells) counts (length_numbers a.big 8 cells (cell a.table.now)) put_cells
    (omega (arith, c.requires, meta2_parts a.n a.maxchunks))).spends
