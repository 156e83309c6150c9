-- The total of task i + 1 is put behind those of the first i tasks.
use mathlib.Core.Path.{◌≡◌, refl, ◌∙◌}
use Prim.Native.Nat.{ℕ, ◌+◌}
use mathlib.Core.List.{List}
use lib.IntN.{ℤ}
use Rattle.lists.proofs.Splice.{splice_none, splice_more}
use Rattle.format.specs.declared.head.File.{File}
use Rattle.format.specs.declared.loaded.Loaded.{Loaded}
use Rattle.format.specs.Record.{file_in}
use Rattle.format.specs.declared.head.File.TheVariants.{Single}
use Rattle.format.specs.Reads.{Container, container_of, chunks_used, written_in, total_of}
use Rattle.packs.specs.Pack.{total}
use Rattle.packing_plan.proofs.Planned.{put_whole}
use Rattle.packing_plan.proofs.put_totals.Goals as goal

-- a total does not ask which file the call means
any_file : (f : File) (l : Loaded) (lists image : List ℕ) (table : List ℤ) (task : ℕ)
    → total_of (container_of f l lists image table) task ≡ total_of (container_of Single l lists image table) task
unfolding total_of chunks_used written_in
any_file f l lists image table task = refl

pub loop-i-init : goal.loop-i-init
loop-i-init c = splice_none _ _

pub loop-i-preserved : goal.loop-i-preserved
loop-i-preserved c =
    let a = c.args in
    let held : Container = container_of Single a.l a.lists.now a.image.now a.table.now in
    let i : ℕ = c.loop-i.i in
    let here = c.total_of.ensures ∙ any_file (file_in a.l.head) a.l a.lists.now a.image.now a.table.now (i + 1) in
    rw (here, c.loop-i.invariant) (splice_more _ (total held) i c.loop-i-test.true)

pub returns : goal.returns
returns c = let l = c.loop-i in put_whole c.args.totals.now c.args.l.head.n l.i _ c.requires.n_in_bounds l.auto.i-end c.loop-i-test.false l.invariant
