-- META2's part of the image, and its values in the table.
use mathlib.Core.Path.{◌≡◌, ap, ap₂, ◌∙◌}
use mathlib.Core.List.{List}
use Prim.Native.Nat.{ℕ, ◌+◌, ◌-◌, ◌*◌, ◌≤◌}
use native.Mathlib.Omega.{arith}
use lib.ListN.{length, take, drop, get_or, length-drop}
use lib.Seq.{length-take-le}
use Rattle.lists.specs.Below.{list_below}
use Rattle.lists.specs.Splice.{splice}
use Rattle.lists.proofs.Below.{length_list}
use Rattle.lists.proofs.Splice.{splice_whole}
use Rattle.format.specs.Layout.{meta2_start, meta2_end}
use Rattle.format.specs.Meta2.{meta2_part, value_field}
use Rattle.format.specs.Record.{size_of, is_big, meta2_at, end_at}
use Rattle.format.specs.Judge.{values_in}
use Rattle.format.proofs.Chunks.{meta2_parts}
use Rattle.loading.proofs.fill.Goals as goal
use Rattle.loading.proofs.fill.Goals.{Start, After-meta2_start-start, After-meta2_length}

-- where META2 starts, and that it is inside
placed : (c : After-meta2_start-start) → let r = c.args.loaded in
    c.meta2_start-start.result ≡ meta2_at r.head (size_of c.args.lists.now) r.maxchunks
unfolding meta2_at
placed c =
    c.meta2_start-start.ensures
    ∙ (λ i. meta2_start (c.of.ensures.blocksize i) (c.of.ensures.n i) (λ j. get_or (c.of.ensures.sizes i) j 0) c.args.loaded.maxchunks)

inside : (c : After-meta2_length) → let r = c.args.loaded in
    c.meta2_start-start.result ≡ meta2_at r.head (size_of c.args.lists.now) r.maxchunks
    → c.meta2_start-start.result + c.meta2_length.result ≤ length c.args.image.now
unfolding meta2_at end_at meta2_end
inside c e = omega (arith, c.requires.image_long, e, c.meta2_length.ensures)

pub overflow_add-end : goal.overflow_add-end
overflow_add-end c =
    let at = goal.at.overflow_add-end c in
    omega (arith, inside at.After-meta2_length (placed at.After-meta2_start-start))

pub slice_bounds-fill-end : goal.slice_bounds-fill-end
slice_bounds-fill-end c =
    let at = goal.at.slice_bounds-fill-end c in
    omega (arith, inside at.After-meta2_length (placed at.After-meta2_start-start))

pub fill-requires : goal.fill-requires
fill-requires c =
    let at = goal.at.fill-requires c in
    let r = c.args.loaded in
    let start = c.meta2_start-start.result in
    let within : start + c.meta2_length.result ≤ length c.args.image.now = inside at.After-meta2_length (placed at.After-meta2_start-start) in
    let part_long : length (take (start + c.meta2_length.result - start) (drop start c.args.image.now)) ≡ start + c.meta2_length.result - start =
    length-take-le (start + c.meta2_length.result - start) (drop start c.args.image.now) (simp length-drop (omega (arith, within))) in
    let cells_long : length (take (r.head.n * r.maxchunks) c.args.table.now) ≡ r.head.n * r.maxchunks =
    length-take-le (r.head.n * r.maxchunks) c.args.table.now c.requires.table_long in
    omega (arith, part_long, cells_long, c.meta2_length.ensures, meta2_parts r.head.n r.maxchunks)

pub returns : goal.returns
unfolding values_in
returns c =
    let at = goal.at.returns c in
    let r = c.args.loaded in
    let n = r.head.n in
    let start = c.meta2_start-start.result in
    let part : List ℕ = take (start + c.meta2_length.result - start) (drop start c.args.image.now) in
    let same : start + c.meta2_length.result - start ≡ c.meta2_length.result = omega arith in
    let part_is : part ≡ meta2_part c.args.image.now (meta2_at r.head (size_of c.args.lists.now) r.maxchunks) n r.maxchunks =
    ap₂ (λ (k at : ℕ). take k (drop at c.args.image.now)) (same ∙ c.meta2_length.ensures) (placed at.After-meta2_start-start) in
    let cells = n * r.maxchunks in
    let cells_long : length (take cells c.args.table.now) ≡ cells = length-take-le cells c.args.table.now c.requires.table_long in
    splice_whole c.args.table.now 0 (list_below cells (value_field (is_big r.head) part n)) cells
    (c.fill.ensures ∙ ap (λ (k : ℕ). list_below k (value_field (is_big r.head) part n)) cells_long)
    (length_list (value_field (is_big r.head) part n) cells)
    ∙ ap (λ (xs : List ℕ). splice c.args.table.now 0 (list_below cells (value_field (is_big r.head) xs n))) part_is
