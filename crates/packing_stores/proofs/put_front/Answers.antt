-- Five runs, each where the last ended.
use mathlib.Core.Path.{◌≡◌, refl, ap, ap₂, ◌∙◌}
use mathlib.Core.Bool.{Bool, true}
use mathlib.Core.List.{List}
use Prim.Native.Nat.{ℕ, ◌+◌, ◌-◌, ◌≤◌}
use native.Mathlib.Omega.{arith}
use lib.IntN.{pos}
use lib.ListN.{length, take, get_or, replicate, length-take}
use Rattle.std.specs.List.{flat_map}
use Rattle.lists.specs.Below.{join_below}
use Rattle.lists.proofs.Below.{join_cong}
use Rattle.lists.proofs.Stores.{spends_same}
use Rattle.runs.proofs.Listed.{listed}
use Rattle.endian.specs.Number.{digits}
use Rattle.format.specs.Limits.{blocksize_rule, max_tasks}
use Rattle.format.specs.declared.head.Head.{Head}
use Rattle.format.specs.Layout.{meta1_end, data_start}
use Rattle.format.specs.Record.{all_lists, entry, rank_of, is_big}
use Rattle.format.specs.Meta1.{last_at}
use Rattle.format.proofs.Stripes.{rank_at_place}
use Rattle.emit.proofs.Parts.{opening_fits}
use Rattle.packing_stores.proofs.Front.{front_stored}
use Rattle.packing_stores.proofs.put_front.Goals as goal

-- META1's last fields end before D, and D is in the second image
ends_before : (h : Head) → blocksize_rule (pos h.blocksize) ≡ true → last_at h.n + 12 ≤ data_start h.blocksize h.n
ends_before h block = opening_fits h.blocksize h.n block

pub put_fields-left-requires : goal.put_fields-left-requires
put_fields-left-requires c =
    let fits = ends_before c.args.h c.requires.blocksize_value.0 in
    (c.requires.n_in_bounds.1, omega (arith, c.requires, fits))

-- of each list the first n numbers are stored
ranks_listed : (lists : List ℕ) (n : ℕ) (big : Bool)
    → length lists ≡ all_lists
    → n ≤ max_tasks
    → flat_map (digits big 8) (take n lists) ≡ join_below n (λ i. digits big 8 (rank_of lists i))
ranks_listed lists n big long few =
    listed (digits big 8) lists n 0 (omega arith)
    ∙ join_cong (λ i. digits big 8 (get_or lists i 0)) (λ i. digits big 8 (rank_of lists i)) n
    (λ i l. ap (digits big 8) (rank_at_place lists i (omega arith)))

pub put_list-left-requires : goal.put_list-left-requires
put_list-left-requires c =
    let fits = ends_before c.args.h c.requires.blocksize_value.0 in
    simp length-take (omega (arith, c.requires, fits, c.put_fields-left.auto.second))

pub put_list-left-requires-2 : goal.put_list-left-requires-2
put_list-left-requires-2 c =
    let fits = ends_before c.args.h c.requires.blocksize_value.0 in
    simp length-take (omega (arith, c.requires, fits, c.sizes_at.ensures, c.put_list-left.auto.image, c.put_fields-left.auto.second))

pub last_fields-left-requires : goal.last_fields-left-requires
unfolding meta1_end
last_fields-left-requires c =
    let fits = ends_before c.args.h c.requires.blocksize_value.0 in (
      c.requires.blocksize_value.1,
      omega (arith, c.requires, fits, c.put_list-left-2.auto.image, c.put_list-left.auto.image, c.put_fields-left.auto.second),
    )

pub put_zeros-requires : goal.put_zeros-requires
unfolding meta1_end
put_zeros-requires c =
    let fits = ends_before c.args.h c.requires.blocksize_value.0 in
    let ends = c.data_start-end.ensures in (
      omega (arith, fits, ends, c.meta1_end-from.ensures),
      omega (
        arith,
        c.requires,
        ends,
        c.last_fields-left.auto.image,
        c.put_list-left-2.auto.image,
        c.put_list-left.auto.image,
        c.put_fields-left.auto.second,
      ),
    )

pub returns : goal.returns
returns c =
    let a = c.args in
    let from = c.meta1_end-from.ensures in
    let gap = ap₂ (λ (end at : ℕ). replicate {A = ℕ} (end - at) 0) c.data_start-end.ensures from in
    let ranks = ranks_listed a.lists.now a.h.n (is_big a.h) c.told-lists c.requires.blocksize_value.1 in
    let sizes = listed (digits (is_big a.h) 8) a.sizes.now a.h.n 0 c.requires.n_in_bounds.0 in
    front_stored a.h (rank_of a.lists.now) (entry a.sizes.now) a.image.now c.requires.n_in_bounds.1 a.maxchunks a.start a.budget
    a.second.now c.requires.blocksize_value.0 c.requires.n_in_bounds.2 c.put_fields-left.ensures
    (spends_same refl ranks c.put_list-left.ensures)
    (spends_same c.sizes_at.ensures sizes c.put_list-left-2.ensures)
    c.last_fields-left.ensures
    (spends_same from gap c.put_zeros.ensures)
