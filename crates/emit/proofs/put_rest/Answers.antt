-- Four runs, each where the last ended.
use mathlib.Core.Path.{refl, sym, ap}
use Prim.Native.Nat.{ℕ, ◌-◌}
use native.Mathlib.Omega.{arith}
use lib.ListN.{replicate, length-take}
use lib.Seq.{length-take-le}
use borrow.Author.Rules.{rules}
use Rattle.lists.proofs.Stores.{spends_same}
use Rattle.runs.proofs.Listed.{listed}
use Rattle.endian.specs.Number.{digits}
use Rattle.format.specs.Record.{ranks_of, sizes_of, rank_of, size_of, is_big}
use Rattle.format.proofs.Stripes.{length_ranks, length_sizes}
use Rattle.emit.proofs.Parts.{opening_fits, rest_stored}
use Rattle.emit.proofs.put_rest.Goals as goal

pub put_fixed-left-requires : goal.put_fixed-left-requires
put_fixed-left-requires c =
    let h = c.args.h in
    (search rules, omega (arith, c.requires, opening_fits h.blocksize h.n c.requires.blocksize_value.0))

pub slice_bounds-ranks-end : goal.slice_bounds-ranks-end
slice_bounds-ranks-end c = sym (length_ranks c.args.lists.now (search rules))

pub slice_bounds-put_list-end : goal.slice_bounds-put_list-end
slice_bounds-put_list-end c =
    let lists = c.args.lists.now in
    sym (length-take-le c.args.h.n (ranks_of lists) (omega (arith, c.requires, length_ranks lists (search rules))))

pub put_list-left-requires : goal.put_list-left-requires
put_list-left-requires c =
    let h = c.args.h in
    let ranks = length_ranks c.args.lists.now (search rules) in
    simp length-take (omega (arith, c.requires, ranks, opening_fits h.blocksize h.n c.requires.blocksize_value.0))

pub put_list-left-requires-2 : goal.put_list-left-requires-2
put_list-left-requires-2 c =
    let h = c.args.h in
    let sizes = length_sizes c.args.lists.now (search rules) in
    simp length-take (omega (arith, c.requires, sizes, opening_fits h.blocksize h.n c.requires.blocksize_value.0, c.sizes_at.ensures))

pub put_zeros-requires : goal.put_zeros-requires
put_zeros-requires c =
    let fits = opening_fits c.args.h.blocksize c.args.h.n c.requires.blocksize_value.0 in
    let last = c.last_at-last.ensures in (
      omega (arith, c.requires, c.data_start-end.ensures),
      omega (arith, c.requires, c.data_start-end.ensures, c.put_list-left-2.auto.image, c.put_list-left.auto.image, c.put_fixed-left.auto.image),
    )

pub returns : goal.returns
returns c =
    let a = c.args in
    let lists = a.lists.now in
    let last = c.last_at-last.ensures in
    let bytes = digits (is_big a.h) 8 in
    let ranks = listed bytes (ranks_of lists) a.h.n 0 (omega (arith, c.requires, length_ranks lists (search rules))) in
    let sizes = listed bytes (sizes_of lists) a.h.n 0 (omega (arith, c.requires, length_sizes lists (search rules))) in
    rest_stored a.h (rank_of lists) (size_of lists) a.prefix.now a.budget a.image.now c.requires.prefix_len_bound c.requires.blocksize_value.0
    c.requires.n_in_bounds
    c.data_start-end.ensures
    c.put_fixed-left.ensures
    (spends_same refl ranks c.put_list-left.ensures)
    (spends_same c.sizes_at.ensures sizes c.put_list-left-2.ensures)
    (spends_same last (ap (λ (at : ℕ). replicate (c.data_start-end.result - at) 0) last) c.put_zeros.ensures)
