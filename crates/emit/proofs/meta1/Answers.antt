-- Three runs: 0 into the first byte, the rest, and the first byte itself.
use Prim.Native.Nat.{◌≤◌}
use native.Mathlib.Omega.{arith}
use borrow.Author.Rules.{rules}
use Rattle.lists.proofs.Stores.{found_then, found_last}
use Rattle.format.specs.Layout.{data_start}
use Rattle.format.specs.Meta1.{opening_stores}
use Rattle.emit.proofs.Parts.{opening_fits}
use Rattle.emit.proofs.meta1.Goals as goal

pub put_zeros-left-requires : goal.put_zeros-left-requires
put_zeros-left-requires c =
    let long : 1 ≤ data_start c.args.h.blocksize c.args.h.n = let h = c.args.h in omega (arith, opening_fits h.blocksize h.n c.requires.blocksize_value.0) in
    (search rules, omega (arith, c.requires, long))

pub copy_within-requires : goal.copy_within-requires
copy_within-requires c =
    let long : 1 ≤ data_start c.args.h.blocksize c.args.h.n = let h = c.args.h in omega (arith, opening_fits h.blocksize h.n c.requires.blocksize_value.0) in
    omega (arith, c.requires, long, c.put_rest-left.auto.image, c.put_zeros-left.auto.image)

pub returns : goal.returns
unfolding opening_stores
returns c = found_then _ c.put_zeros-left.ensures (found_then _ c.put_rest-left.ensures (found_last c.copy_within.ensures))
