-- The prefix into the part from 52 on, and zeros from where it ends.
use Prim.Native.Nat.{◌+◌, ◌-◌}
use mathlib.Core.Path.{◌≡◌, refl}
use native.Mathlib.Omega.{arith}
use lib.ListN.{length, replicate, length-replicate}
use Rattle.lists.proofs.Stores.{spends_part, run_first, run_then}
use Rattle.format.specs.Meta1.{prefix_length}
use Rattle.emit.proofs.put_prefix.Goals as goal

pub returns : goal.returns
returns c =
    let a = c.args in
    let xs = a.image.now in
    let n = length a.prefix.now in
    let rest : 1076 - (52 + n) ≡ prefix_length - n = omega arith in
    let prefix =
    run_first a.budget xs 52 a.prefix.now n refl
    (spends_part a.budget xs 52 (length xs - 52) a.prefix.now (omega (arith, c.requires)) (omega (arith, c.requires)) c.copy_within-left.ensures) in
    (run_then a.budget xs 52 _ (replicate (prefix_length - n) 0) (prefix_length - n) prefix (length-replicate _ 0)
    (rw rest at c.put_zeros.ensures) (omega (arith, c.requires))).spends
