-- The copy of the number's bytes into the part from `at` on is one into the whole.
use mathlib.Core.Path.{refl, ◌∙◌}
use Prim.Native.Nat.{◌-◌}
use native.Mathlib.Omega.{arith}
use lib.ListN.{length}
use Rattle.lists.proofs.Stores.{spends_part, spends_same}
use Rattle.stores.proofs.numbers.put_within.Goals as goal

pub returns : goal.returns
returns g c =
    let a = c.args in
    let n = length a.s.now - a.at in
    let long = g.met.T.Number.length_bytes a.big a.v in
    spends_part a.budget a.s.now a.at n (g.T.Number.bytes_of a.big a.v) (omega (arith, long, c.requires)) (omega (arith, c.requires))
    (spends_same refl (c.as_slice.ensures ∙ c.to_bytes.ensures) c.copy_within.ensures)
