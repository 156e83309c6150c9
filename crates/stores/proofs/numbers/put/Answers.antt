-- The copy of the number's bytes into the part from `at` on is a splice of the whole.
use mathlib.Core.Path.{ap, ◌∙◌}
use Prim.Native.Nat.{◌-◌}
use native.Mathlib.Omega.{arith}
use lib.ListN.{length, take, drop}
use Rattle.lists.specs.Splice.{splice}
use Rattle.lists.proofs.Splice.{splice_part}
use Rattle.stores.proofs.numbers.put.Goals as goal

pub returns : goal.returns
returns g c =
    let a = c.args in
    let xs = a.s.now in
    let n = length xs - a.at in
    let long = g.met.T.Number.length_bytes a.big a.v in
    splice_part xs a.at n (g.T.Number.bytes_of a.big a.v) c.copy_in.new.part (omega (arith, long, c.requires)) (omega (arith, c.requires))
    (c.copy_in.ensures ∙ ap (splice (take n (drop a.at xs)) 0) (c.as_slice.ensures ∙ c.to_bytes.ensures))
