-- By the top bits of the three words.
use Rattle.std.proofs.Common.{ℕ, ◌+◌, ◌-◌, ◌%◌, ◌^◌, Bool, ◌&&◌, ltb, ap, ◌∙◌}
use mathlib.Core.Bool.{and_assoc}
use lib.Bits.{bit_or}
use Rattle.tables.proofs.Values.{or_top, at_most, sub_small, sub_wraps}
use Rattle.tables.proofs.over.Goals as goal

pub returns : goal.returns
returns c =
    let a = c.args in
    let d : ℕ = (a.holds + (2 ^ 64 - a.bits)) % 2 ^ 64 in
    or_top (bit_or a.bad a.bits) d
    ∙ ap (λ (q : Bool). q && ltb d (2 ^ 63)) (or_top a.bad a.bits)
    ∙ and_assoc (ltb a.bad (2 ^ 63)) (ltb a.bits (2 ^ 63)) (ltb d (2 ^ 63))
    ∙ ap (λ (q : Bool). ltb a.bad (2 ^ 63) && q)
    (at_most a.holds a.bits d c.requires c.ranges.bits.fits (sub_small a.holds a.bits) (sub_wraps a.holds a.bits c.ranges.holds.fits c.ranges.bits.fits))
