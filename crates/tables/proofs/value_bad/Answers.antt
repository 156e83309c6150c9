-- By the mask. A signed parameter is what the machine reads back from its bits.
use Rattle.std.proofs.Common.{rules, ◌≡◌, ◌^◌, Bool, ◌&&◌, ltb, ap, ◌∙◌}
use Rattle.endian.specs.Signed.{bits_of}
use Rattle.tables.proofs.Values.{masked}
use Rattle.tables.proofs.value_bad.Goals as goal

pub returns : goal.returns
returns c =
    let b = c.cast_unsigned in
    let bits : b.result ≡ bits_of 63 c.args.value = search rules in
    c.over.ensures
    ∙ ap (λ (q : Bool). ltb c.args.bad (2 ^ 63) && q)
    (masked c.args.holds c.requires.1 (ltb c.args.k c.args.count) c.args.value c.ranges.value.sfits
    bits b.type_inv c.unused_mask-unused.ensures)
