use Rattle.std.proofs.Common.{◌++◌, ap, ◌∙◌, arith}
use Rattle.line.proofs.Decimal.{decimal_is}
use Rattle.line.proofs.push_number.Goals as goal

-- the text of `itoa` is the decimal of the specification
pub returns-clause-bytes : goal.returns-clause-bytes
returns-clause-bytes c =
    c.push_str.ensures.bytes ∙ ap (λ ds. c.args.text.now.bytes ++ ds) (c.format.ensures.text ∙ decimal_is c.args.n (omega arith))
