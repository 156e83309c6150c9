-- `long`, or the line about a container.
use Rattle.std.proofs.Common.{◌++◌, sym, ap, ◌∙◌}
use Rattle.format.specs.Line.{long}
use Rattle.line.proofs.Whole.{long_line, short_line}
use Rattle.line.proofs.line.Goals as goal

pub returns-then-input-gt-LONGEST-clause-bytes : goal.returns-then-input-gt-LONGEST-clause-bytes
returns-then-input-gt-LONGEST-clause-bytes c =
    c.push_str.ensures.bytes ∙ ap (λ xs. xs ++ long) c.new-text.ensures ∙ sym (long_line c.args.input.now c.if-input-gt-LONGEST.true)

pub returns-clause-bytes : goal.returns-clause-bytes
returns-clause-bytes c = c.container_line.ensures.bytes ∙ sym (short_line c.args.input.now c.if-input-gt-LONGEST.false)
