use borrow.Author.Rules.{rules}
use Rattle.format.specs.Layout.{meta1_end}
use Rattle.layout.proofs.meta1_end.Goals as goal

pub returns : goal.returns
unfolding meta1_end
returns c = search rules
