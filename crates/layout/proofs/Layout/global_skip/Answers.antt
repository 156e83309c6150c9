use Rattle.format.specs.Layout.{globalskip}
use Rattle.layout.proofs.Layout.global_skip.Goals as goal

pub returns : goal.returns
unfolding globalskip
returns c = c.extended_before.ensures
