-- The product is small.
use mathlib.Core.Path.{refl}
use Rattle.format.specs.Layout.{meta2_length}
use Rattle.layout.proofs.meta2_length.Goals as goal

pub returns : goal.returns
unfolding meta2_length
returns c = refl
