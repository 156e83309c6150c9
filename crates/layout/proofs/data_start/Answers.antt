-- META1's end is small enough to be rounded.
use mathlib.Core.Path.{◌∙◌, ap}
use native.Mathlib.Omega.{arith}
use Rattle.format.specs.Layout.{meta1_end, round_up, data_start}
use Rattle.layout.proofs.data_start.Goals as goal

pub round_up-requires : goal.round_up-requires
unfolding meta1_end
round_up-requires c = (c.requires.0, omega arith)

pub returns : goal.returns
unfolding data_start
returns c = c.round_up.ensures ∙ ap (round_up c.args.blocksize) c.meta1_end.ensures
