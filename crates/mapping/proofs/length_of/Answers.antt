-- A sum that fits.
use mathlib.Core.Path.{refl}
use Rattle.pairs.specs.Mapping.{mapping_length}
use Rattle.mapping.proofs.length_of.Goals as goal

pub returns : goal.returns
unfolding mapping_length
returns c = refl
