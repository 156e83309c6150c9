-- The bytes of the place that `place_of` names.
use mathlib.Core.Path.{ap, ◌∙◌}
use lib.ListN.{take, drop}
use Rattle.format.specs.declared.loaded.Part.{Part}
use Rattle.format.specs.Reads.{chunk_place, chunk_bytes}
use Rattle.chunks.proofs.chunk_part.Goals as goal

pub returns : goal.returns
unfolding chunk_bytes chunk_place
returns c = c.bytes_at.ensures ∙ ap (λ (r : Part). take r.length (drop r.start c.args.image.now)) c.place_of.ensures.value
