-- The counts are the first numbers of their stripe.
use mathlib.Core.Path.{◌∙◌}
use native.Mathlib.Omega.{arith}
use Rattle.format.specs.Record.{counts_of}
use Rattle.format.specs.Close.{maxchunks_of}
use Rattle.format.proofs.Stripes.{length_counts}
use Rattle.tables.proofs.Counts.{greatest_taken}
use Rattle.closing.proofs.most_chunks.Goals as goal

pub returns : goal.returns
unfolding maxchunks_of
returns c =
    let lists = c.args.lists.now in
    c.greatest.ensures ∙ greatest_taken c.args.n (counts_of lists) (omega (arith, c.requires, length_counts lists c.told-lists))
