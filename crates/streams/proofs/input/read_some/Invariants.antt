-- The part keeps its length, and a read that is made again has consumed nothing. The measure is the tries left.
use Rattle.std.proofs.Common.{◌≡◌, length}
use Rattle.std.specs.Io.KnownBytes.{Keeps}
use Rattle.streams.proofs.input.read_some.Given as goal

abbrev pub invariant-loop-tries : goal.invariant-loop-tries
invariant-loop-tries g l = (length l.part ≡ length l.initial.part) × Keeps (g.R.Read.remaining l.initial.from) (g.R.Read.remaining l.from)

abbrev pub decreases-loop-tries : goal.decreases-loop-tries
decreases-loop-tries g l = l.tries
