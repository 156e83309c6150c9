-- Before each turn the first i numbers are pasted into the stripe.
use mathlib.Core.Path.{◌≡◌}
use lib.Seq.{paste}
use Rattle.opening.proofs.put_stripe.Given as goal

abbrev pub invariant-loop-i : goal.invariant-loop-i
invariant-loop-i l = l.stripe ≡ paste l.initial.stripe 0 l.numbers l.i
