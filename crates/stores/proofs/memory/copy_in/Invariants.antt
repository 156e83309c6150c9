-- Before each turn the first i bytes of src are pasted into part.
use mathlib.Core.Path.{◌≡◌}
use lib.Seq.{paste}
use Rattle.stores.proofs.memory.copy_in.Given as goal

abbrev pub invariant-loop-i : goal.invariant-loop-i
invariant-loop-i l = l.part ≡ paste l.initial.part 0 l.src l.i
