-- After the last turn all of src is pasted into part.
use mathlib.Core.Path.{◌≡◌}
use mathlib.Core.List.{List}
use Prim.Native.Nat.{ℕ, ◌≤◌}
use native.Mathlib.Nat.{le_antisymm}
use lib.ListN.{length}
use lib.Seq.{paste, take-length}
use Rattle.lists.specs.Splice.{splice}
use Rattle.stores.proofs.memory.copy_in.Goals as goal

whole : (d s p : List ℕ) (i : ℕ) → i ≤ length s → length s ≤ i → p ≡ paste d 0 s i → p ≡ splice d 0 s
unfolding splice
whole d s p i h k e = rw (le_antisymm h k, take-length) at e

pub returns : goal.returns
returns c = let l = c.loop-i in
    whole c.args.part.now c.args.src.now l.part l.i l.auto.i-end c.loop-i-test.false l.invariant
