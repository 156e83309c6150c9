-- After the last turn the stripe is the numbers.
use mathlib.Core.Path.{◌≡◌, ap, ◌∙◌}
use mathlib.Core.List.{List, ◌++◌, append-nil}
use Prim.Native.Nat.{ℕ}
use native.Mathlib.Nat.{le_antisymm}
use native.Mathlib.Omega.{arith}
use lib.ListN.{length, drop_of_length-le}
use lib.Seq.{paste}
use Rattle.std.proofs.lemmas.List.Edits.{paste_all}
use Rattle.opening.proofs.put_stripe.Goals as goal

whole : (d s p : List ℕ) (i : ℕ) → length d ≡ length s → i ≡ length s → p ≡ paste d 0 s i → p ≡ s
whole d s p i long all e =
    e ∙ paste_all d 0 s i all ∙ ap (λ (rest : List ℕ). s ++ rest) (drop_of_length-le d (omega (arith, long, all))) ∙ append-nil s

pub returns : goal.returns
returns c =
    let l = c.loop-i in
    whole c.args.stripe.now c.args.numbers.now l.stripe l.i c.requires (le_antisymm l.auto.i-end c.loop-i-test.false) l.invariant
