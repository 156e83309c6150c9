-- Each number is looked for among those before it.
use mathlib.Core.Path.{◌≡◌, sym, ap, ◌∙◌}
use mathlib.Core.Bool.{false, not}
use mathlib.Core.List.{List}
use Prim.Native.Nat.{ℕ, ◌≤◌}
use native.Mathlib.Omega.{arith}
use lib.IntN.{pos}
use lib.ListN.{length, take, get_or}
use lib.Seq.{length-take-le, get_or-take}
use Rattle.std.specs.Prelude.{Some}
use Rattle.lists.specs.Below.{all_below}
use Rattle.lists.proofs.Below.{all_none, all_more, all_end, all_cong, all_fails, first_at}
use Rattle.endian.specs.Signed.{same_z}
use Rattle.format.specs.Limits.{is_new}
use Rattle.rules.proofs.First.{bad_none, bad_some}
use Rattle.rules.proofs.limits.first_repeat.Goals as goal

-- what the call judged, of the numbers in the whole list
judged : (xs : List ℕ) (i x : ℕ) → i ≤ length xs → all_below (length (take i xs)) (λ j. not (same_z (pos (get_or (take i xs) j 0)) (pos (get_or xs i 0)))) ≡ is_new (λ j. pos (get_or xs j 0)) i
unfolding is_new
judged xs i x l =
    rw (length-take-le i xs l)
    (all_cong _ _ i (λ j h. ap (λ (y : ℕ). not (same_z (pos y) (pos (get_or xs i 0)))) (get_or-take i xs j 0 h)))

pub loop-i-init : goal.loop-i-init
loop-i-init c = all_none _

pub returns-then-not-is_new : goal.returns-then-not-is_new
returns-then-not-is_new c =
    let i = c.loop-i.i in
    let xs = c.args.values.now in
    let old : is_new (λ j. pos (get_or xs j 0)) i ≡ false = sym (judged xs i 0 (omega arith)) ∙ sym c.is_new.ensures ∙ c.if-not-is_new.true in
    ap Some (sym (first_at _ i (length xs) c.loop-i-test.true c.loop-i.invariant old)) ∙ sym (bad_some (length xs) _ (sym (all_fails _ i c.loop-i-test.true old)))

pub loop-i-preserved : goal.loop-i-preserved
loop-i-preserved c =
    let i = c.loop-i.i in
    let xs = c.args.values.now in
    all_more _ i c.loop-i.invariant (sym (judged xs i 0 (omega arith)) ∙ sym c.is_new.ensures ∙ c.if-not-is_new.false)

pub returns : goal.returns
returns c = sym (bad_none (length c.args.values.now) _ (sym (all_end _ (omega arith) (omega arith) c.loop-i.invariant)))
