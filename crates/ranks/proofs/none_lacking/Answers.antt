-- Every rank has a task in the row of both files.
use mathlib.Core.Path.{◌≡◌, refl, sym, ap, ◌∙◌}
use mathlib.Core.Bool.{Bool, true, false, not, ◌||◌, ◌&&◌}
use mathlib.Core.List.{List}
use Prim.Native.Nat.{ℕ, zero, suc, ◌+◌, ◌*◌, ◌≤◌}
use native.Mathlib.Numerals.{add-one}
use native.Mathlib.Omega.{arith}
use lib.Dec.{eqb}
use lib.ListN.{length, take}
use Rattle.std.specs.List.{list_any}
use Rattle.std.proofs.lemmas.List.Folds.{list_any_more}
use Rattle.lists.specs.Below.{all_below}
use Rattle.lists.proofs.Below.{all_cong}
use Rattle.format.specs.Limits.{max_tasks}
use Rattle.format.specs.Record.{entry}
use Rattle.ranks.proofs.Holding.{length_holders, holder_at, lacking_held}
use Rattle.ranks.proofs.none_lacking.Goals as goal

not_any : (p : ℕ → Bool) (xs : List ℕ) (i : ℕ) → i ≤ length xs → not (list_any p (take i xs)) ≡ all_below i (λ k. not (p (entry xs k)))
unfolding all_below
not_any p xs zero l = refl
not_any p xs (suc i) l =
    ap (λ (k : ℕ). not (list_any p (take k xs))) (sym (add-one i))
    ∙ ap not (list_any_more p xs i 0 (omega arith))
    ∙ neither (list_any p (take i xs)) (p (entry xs i))
    ∙ ap (λ (b : Bool). b && not (p (entry xs i))) (not_any p xs i (omega arith))
  where
    neither : (a b : Bool) → not (a || b) ≡ (not a && not b)
    neither true b = refl
    neither false b = refl

pub returns : goal.returns
returns c =
    let xs = c.args.first.now in
    let ys = c.args.second.now in
    let few : length xs + length ys ≤ 2 * max_tasks = omega (arith, c.requires) in
    ap not c.contains.ensures.value
    ∙ not_any (λ y. eqb y 0) c.put_all_holders.new.found (length xs + length ys) (omega (arith, few, ap length c.put_all_holders.ensures ∙ length_holders (length xs) (length ys) (entry xs) (entry ys)))
    ∙ all_cong _ _ (length xs + length ys) (λ r l. ap (λ (row : List ℕ). not (eqb (entry row r) 0)) c.put_all_holders.ensures
    ∙ ap (λ (x : ℕ). not (eqb x 0)) (holder_at _ _ _ _ r few l))
    ∙ sym (lacking_held _ _ _ _)
