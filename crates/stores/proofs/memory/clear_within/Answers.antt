-- As far as the budget goes, or the whole part.
use mathlib.Core.Path.{sym, ap, ◌∙◌}
use Prim.Native.Nat.{ℕ, ◌≤◌}
use native.Mathlib.Omega.{arith}
use lib.ListN.{length, replicate, length-replicate}
use lib.Seq.{length-take-le, take_all}
use Rattle.lists.proofs.Splice.{splice_whole, splice_over}
use Rattle.lists.proofs.Stores.{take_zeros}
use Rattle.stores.proofs.memory.clear_within.Goals as goal

pub returns-then-budget-all : goal.returns-then-budget-all
returns-then-budget-all c =
    let a = c.args in
    let xs = a.part.now in
    let short : a.budget ≤ length xs = omega arith in
    let zeros = take_zeros a.budget (length xs) short in
    let cleared = c.clear.ensures ∙ ap (λ (k : ℕ). replicate k 0) (length-take-le a.budget xs short) in
    record {
      leaves = rw zeros (splice_whole xs 0 (replicate a.budget 0) a.budget cleared (length-replicate a.budget 0));
      spent = rw length-replicate (omega arith);
    }

pub returns : goal.returns
returns c =
    let a = c.args in
    let xs = a.part.now in
    let zeros = replicate {A = ℕ} (length xs) 0 in
    let n = length-replicate {A = ℕ} (length xs) 0 in
    record {
      leaves = c.clear-2.ensures ∙ rw (take_all a.budget zeros (omega (arith, n))) (sym (splice_over xs zeros n));
      spent = rw n;
    }
