-- The loop's invariant: the entries of the ranks passed stand one after the other.
use mathlib.Core.Path.{◌≡◌, refl, ap, ◌∙◌}
use mathlib.Core.Bool.{Bool}
use mathlib.Core.List.{List}
use Prim.Native.Nat.{ℕ, ◌+◌, ◌*◌}
use native.Mathlib.Omega.{arith}
use borrow.Author.Rules.{rules}
use lib.Dec.{ltb}
use lib.ListN.{length}
use Rattle.lists.specs.Splice.{splice}
use Rattle.lists.proofs.Splice.{join_none, join_then}
use Rattle.format.specs.Record.{entry}
use Rattle.mapping.specs.Entries.{task_in, entry_bytes}
use Rattle.mapping.proofs.Entries.{length_entry, task_small}
use Rattle.mapping.proofs.put_entries.Goals as goal

-- the entry of a rank
abbrev of : List ℕ → ℕ → Bool → ℕ → List ℕ
of holders n big r = entry_bytes big (ltb n (entry holders r)) (task_in n (entry holders r))

same : (holders : List ℕ) (n : ℕ) (big : Bool) (r : ℕ) → length (of holders n big r) ≡ 8
same holders n big r = length_entry big _ _

pub loop-r-init : goal.loop-r-init
loop-r-init c =
    let a = c.args in
    (refl, join_none a.bytes.now 4 8 (of a.holders.now a.n a.big) (same a.holders.now a.n a.big))

pub overflow_cast-task : goal.overflow_cast-task
overflow_cast-task c =
    let r : ℕ = c.loop-r.r in
    let held = c.requires.0 in
    let a = c.args in
    omega (
      arith,
      c.task_in-task.ensures,
      task_small a.n (entry a.holders.now r),
      held.most r c.loop-r-test.true,
      held.few,
    )

pub loop-r-preserved : goal.loop-r-preserved
loop-r-preserved c =
    let l = c.loop-r in
    let a = c.args in
    let holder : ℕ = entry a.holders.now l.r in (
      search rules,
      join_then a.bytes.now 4 8 (of a.holders.now a.n a.big) (same a.holders.now a.n a.big) l.r l.invariant.1
          (c.put_entry.ensures ∙ ap (λ (task : ℕ). splice l.bytes (4 + 8 * l.r) (entry_bytes a.big (ltb a.n holder) task)) c.task_in-task.ensures)
          (omega (arith, c.requires.1, c.loop-r-test.true)),
    )
