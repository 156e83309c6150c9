-- The sum is that of the cells passed.
use mathlib.Core.Path.{◌≡◌, sym, ap, ap₂, ◌∙◌}
use Prim.Native.Nat.{ℕ, ◌+◌, ◌-◌, ◌*◌, ◌≤◌, ◌<◌}
use native.Mathlib.Nat.{le_antisymm}
use native.Mathlib.Omega.{arith}
use lib.ListN.{length}
use Rattle.lists.specs.Below.{sum_below}
use Rattle.endian.specs.Signed.{natural}
use Rattle.lists.proofs.Below.{sum_none, sum_more, sum_le, sum_cong}
use Rattle.format.specs.Limits.{max_tasks, max_size, max_blocks}
use Rattle.format.specs.Meta2.{value_index}
use Rattle.format.specs.Record.{entry, cell, count_at}
use Rattle.format.specs.Reads.{Container, written_in, total_of}
use Rattle.format.specs.Passed.{Readable}
use Rattle.format.proofs.Readable.{used_few, used_listed, written_small, read_listed, read_counted}
use Rattle.reads.proofs.total_of.Goals as goal

-- the value of the cell of chunk k + 1
abbrev value : Container → ℕ → ℕ → ℕ
value c task k = natural (cell c.table (value_index c.loaded.head.n k (task - 1)))

value_is : (c : Container) (task k : ℕ) → value c task k ≡ written_in c task (k + 1)
unfolding written_in
value_is c task k = let e : k + 1 - 1 ≡ k = omega arith in rw e

-- the cell of a chunk below the count is in the table, the sum with it is in range, and after the last one it is the total
module _ {c : Container} {task : ℕ} (r : Readable c task) (k : ℕ) where
  listed : k < entry c.lists (count_at (task - 1)) → value_index c.loaded.head.n k (task - 1) < length c.table
  listed l = used_listed r k (omega (arith, read_counted r))

  small : k < entry c.lists (count_at (task - 1)) → sum_below k (value c task) + value c task k ≤ max_blocks * max_size
  small l =
      let each : (j : ℕ) → j < k + 1 → value c task j ≤ max_size
      = λ j h. rw (value_is c task j) (written_small r (j + 1) (omega arith) (omega (arith, read_counted r))) in
      omega (arith, sum_more (value c task) k, sum_le (value c task) (k + 1) max_size each, used_few r, read_counted r)

  whole : k ≤ entry c.lists (count_at (task - 1)) → entry c.lists (count_at (task - 1)) ≤ k → sum_below k (value c task) ≡ total_of c task
  unfolding total_of
  whole l h =
      ap (λ (m : ℕ). sum_below m (value c task)) (le_antisymm l h ∙ read_counted r)
      ∙ sum_cong (value c task) _ _ (λ j _. value_is c task j)

pub bounds-lists-i : goal.bounds-lists-i
bounds-lists-i c =
    let in_list : c.args.task - 1 < max_tasks = read_listed c.requires in
    omega (arith, in_list, c.requires.as_many)

pub loop-k-init : goal.loop-k-init
loop-k-init c = sym (sum_none _)

pub overflow_mul-k : goal.overflow_mul-k
overflow_mul-k c = omega (arith, listed c.requires c.loop-k.k c.loop-k-test.true)

pub overflow_add-k : goal.overflow_add-k
overflow_add-k c = omega (arith, listed c.requires c.loop-k.k c.loop-k-test.true)

pub written-sum-requires : goal.written-sum-requires
written-sum-requires c = listed c.requires c.loop-k.k c.loop-k-test.true

pub overflow_add-sum : goal.overflow_add-sum
overflow_add-sum c = omega (arith, small c.requires c.loop-k.k c.loop-k-test.true, c.loop-k.invariant, c.written-sum.ensures)

pub loop-k-preserved : goal.loop-k-preserved
loop-k-preserved c = ap₂ ◌+◌ c.loop-k.invariant c.written-sum.ensures ∙ sym (sum_more _ c.loop-k.k)

pub returns : goal.returns
returns c = c.loop-k.invariant ∙ whole c.requires c.loop-k.k (omega arith) (omega arith)
