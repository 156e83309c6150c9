-- An entry of the mapping as code makes it, from the task that carries its rank, counted from 1 over both files, and as code judges it; file 0 has n
-- tasks.
use Rattle.std.specs.Prelude.{Bool, cond, not, List, [], ◌∷◌, ◌++◌, ℕ, suc, ◌-◌, ◌*◌, ◌≤◌, ◌<◌, ltb, eqb, pos, length}
use Rattle.endian.specs.Signed.{signed, signed_digits}
use Rattle.format.specs.Limits.{max_tasks, max_rank}
use Rattle.format.specs.Kinds
use Rattle.format.specs.Refusals.{Test, test_at, fault_of}
use Rattle.format.specs.Record.{entry}
use Rattle.pairs.specs.Mapping.{file_of_rank}

-- its task in its own file, counted from 0
unfoldable pub task_in : ℕ → ℕ → ℕ
task_in n holder = cond (ltb n holder) (holder - n - 1) (holder - 1)

-- its two numbers
unfoldable pub entry_bytes : Bool → Bool → ℕ → List ℕ
entry_bytes big second task = signed_digits big 4 (pos (file_of_rank second)) ++ signed_digits big 4 (pos task)

-- each rank has a task in the row
pub record AllHeld (holders : List ℕ) : Type 0 where
  pub few : length holders ≤ 2 * max_tasks
  pub some : (r : ℕ) → r < length holders → 1 ≤ entry holders r
  pub most : (r : ℕ) → r < length holders → entry holders r ≤ length holders

-- ---- judged: the tasks of a file, and the tests of the task that an entry names

-- a file has from 1 to the most tasks, each with a rank in its range
pub record Listed (ranks : List ℕ) : Type 0 where
  pub some : 1 ≤ length ranks
  pub few : length ranks ≤ max_tasks
  pub small : (i : ℕ) → i < length ranks → entry ranks i ≤ max_rank

-- the last two of an entry's tests, by the number that is read for the task, without a sign
abbrev pub named_tests : ℕ → (ℕ → ℕ) → ℕ → ℕ → ℕ → List Test
named_tests n rank task r at =
    test_at 25 (fault_of Kinds.entry_task (suc r) 0 at (signed 31 task) (pos 0) (pos (n - 1))) (not (ltb task n))
    ∷ test_at 25 (fault_of Kinds.entry_rank (suc r) 0 at (pos (rank task)) (pos r) (pos r)) (not (eqb (rank task) r))
    ∷ []
