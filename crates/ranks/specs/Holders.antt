-- The tasks of a pair in one row, as code goes through them: those of file 0, then those of file 1, counted from 1; 0 stands for none.
use Rattle.std.specs.Prelude.{cond, Option, Some, None, List, ◌≡◌, ℕ, ◌+◌, ◌*◌, ◌≤◌, ◌<◌, ltb, eqb, length, get_or}
use Rattle.lists.specs.Below.{list_below}
use Rattle.format.specs.Limits.{max_tasks}
use Rattle.pairs.specs.Ranks.{mapping_size, carrier}

-- the first of n tasks that carries a rank, in a row where `before` tasks come before them; else what was found earlier
abbrev pub held_by : ℕ → ℕ → (ℕ → ℕ) → ℕ → ℕ → ℕ
held_by before n rank earlier r = cond (eqb earlier 0) (cond (ltb (carrier n rank r) n) (before + carrier n rank r + 1) 0) earlier

-- a row of tasks, one for each rank below `size`, before and after n tasks more
pub record Held (size before n : ℕ) (rank : ℕ → ℕ) (old new : List ℕ) : Type 0 where
  pub as_long : length new ≡ length old
  pub below : (r : ℕ) → r < size → get_or new r 0 ≡ held_by before n rank (get_or old r 0) r
  pub past : (r : ℕ) → size ≤ r → get_or new r 0 ≡ get_or old r 0

module _ (n m : ℕ) (rank rank' : ℕ → ℕ) where
  -- the task that carries a rank, of either file
  unfoldable pub holder : ℕ → ℕ
  holder r = held_by n m rank' (held_by 0 n rank 0 r) r

  -- that of each rank below mapping_size, and no task for others
  unfoldable pub holders : List ℕ
  holders = list_below (2 * max_tasks) (λ r. cond (ltb r (mapping_size n m)) (holder r) 0)

-- a task of the row, where it is one
abbrev pub some_task : ℕ → Option ℕ
some_task task = cond (eqb task 0) None (Some task)
