-- W-204, the ranks of both files of a pair: file 0 has n tasks, whose ranks are `rank`, and file 1 has m, whose ranks are `rank'`. Tasks are counted
-- from 0 here, i for task i + 1.
use Rattle.std.specs.Prelude.{Bool, cond, not, ℕ, ◌+◌, ltb, eqb}
use Rattle.lists.specs.Below.{all_below, first_not, sum_below}

-- how often a rank comes among the first n
unfoldable pub times : ℕ → (ℕ → ℕ) → ℕ → ℕ
times n rank r = sum_below n (λ i. cond (eqb (rank i) r) 1 0)

-- the first of n tasks that carries it, and n where none does
unfoldable pub carrier : ℕ → (ℕ → ℕ) → ℕ → ℕ
carrier n rank r = first_not n (λ i. not (eqb (rank i) r))

-- "mapping_size (the sum of both files' tasks)"
abbrev pub mapping_size : ℕ → ℕ → ℕ
mapping_size n m = n + m

module _ (n m : ℕ) (rank rank' : ℕ → ℕ) where
  -- how often a rank comes over both lists
  abbrev pub comes : ℕ → ℕ
  comes r = times n rank r + times m rank' r

  -- opening: "each rank from 0 up must come exactly once over both lists"
  unfoldable pub each_once : Bool
  each_once = all_below (mapping_size n m) (λ r. eqb (comes r) 1)

  -- a record: "a pair lacks some rank below mapping_size"
  unfoldable pub none_lacking : Bool
  none_lacking = all_below (mapping_size n m) (λ r. ltb 0 (comes r))

  -- "file number and local rank, counted from 0 (our rule), for each global rank from 0 up": whether it is file 1, and the task there
  unfoldable pub in_second : ℕ → Bool
  in_second r = not (ltb (carrier n rank r) n)

  unfoldable pub local_rank : ℕ → ℕ
  local_rank r = cond (in_second r) (carrier m rank' r) (carrier n rank r)
