-- The names of a pair's start: each rank below mapping_size is that of the task which carries it, and every task of either file has one; they are a
-- matter of the plans.
use mathlib.Core.Path.{◌≡◌, refl, ap, ap₂, ◌∙◌}
use mathlib.Core.Bool.{Bool, true, false, cond}
use Prim.Native.Nat.{ℕ, ◌+◌, ◌-◌, ◌≤◌, ◌<◌}
use native.Mathlib.Omega.{arith}
use Rattle.format.specs.declared.session.Session.{Session}
use Rattle.format.specs.Record.{entry, rank_of}
use Rattle.format.specs.Open.{Opening, tasks, open_head, open_session}
use Rattle.pairs.specs.Ranks.{in_second, local_rank}
use Rattle.pairs.specs.Sessions.{tasks₀, tasks₁, ranks₀, ranks₁, size, second?}
use Rattle.pairs.proofs.Ranks.{first_below, second_below, first_found, second_found, carried, one_rank, second_agree, local_agree}
use Rattle.container.specs.Start.{Start, IsStart}
use Rattle.pair.specs.Start.{PairStart, IsPairStart, pair, task, start_of_rank}
use Rattle.pair.specs.Room.{file_of, Named}

-- of a pair's start, file 0's or file 1's
abbrev pub start_in : PairStart → Bool → Start
start_in s second = cond second s.second s.first

pub state_in : (s : PairStart) (second : Bool) → file_of (pair s) second ≡ (start_in s second).state
state_in s true = refl
state_in s false = refl

-- whether a rank is in file 1, and its task, by two plans
abbrev pub second_by : Opening → Opening → ℕ → Bool
second_by o o' r = in_second (tasks o) (tasks o') (entry o.ranks) (entry o'.ranks) r

abbrev pub task_by : Opening → Opening → ℕ → ℕ
task_by o o' r = local_rank (tasks o) (tasks o') (entry o.ranks) (entry o'.ranks) r + 1

module _ (s : PairStart) (is : IsPairStart s) where
  pub is_start : (second : Bool) → IsStart (start_in s second)
  is_start true = is.second
  is_start false = is.first

  -- the tasks, by the session and by the plan
  pub tasks_in_hold : (second : Bool) → (start_in s second).state.session.head.n ≡ tasks (start_in s second).plan
  unfolding open_session open_head
  tasks_in_hold second = ap (λ (x : Session). x.head.n) (is_start second).follows.session_is

  -- the names are a matter of the plans
  pub size_planned : size (pair s) ≡ tasks s.first.plan + tasks s.second.plan
  size_planned = ap₂ (λ (x y : ℕ). x + y) (tasks_in_hold false) (tasks_in_hold true)

  module _ (r : ℕ) where
    as_planned : (i : ℕ) → i < tasks₀ (pair s) → ranks₀ (pair s) i ≡ entry s.first.plan.ranks i
    as_planned i l = is.ranks_first i (omega (arith, tasks_in_hold false))

    as_planned' : (i : ℕ) → i < tasks₁ (pair s) → ranks₁ (pair s) i ≡ entry s.second.plan.ranks i
    as_planned' i l = is.ranks_second i (omega (arith, tasks_in_hold true))

    pub second_planned : second? (pair s) r ≡ second_by s.first.plan s.second.plan r
    second_planned =
        second_agree (tasks₀ (pair s)) (tasks₁ (pair s)) _ _ _ _ as_planned as_planned' r
        ∙ ap₂ (λ (n m : ℕ). in_second n m (entry s.first.plan.ranks) (entry s.second.plan.ranks) r) (tasks_in_hold false) (tasks_in_hold true)

    pub task_planned : task s r ≡ task_by s.first.plan s.second.plan r
    task_planned =
        ap (λ (i : ℕ). i + 1)
        (local_agree (tasks₀ (pair s)) (tasks₁ (pair s)) _ _ _ _ as_planned as_planned' r
        ∙ ap₂ (λ (n m : ℕ). local_rank n m (entry s.first.plan.ranks) (entry s.second.plan.ranks) r) (tasks_in_hold false) (tasks_in_hold true))

  -- two ranks of one task are the same
  pub task_once : (r r' : ℕ) → r < size (pair s) → r' < size (pair s) → second? (pair s) r ≡ second? (pair s) r' → task s r ≡ task s r' → r ≡ r'
  task_once r r' l l' e d =
      one_rank (tasks₀ (pair s)) (tasks₁ (pair s)) (ranks₀ (pair s)) (ranks₁ (pair s)) is.there r r' l l' e (omega arith)

  carries : (r : ℕ) → r < size (pair s)
      → (1 ≤ task s r)
      × (task s r ≤ tasks (start_of_rank s r).plan)
      × (rank_of (start_of_rank s r).state.lists (task s r - 1) ≡ r)
  carries r l = go (second? (pair s) r) (carried (tasks₀ (pair s)) (tasks₁ (pair s)) (ranks₀ (pair s)) (ranks₁ (pair s)) is.there r l)
    where
      i : ℕ
      i = local_rank (tasks₀ (pair s)) (tasks₁ (pair s)) (ranks₀ (pair s)) (ranks₁ (pair s)) r

      back : i + 1 - 1 ≡ i
      back = omega arith

      go : (second : Bool) → (i < cond second (tasks₁ (pair s)) (tasks₀ (pair s))) × (cond second (ranks₁ (pair s)) (ranks₀ (pair s)) i ≡ r)
          → (1 ≤ i + 1) × (i + 1 ≤ tasks (start_in s second).plan) × (rank_of (start_in s second).state.lists (i + 1 - 1) ≡ r)
      go true (k, e) = (omega arith, omega (arith, tasks_in_hold true), rw back e)
      go false (k, e) = (omega arith, omega (arith, tasks_in_hold false), rw back e)

  every : (second : Bool) → (i : ℕ) → i < tasks (start_in s second).plan
      → let r = rank_of (file_of (pair s) second).lists i in
      (r < size (pair s)) × (second? (pair s) r ≡ second) × (task s r ≡ i + 1)
  every false i l =
      let k : i < tasks₀ (pair s) = omega (arith, tasks_in_hold false) in
      let found = first_found (tasks₀ (pair s)) (tasks₁ (pair s)) (ranks₀ (pair s)) (ranks₁ (pair s)) is.there i k in
      (first_below _ _ _ (ranks₁ (pair s)) is.there i k, found.0, ap (λ (i : ℕ). i + 1) found.1)
  every true i l =
      let k : i < tasks₁ (pair s) = omega (arith, tasks_in_hold true) in
      let found = second_found (tasks₀ (pair s)) (tasks₁ (pair s)) (ranks₀ (pair s)) (ranks₁ (pair s)) is.there i k in
      (second_below _ _ (ranks₀ (pair s)) _ is.there i k, found.0, ap (λ (i : ℕ). i + 1) found.1)

pub named : (s : PairStart) → IsPairStart s → Named s
named s is = record { carries = carries s is; every = every s is }
