-- The numbers of a list that a budget of byte stores has room for.
use Rattle.std.specs.Prelude.{ℕ, ◌+◌, ◌*◌, ◌≤◌, ◌<◌}

-- how many of n numbers of w bytes a budget of byte stores has room for whole
pub record Whole (n w budget k : ℕ) : Type 0 where
  pub few : k ≤ n
  pub room : w * k ≤ budget
  pub next_short : k < n → budget < w * k + w
