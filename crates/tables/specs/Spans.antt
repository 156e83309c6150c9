-- Cells as code judges them: the rule of a value by its place among all, and what is known of the list of what chunks hold.
use Rattle.std.specs.Prelude.{ℕ, ◌/◌, ◌%◌, ◌^◌, ◌<◌, ◌≤◌, Bool, List, length, ℤ, nat_lt}
use Rattle.format.specs.Meta2.{value_rule}
use Rattle.format.specs.Record.{entry}

-- the rule of value j of n tasks, with what a chunk of each holds and its count: it is that of task j % n in chunk j / n, both counted from 0
abbrev pub rule_at : ℕ → List ℕ → List ℕ → ℕ → ℤ → Bool
rule_at n holds counts j value = value_rule (nat_lt (j / n) (entry counts (j % n))) (entry holds (j % n)) value

-- a list has an entry for each of n tasks, a number without the top bit; that these are what chunks hold is known where the list is made
pub record HoldsListed (n : ℕ) (holds : List ℕ) : Type 0 where
  pub listed : n ≤ length holds
  pub small : (i : ℕ) → i < n → entry holds i < 2 ^ 63
