-- Which number of a list breaks its rule.
use Rattle.std.specs.Prelude.{Bool, cond, ℕ, Option, Some, None}
use Rattle.lists.specs.Below.{all_below, first_not}

-- the first of 0, 1, .. up to n - 1 that does not keep the rule, and none where each keeps it
unfoldable pub first_bad : ℕ → (ℕ → Bool) → Option ℕ
first_bad n rule = cond (all_below n rule) None (Some (first_not n rule))
