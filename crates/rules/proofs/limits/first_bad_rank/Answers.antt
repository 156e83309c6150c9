-- The search for a repeat ends where the first rank is outside, so the two are one.
use mathlib.Core.Path.{◌≡◌, sym, ap, ◌∙◌}
use Prim.Native.Nat.{ℕ, ◌≤◌}
use lib.IntN.{pos}
use lib.ListN.{length, get_or}
use lib.Seq.{length-take-le}
use Rattle.std.specs.Option.{unwrap_or}
use Rattle.lists.specs.Below.{first_not}
use Rattle.lists.proofs.Below.{first_le}
use Rattle.endian.specs.Signed.{within}
use Rattle.format.specs.Limits.{max_rank, is_new, rank_rule}
use Rattle.rules.specs.First.{first_bad}
use Rattle.rules.proofs.First.{bad_or_end, bad_both, new_taken}
use Rattle.rules.proofs.limits.first_bad_rank.Goals as goal
use Rattle.rules.proofs.limits.first_bad_rank.Goals.{After-unwrap_or-inside}

inside : (c : After-unwrap_or-inside) → c.unwrap_or-inside.result ≡ first_not (length c.args.ranks.now) (λ i. within 0 max_rank (pos (get_or c.args.ranks.now i 0)))
inside c =
    c.unwrap_or-inside.ensures ∙ ap (λ o. unwrap_or o (length c.args.ranks.now)) c.first_outside-outside.ensures ∙ bad_or_end _ _

short : (c : After-unwrap_or-inside) → c.unwrap_or-inside.result ≤ length c.args.ranks.now
short c = rw (inside c) (first_le _ _)

pub slice_bounds-first_repeat-end : goal.slice_bounds-first_repeat-end
slice_bounds-first_repeat-end c = sym (length-take-le _ c.args.ranks.now (short c))

pub returns : goal.returns
unfolding rank_rule
returns c =
    let xs = c.args.ranks.now in
    let repeat : c.first_repeat.result ≡ first_bad (first_not (length xs) (λ i. within 0 max_rank (pos (get_or xs i 0)))) (is_new (λ i. pos (get_or xs i 0))) =
    c.first_repeat.ensures ∙ new_taken c.unwrap_or-inside.result xs (short (goal.at.returns c).After-unwrap_or-inside) ∙ ap (λ (n : ℕ). first_bad n (is_new (λ i. pos (get_or xs i 0)))) (inside (goal.at.returns c).After-unwrap_or-inside) in
    rw (c.or.ensures, repeat, c.first_outside-outside.ensures) (bad_both _ _ _)
