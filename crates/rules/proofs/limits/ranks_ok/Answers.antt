use mathlib.Core.Path.{sym, ap, ◌∙◌}
use Rattle.std.specs.Option.{is_none}
use Rattle.format.proofs.Rules.{ranks_each}
use Rattle.rules.proofs.First.{is_none_of, is_none_bad}
use Rattle.rules.proofs.limits.ranks_ok.Goals as goal

pub returns : goal.returns
returns c = is_none_of _ _ c.is_none.ensures ∙ ap is_none c.first_bad_rank.ensures ∙ is_none_bad _ _ ∙ sym (ranks_each _ _)
