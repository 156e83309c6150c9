use mathlib.Core.Path.{ap, ◌∙◌}
use Rattle.std.specs.Option.{is_none}
use Rattle.format.specs.Limits.{sizes_rule}
use Rattle.rules.proofs.First.{is_none_of, is_none_bad}
use Rattle.rules.proofs.limits.sizes_ok.Goals as goal

pub returns : goal.returns
unfolding sizes_rule
returns c = is_none_of _ _ c.is_none.ensures ∙ ap is_none c.first_bad_size.ensures ∙ is_none_bad _ _
