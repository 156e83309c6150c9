-- File 0's task, or else file 1's, or else none.
use mathlib.Core.Path.{sym, ◌∙◌}
use Rattle.ranks.proofs.Carrying.{held_first, held_second, held_not}
use Rattle.ranks.proofs.holder_of.Goals as goal

pub returns-in-Some : goal.returns-in-Some
returns-in-Some c = held_first _ _ _ (sym c.carrier_of.ensures ∙ c.in-Some.is)

pub returns-in_err-j : goal.returns-in_err-j
returns-in_err-j c = c.from_residual.ensures ∙ held_not _ _ _ (sym c.carrier_of.ensures ∙ c.in_default.is) (sym c.carrier_of-2.ensures ∙ c.in_err-j.was)

pub returns : goal.returns
returns c = held_second _ _ _ (sym c.carrier_of.ensures ∙ c.in_default.is) (sym c.carrier_of-2.ensures ∙ c.in_ok-j.was)
