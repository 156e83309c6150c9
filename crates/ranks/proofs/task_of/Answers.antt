-- The ranks are the first entries of each list.
use mathlib.Core.Path.{ap, ◌∙◌}
use Rattle.ranks.specs.Holders.{some_task}
use Rattle.ranks.proofs.Carrying.{holder_listed}
use Rattle.ranks.proofs.task_of.Goals as goal

pub returns : goal.returns
returns c =
    let a = c.args in
    c.holder_of.ensures ∙ ap some_task (holder_listed a.lists0.now a.lists1.now c.told-lists0 c.told-lists1 a.n a.m c.requires.0 c.requires.1 a.rank)
