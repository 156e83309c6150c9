-- Two stores, the second where the first ended.
use Rattle.opening.proofs.Parts.{cells_put}
use Rattle.opening.proofs.blank.Goals as goal

pub returns : goal.returns
returns c =
    let a = c.args in
    cells_put a.table.now a.n a.begun a.planned c.requires.1 c.requires.3 (c.fill.ensures.after (λ y e. e)) (c.fill-2.ensures.after (λ y e. e))
