-- Three stripes stored, one after the other.
use Rattle.opening.proofs.Parts.{stripes_put}
use Rattle.opening.proofs.put_lists.Goals as goal

pub returns : goal.returns
returns c =
    let a = c.args in
    stripes_put a.lists.now a.ranks.now a.sizes.now a.count c.told-lists c.requires.0 c.requires.1 c.put_stripe.ensures c.put_stripe-2.ensures (c.fill.ensures.after (λ y e. e))
