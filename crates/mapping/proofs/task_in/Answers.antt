-- File 1's task, or file 0's.
use borrow.Author.Tests.{lt-ltb, le-ltb}
use Rattle.mapping.specs.Entries.{task_in}
use Rattle.mapping.proofs.task_in.Goals as goal

pub returns-then-n-holder : goal.returns-then-n-holder
unfolding task_in
returns-then-n-holder c = rw (lt-ltb c.args.n c.args.holder c.if-n-holder.true)

pub returns-else-n-holder : goal.returns-else-n-holder
unfolding task_in
returns-else-n-holder c = rw (le-ltb c.args.n c.args.holder c.if-n-holder.false)
