-- File 0's tasks, then file 1's, over a row with none.
use native.Mathlib.Omega.{arith}
use Rattle.ranks.proofs.Holding.{holders_are}
use Rattle.ranks.proofs.put_all_holders.Goals as goal

pub returns : goal.returns
returns c = holders_are _ _ _ _ (omega (arith, c.requires)) (rw c.requires.0 at c.put_holders.ensures) c.put_holders-2.ensures
