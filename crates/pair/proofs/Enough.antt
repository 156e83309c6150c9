-- Within budgets of byte stores that are enough, a call on a pair is the call itself.
use native.Mathlib.Nat.{le_trans}
use Rattle.format.proofs.Storing.{open_few}
use Rattle.pair_opening.proofs.Opened.{pair_whole}
use Rattle.pair_writing.proofs.Written.{write_all}
use Rattle.pair_closing.proofs.Closed.{close_whole}
use Rattle.pair.specs.Main.{PairEnough}

pub pair_enough : PairEnough
pair_enough = record {
  opens = λ o o' image table image' table' b b' l l'.
      pair_whole o o' image table image' table' b b' (le_trans (open_few o image table) l) (le_trans (open_few o' image' table') l');
  writes = write_all;
  closes = close_whole;
}
