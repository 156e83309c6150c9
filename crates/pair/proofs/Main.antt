-- Every promise of a pair holds.
use Rattle.pair.specs.Main.{PairPromises}
use Rattle.pair.proofs.Refusing.{pair_refusals_hold, pair_part_there}
use Rattle.pair.proofs.Where.{pair_says_where}
use Rattle.pair.proofs.Accepts.{accepts_pairs}
use Rattle.pair.proofs.ReadsBack.{pair_reads_back}
use Rattle.pair.proofs.Opens.{needs_exactly, pair_opens_exactly}
use Rattle.pair.proofs.Closes.{pair_close_stores}
use Rattle.pair.proofs.Finished.{pair_finished}
use Rattle.pair.proofs.WrittenBack.{pair_written_back}
use Rattle.pair.proofs.Names.{named}
use Rattle.pair.proofs.Rooms.{pair_room, plans_alike}
use Rattle.pair.proofs.Enough.{pair_enough}
use Rattle.pair.proofs.Starts.{pair_starts, has_fronts}

pub pair_promises : PairPromises
pair_promises = record {
  refusals = pair_refusals_hold;
  says_where = pair_says_where;
  accepts_exactly = accepts_pairs;
  reads_back = pair_reads_back;
  part_there = pair_part_there;
  needs_exactly = needs_exactly;
  opens_exactly = pair_opens_exactly;
  close_stores_hold = pair_close_stores;
  finished = pair_finished;
  written_back = pair_written_back;
  named = named;
  room = pair_room;
  alike = plans_alike;
  enough = pair_enough;
  starts = λ o o' image table image' table' opens.
      let (first, second, zero) = opens in
      (pair_starts o o' image table image' table' first second zero, has_fronts o o' image table image' table' first second zero);
}
