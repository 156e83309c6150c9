-- Every promise holds.
use mathlib.Core.Path.{◌≡◌, sym, ◌∙◌}
use mathlib.Core.List.{List}
use Prim.Native.Nat.{ℕ}
use lib.IntN.{ℤ}
use lib.ListN.{length}
use Rattle.format.specs.Open.{Opening, open_refusal}
use Rattle.container.specs.Start.{Opens}
use Rattle.container.specs.Refusing.{Refusals}
use Rattle.container.specs.Main.{Promises}
use Rattle.format.proofs.Only.{only}
use Rattle.format.proofs.Every.{every, says}
use Rattle.container.proofs.Refusing.{load_number, load_refuses, chunk_refuses, chunk_judged, part_number, part_refuses, part_there, total_refuses, total_judged, read_refuses, read_judged, size_refuses, length_refuses, length_judged, prefix_refuses, prefix_judged, open_number, needs_refuses, needs_says, open_refuses, open_within_refuses, write_refuses, write_within_refuses, write_judged, close_refuses, close_within_refuses, close_judged, flag_ends}
use Rattle.format.proofs.Outcomes.{empty_keeps}
use Rattle.container.proofs.ReadsBack.{reads_back, refuses_back}
use Rattle.container.proofs.Where.{says_where}
use Rattle.container.proofs.Opens.{opens_exactly}
use Rattle.container.proofs.Stores.{opening_stores_hold, close_stores_hold, closed_ends}
use Rattle.container.proofs.Starts.{is_start, has_front}
use Rattle.container.proofs.WrittenBack.{written_back}
use Rattle.container.proofs.Rooms.{room, alike, any_version}
use Rattle.container.proofs.Finished.{finished}
use Rattle.container.proofs.Earlier.{stays_acceptable}
use Rattle.container.proofs.Cuts.{cuts, enough, closes_again}

refusals : Refusals
refusals = record {
  load_refuses = load_refuses;
  chunk_refuses = chunk_refuses;
  part_refuses = part_refuses;
  total_refuses = total_refuses;
  read_refuses = read_refuses;
  size_refuses = size_refuses;
  length_refuses = length_refuses;
  prefix_refuses = prefix_refuses;
  needs_refuses = needs_refuses;
  open_refuses = open_refuses;
  open_within_refuses = open_within_refuses;
  write_refuses = write_refuses;
  write_within_refuses = write_within_refuses;
  close_refuses = close_refuses;
  close_within_refuses = close_within_refuses;
  chunk_judged = chunk_judged;
  total_judged = total_judged;
  read_judged = read_judged;
  length_judged = length_judged;
  prefix_judged = prefix_judged;
  write_judged = write_judged;
  close_judged = close_judged;
  part_number = part_number;
  needs_says = needs_says;
  empty_write = empty_keeps;
  flag_ends = flag_ends;
  closed_ends = closed_ends;
}

-- an opening's answer is the number of its tests
opens : (o : Opening) (image : List ℕ) (table : List ℤ) → Opens o image table → open_refusal o (length image) (length table) ≡ 0
opens o image table e = sym (open_number o image table) ∙ e

pub promises : Promises
promises = record {
  refusals = refusals;
  says_where = says_where;
  accepts_exactly =
      λ f image table. record {
        only = λ e. only f image (length table) (sym (load_number f image table) ∙ e);
        every = λ c room. load_number f image table ∙ every f image c.says c.first c.second (length table) room;
        says = λ c e. says f image c.says c.first c.second table (sym (load_number f image table) ∙ e);
      };
  reads_back = λ f image table c e.
      let zero = sym (load_number f image table) ∙ e in (
        reads_back f image c.says c.first c.second table zero,
        refuses_back f image c.says c.first c.second table zero,
      );
  stays_acceptable = stays_acceptable;
  part_there = part_there;
  opens_exactly = opens_exactly;
  opening_stores_hold = opening_stores_hold;
  close_stores_hold = close_stores_hold;
  finished = λ o image table qs e. finished o image table qs (opens o image table e);
  written_back = written_back;
  room = room;
  alike = alike;
  any_version = any_version;
  cuts = λ o image table e. cuts o image table (opens o image table e);
  enough = enough;
  closes_again = closes_again;
  starts = λ o image table e. (is_start o image table (opens o image table e), has_front o image table (opens o image table e));
}
