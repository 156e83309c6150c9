-- All that is promised, over every image, table, record, opening and list of requests: one field for each promise. What is said of an image, of a
-- session and of an opening is said of whichever file a call means (W-204): the entries of this crate mean a single file.
use Rattle.std.specs.Prelude.{◌≡◌, List, ℕ, ℤ}
use Rattle.format.specs.declared.head.File.{File}
use Rattle.format.specs.Session.{State}
use Rattle.format.specs.Open.{Opening}
use Rattle.format.specs.Write.{Request}
use Rattle.format.specs.Close.{maxchunks_used, close_answer}
use Rattle.format.specs.Container.{IsContainer, WasContainer}
use Rattle.format.specs.Load.{load_answer}
use Rattle.format.specs.Reads.{Container, loaded_from}
use Rattle.container.specs.Start.{Start, IsStart, HasFront, VersionsFit, Opens, opened_start, after, greatest_count}
use Rattle.container.specs.Refusing.{Refusals}
use Rattle.container.specs.Where.{SaysWhere}
use Rattle.container.specs.Format.{AcceptsExactly, PartThere, ReadsBack, RefusesBack, OpensExactly, OpeningStores, CloseStores}
use Rattle.container.specs.WrittenBack.{Finished, WrittenBack}
use Rattle.container.specs.Room.{Claim, Alike}
use Rattle.container.specs.Earlier.{StaysAcceptable}
use Rattle.container.specs.Versions.{in_format, SameWrites}
use Rattle.container.specs.Cuts.{Cuts, Enough, ClosesAgain}

pub record Promises : Type 0 where
  -- demand 1: any bytes and any request
  pub refusals : Refusals
  -- where a load broke off (W-205)
  pub says_where : (f : File) → (image : List ℕ) → (table : List ℤ) → SaysWhere f image table
  -- demand 2: exactly the format
  pub accepts_exactly : (f : File) → (image : List ℕ) → (table : List ℤ) → AcceptsExactly f image table
  pub reads_back : (f : File) → (image : List ℕ) → (table : List ℤ) → (c : IsContainer f image) → (load_answer f image table).refusal ≡ 0
      → ReadsBack image c.says (loaded_from f image table) × RefusesBack c.says (loaded_from f image table)
  pub stays_acceptable : (image : List ℕ) → (was : WasContainer image) → StaysAcceptable image was
  pub part_there : (c : Container) → (task chunk : ℕ) → PartThere c task chunk
  pub opens_exactly : (o : Opening) → (image : List ℕ) → (table : List ℤ) → OpensExactly o image table
  pub opening_stores_hold : (o : Opening) → (image : List ℕ) → (table : List ℤ) → Opens o image table → OpeningStores o image table
  pub close_stores_hold : (st : State) → (close_answer st).refusal ≡ 0 → CloseStores st (maxchunks_used st)
  pub finished : (o : Opening) → (image : List ℕ) → (table : List ℤ) → (qs : List Request) → Opens o image table
      → Finished o image table qs (after (opened_start o image table) qs) (greatest_count (opened_start o image table) qs)
  pub written_back : (s : Start) → IsStart s → HasFront s → VersionsFit s.plan → (qs : List Request) → WrittenBack s qs
  -- demand 3: a task can count on its room
  pub room : (s : Start) → IsStart s → (qs : List Request) → Claim s qs
  pub alike : (s t : Start) → IsStart s → IsStart t → s.plan ≡ t.plan → s.book ≡ t.book → Alike s t
  -- whatever the version: two starts whose plans differ in it only
  pub any_version : (s t : Start) → IsStart s → IsStart t → (format : ℕ) → t.plan ≡ in_format format s.plan → s.book ≡ t.book
      → (qs : List Request) → SameWrites s t qs
  -- power cuts (W-212): what is found at each moment, that a budget which is enough gives the call itself, and a close that is made again
  pub cuts : (o : Opening) → (image : List ℕ) → (table : List ℤ) → Opens o image table → Cuts o image table
  pub enough : Enough
  pub closes_again : (st : State) → (b : ℕ) → ClosesAgain st b
  -- an accepted opening gives a start
  pub starts : (o : Opening) → (image : List ℕ) → (table : List ℤ) → Opens o image table
      → IsStart (opened_start o image table) × HasFront (opened_start o image table)
