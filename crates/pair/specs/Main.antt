-- All that is promised of a pair (W-204), over all images, tables, records, openings and lists of requests: one field for each promise. What is promised
-- of a single file, and said of whichever file a call means, is `container`'s.
use Rattle.std.specs.Prelude.{◌≡◌, List, ℕ, ◌≤◌, ℤ, length}
use Rattle.format.specs.declared.head.File.TheVariants.{First, Second}
use Rattle.format.specs.Open.{Opening}
use Rattle.format.specs.Write.{Request}
use Rattle.pairs.specs.Open.{pair_opened, pair_found, pair_images}
use Rattle.pairs.specs.Sessions.{Pair, pair_after_write, pair_write_found, pair_closed, pair_close_found, pair_close_images}
use Rattle.pairs.specs.Load.{pair_loaded}
use Rattle.pairs.specs.Reads.{LoadedPair, pair_from}
use Rattle.pair.specs.Start.{PairStart, IsPairStart, opened_pair}
use Rattle.pair.specs.Refusing.{PairRefusals, PairPartThere}
use Rattle.pair.specs.Where.{PairSaysWhere}
use Rattle.pair.specs.Format.{IsPair, AcceptsPairs, PairReadsBack, PairRefusesBack}
use Rattle.pair.specs.Stores.{PairNeedsExactly, PairOpensExactly, PairCloseStores}
use Rattle.pair.specs.WrittenBack.{HasFronts, AllVersionsFit, PairWrittenBack, PairFinished}
use Rattle.pair.specs.Room.{Named, PairClaim, PairAlike}

-- within budgets that are enough a call is the call itself (W-212): as many byte stores as each image has bytes, and for a write as many as it has bytes
pub record PairEnough : Type 0 where
  pub opens : (o o' : Opening) → (image : List ℕ) → (table : List ℤ) → (image' : List ℕ) → (table' : List ℤ) → (b b' : ℕ)
      → length image ≤ b → length image' ≤ b' → pair_found o o' image table image' table' b b' ≡ pair_images o o' image table image' table'
  pub writes : (p : Pair) → (q : Request) → (b b' : ℕ) → length q.bytes ≤ b → length q.bytes ≤ b' → pair_write_found p q b b' ≡ pair_after_write p q
  pub closes : (p : Pair) → (b b' : ℕ) → length p.first.image ≤ b → length p.second.image ≤ b' → pair_close_found p b b' ≡ pair_close_images p

-- an accepted opening of files 0 and 1
module _ (o o' : Opening) (image : List ℕ) (table : List ℤ) (image' : List ℕ) (table' : List ℤ) where
  abbrev pub PairOpens : Type 0
  PairOpens = (o.file ≡ First) × (o'.file ≡ Second) × ((pair_opened o o' image table image' table').refusal ≡ 0)

pub record PairPromises : Type 0 where
  -- demand 1: any bytes and any request
  pub refusals : PairRefusals
  -- where a load broke off (W-205), with the file
  pub says_where : (image image' : List ℕ) → (table table' : List ℤ) → PairSaysWhere image image' table table'
  -- demand 2: exactly the format
  pub accepts_exactly : (image image' : List ℕ) → (table table' : List ℤ) → AcceptsPairs image image' table table'
  pub reads_back : (image image' : List ℕ) → (table table' : List ℤ) → (p : IsPair image image') → (pair_loaded image image' table table').refusal ≡ 0
      → PairReadsBack p (pair_from image image' table table') × PairRefusesBack p (pair_from image image' table table')
  pub part_there : (p : LoadedPair) → (rank chunk : ℕ) → PairPartThere p rank chunk
  pub needs_exactly : (o o' : Opening) → PairNeedsExactly o o'
  pub opens_exactly : (o o' : Opening) → (image : List ℕ) → (table : List ℤ) → (image' : List ℕ) → (table' : List ℤ)
      → PairOpensExactly o o' image table image' table'
  pub close_stores_hold : (p : Pair) → (pair_closed p).refusal ≡ 0 → PairCloseStores p
  pub finished : (o o' : Opening) → (image : List ℕ) → (table : List ℤ) → (image' : List ℕ) → (table' : List ℤ)
      → PairOpens o o' image table image' table' → (qs : List Request) → PairFinished o o' image table image' table' qs
  pub written_back : (s : PairStart) → IsPairStart s → HasFronts s → AllVersionsFit s → (qs : List Request) → PairWrittenBack s qs
  -- demand 3: a task, named by its rank, can count on its room
  pub named : (s : PairStart) → IsPairStart s → Named s
  pub room : (s : PairStart) → IsPairStart s → (qs : List Request) → PairClaim s qs
  pub alike : (s t : PairStart) → IsPairStart s → IsPairStart t → s.first.plan ≡ t.first.plan → s.second.plan ≡ t.second.plan
      → s.first.book ≡ t.first.book → s.second.book ≡ t.second.book → PairAlike s t
  -- budgets
  pub enough : PairEnough
  -- an accepted opening gives a start
  pub starts : (o o' : Opening) → (image : List ℕ) → (table : List ℤ) → (image' : List ℕ) → (table' : List ℤ)
      → PairOpens o o' image table image' table'
      → IsPairStart (opened_pair o o' image table image' table') × HasFronts (opened_pair o o' image table image' table')
