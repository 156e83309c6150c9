-- Demand 2 of a pair's sessions (W-204): what both sessions accepted is read back by global rank, from every start; and from an accepted opening both
-- finished files byte by byte.
use Rattle.std.specs.Prelude.{◌≡◌, true, false, List, ◌++◌, ℕ, ◌+◌, ◌-◌, ◌*◌, ◌≤◌, ◌<◌, min, ℤ, length, take, drop}
use Rattle.lists.specs.Below.{join_below}
use Rattle.lists.specs.Splice.{splice}
use Rattle.format.specs.declared.head.File.TheVariants.{First, Second}
use Rattle.format.specs.Open.{Opening, tasks}
use Rattle.format.specs.Write.{Request, accepted}
use Rattle.format.specs.Close.{maxchunks_used}
use Rattle.format.specs.Container.{Recorded}
use Rattle.format.specs.Reads.{chunks_used}
use Rattle.pairs.specs.Sessions.{size, pair_closed, pair_close_images}
use Rattle.pairs.specs.Load.{pair_loaded}
use Rattle.pairs.specs.Reads.{LoadedPair, pair_from, file_there, task_there, pair_chunk_refusal, pair_chunk, pair_total, pair_read_answer, pair_read_output}
use Rattle.container.specs.Start.{HasFront, VersionsFit, opened_start, greatest_count}
use Rattle.container.specs.WrittenBack.{contents_of, Finished}
use Rattle.pair.specs.Start.{PairStart, pair, opened_pair, pair_bytes, pair_after, pair_answers}
use Rattle.pair.specs.Room.{in_file}
use Rattle.pair.specs.Format.{HasMapping}
use Rattle.pair.specs.Stores.{PairCloseStores}

-- a pair loaded: its parts, totals and streams, for each of n ranks the given bytes
pub record PairGivesBack (p : LoadedPair) (n : ℕ) (bytes : ℕ → List ℕ) : Type 0 where
  pub allowed : (r k : ℕ) → r < n → k < chunks_used (file_there p r) (task_there p r) → pair_chunk_refusal p r (k + 1) ≡ 0
  pub parts : (r : ℕ) → r < n → join_below (chunks_used (file_there p r) (task_there p r)) (λ k. pair_chunk p r (k + 1)) ≡ bytes r
  pub totals : (r : ℕ) → r < n → pair_total p r ≡ record { refusal = 0; bytes = length (bytes r) }
  pub copied : (r at : ℕ) → (out : List ℕ) → r < n → at ≤ length (bytes r)
      → pair_read_answer p r at out ≡ record { refusal = 0; bytes = min (length out) (length (bytes r) - at) }
  pub streams : (r at : ℕ) → (out : List ℕ) → r < n → at ≤ length (bytes r)
      → pair_read_output p r at out ≡ splice out 0 (take (length out) (drop at (bytes r)))

module _ (s : PairStart) (qs : List Request) where
  -- the bytes of a rank already there, then those accepted from it
  abbrev pub bytes_of : ℕ → List ℕ
  bytes_of r = pair_bytes s r ++ accepted r qs (pair_answers s qs)

  -- two images, loaded with tables that are long enough: accepted, each file with its session's fields; after META2 of file 0 the mapping; and each rank
  -- gives back its bytes
  pub record PairLoadsAgain (image image' : List ℕ) (table table' : List ℤ) : Type 0 where
    pub accepts : (pair_loaded image image' table table').refusal ≡ 0
    pub recorded : let a = pair_loaded image image' table table' in
        Recorded First (contents_of s.first.plan (pair_after s qs).first) a.loaded0 a.lists0
        × Recorded Second (contents_of s.second.plan (pair_after s qs).second) a.loaded1 a.lists1
    pub mapped : HasMapping (contents_of s.first.plan (pair_after s qs).first) (contents_of s.second.plan (pair_after s qs).second) image
    pub gives_back : PairGivesBack (pair_from image image' table table') (size (pair s)) bytes_of

  -- a start and any list of writes: the sessions close; the first `length0` bytes of file 0 and the first `length1` of file 1, each followed by anything,
  -- are loaded again
  pub record PairWrittenBack : Type 0 where
    pub closes : (pair_closed (pair_after s qs)).refusal ≡ 0
    pub loads : (tail tail' : List ℕ) → (cells cells' : List ℤ)
        → tasks s.first.plan * maxchunks_used (pair_after s qs).first ≤ length cells
        → tasks s.second.plan * maxchunks_used (pair_after s qs).second ≤ length cells'
        → let a = pair_closed (pair_after s qs) in
        let images = pair_close_images (pair_after s qs) in
        PairLoadsAgain (take a.length0 images.0 ++ tail) (take a.length1 images.1 ++ tail') cells cells'

-- its images have the first fields of META1, and library versions are ones that 32 bits hold: as of a single file, in each
abbrev pub HasFronts : PairStart → Type 0
HasFronts s = HasFront s.first × HasFront s.second

abbrev pub AllVersionsFit : PairStart → Type 0
AllVersionsFit s = VersionsFit s.first.plan × VersionsFit s.second.plan

-- an opened pair, written to and closed: each file as a single file's close finishes it, and in file 0 the mapping after META2
pub record PairFinished (o o' : Opening) (image : List ℕ) (table : List ℤ) (image' : List ℕ) (table' : List ℤ) (qs : List Request) : Type 0 where
  pub first : let s = opened_pair o o' image table image' table' in
      Finished o image table (in_file s false qs) (pair_after s qs).first (greatest_count (opened_start o image table) (in_file s false qs))
  pub second : let s = opened_pair o o' image table image' table' in
      Finished o' image' table' (in_file s true qs) (pair_after s qs).second (greatest_count (opened_start o' image' table') (in_file s true qs))
  pub stored : PairCloseStores (pair_after (opened_pair o o' image table image' table') qs)
