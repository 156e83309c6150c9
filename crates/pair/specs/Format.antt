-- Demand 2 of a pair (W-204): what a pair is, whatever loads it; that the loader accepts exactly that and hands back what both files say; and what is
-- read of it by global rank. Tasks and chunks are counted from 0: i for task i + 1, k for chunk k + 1.
use Rattle.std.specs.Prelude.{◌≡◌, Bool, cond, List, ◌⊎◌, ℕ, ◌+◌, ◌-◌, ◌*◌, ◌≤◌, ◌<◌, min, ℤ, pos, length, take, drop}
use Rattle.endian.specs.Signed.{signed_at}
use Rattle.lists.specs.Splice.{splice}
use Rattle.format.specs.declared.head.File.TheVariants.{First, Second}
use Rattle.format.specs.Layout.{meta2_end}
use Rattle.format.specs.Container.{Contents, IsContainer, Says}
use Rattle.pairs.specs.Load.{pair_loaded, pair_load_tables}
use Rattle.pairs.specs.Reads.{LoadedPair, pair_chunk_refusal, pair_chunk, pair_part, pair_total, pair_read_answer, pair_read_output}
use Rattle.container.specs.Format.{bytes_said, stream_said, total_said}

-- where META2 of file 0 ends, and the mapping starts
abbrev pub mapping_at : Contents → ℕ
mapping_at c = meta2_end c.blocksize c.n c.size c.maxchunks

-- "file number and local rank, counted from 0 (our rule)", 4 bytes each, in file 0's byte order: "Each entry names an existing task that carries that
-- rank". c is what file 0 says, c' what file 1 says
pub record Entry (c c' : Contents) (image : List ℕ) (at rank : ℕ) : Type 0 where
  pub second : Bool
  pub i : ℕ
  pub file_is : signed_at c.big 4 image at ≡ pos (cond second 1 0)
  pub task_is : signed_at c.big 4 image (at + 4) ≡ pos i
  pub exists : i < (cond second c' c).n
  pub carries : (cond second c' c).rank i ≡ rank

-- "After META2 of file 0 stands the mapping of source document 004: mapping_size (the sum of both files' tasks), then file number and local rank ..
-- for each global rank from 0 up"
pub record HasMapping (c c' : Contents) (image : List ℕ) : Type 0 where
  pub fits : mapping_at c + (4 + 8 * (c.n + c'.n)) ≤ length image
  pub size_is : signed_at c.big 4 image (mapping_at c) ≡ pos (c.n + c'.n)
  pub entries : (rank : ℕ) → rank < c.n + c'.n → Entry c c' image (mapping_at c + 4 + 8 * rank) rank

-- a pair: what the loader of pairs has to accept, given tables that are long enough, and nothing else
pub record IsPair (image image' : List ℕ) : Type 0 where
  pub first : IsContainer First image
  pub second : IsContainer Second image'
  pub mapped : HasMapping first.says second.says image

-- each table has a cell for each value of its file
abbrev pub CellsFor : {image image' : List ℕ} → IsPair image image' → List ℤ → List ℤ → Type 0
CellsFor p table table' =
    (p.first.says.n * p.first.says.maxchunks ≤ length table) × (p.second.says.n * p.second.says.maxchunks ≤ length table')

-- accepted exactly when the two images are a pair and the tables are long enough: both directions, and what is handed back of each file
pub record AcceptsPairs (image image' : List ℕ) (table table' : List ℤ) : Type 0 where
  pub only : (pair_loaded image image' table table').refusal ≡ 0 → (p : IsPair image image') × CellsFor p table table'
  pub every : (p : IsPair image image') → CellsFor p table table' → (pair_loaded image image' table table').refusal ≡ 0
  pub says : (p : IsPair image image') → (pair_loaded image image' table table').refusal ≡ 0
      → let a = pair_loaded image image' table table' in
      let tables = pair_load_tables image image' table table' in
      Says First p.first.says a.loaded0 a.lists0 table tables.0
      × Says Second p.second.says a.loaded1 a.lists1 table' tables.1

-- ---- what is read of a pair, with the records and the tables that loading handed back

module _ {image image' : List ℕ} (p : IsPair image image') where
  -- how many ranks there are; the entry of one; the file that it names, as image and as what it says; and the task there
  abbrev pub ranks : ℕ
  ranks = p.first.says.n + p.second.says.n

  module _ (rank : ℕ) (below : rank < ranks) where
    abbrev pub file_image : List ℕ
    file_image = cond (p.mapped.entries rank below).second image' image

    abbrev pub file_says : Contents
    file_says = cond (p.mapped.entries rank below).second p.second.says p.first.says

    abbrev pub task_of : ℕ
    task_of = (p.mapped.entries rank below).i

  -- every used chunk, every total and every stream from every place in it, by rank; a part's place is in the image that the entry names
  pub record PairReadsBack (loaded : LoadedPair) : Type 0 where
    pub chunks : (r k : ℕ) → (b : r < ranks) → k < (file_says r b).count (task_of r b) → pair_chunk_refusal loaded r (k + 1) ≡ 0
    pub parts : (r k : ℕ) → (b : r < ranks) → k < (file_says r b).count (task_of r b)
        → pair_chunk loaded r (k + 1) ≡ bytes_said (file_image r b) (file_says r b) (task_of r b) k
    pub places : (r k : ℕ) → (b : r < ranks) → k < (file_says r b).count (task_of r b)
        → ((pair_part loaded r (k + 1)).file ≡ cond (p.mapped.entries r b).second 1 0)
        × (take (pair_part loaded r (k + 1)).length (drop (pair_part loaded r (k + 1)).start (file_image r b)) ≡ pair_chunk loaded r (k + 1))
    pub totals : (r : ℕ) → (b : r < ranks) → pair_total loaded r ≡ record { refusal = 0; bytes = total_said (file_says r b) (task_of r b) }
    pub copied : (r at : ℕ) → (out : List ℕ) → (b : r < ranks) → at ≤ total_said (file_says r b) (task_of r b)
        → pair_read_answer loaded r at out ≡ record { refusal = 0; bytes = min (length out) (total_said (file_says r b) (task_of r b) - at) }
    pub streams : (r at : ℕ) → (out : List ℕ) → (b : r < ranks) → at ≤ total_said (file_says r b) (task_of r b)
        → pair_read_output loaded r at out
        ≡ splice out 0 (take (length out) (drop at (stream_said (file_image r b) (file_says r b) (task_of r b))))

  -- and what is refused then: a rank that there is not, a chunk that is not in use, a place past the total, each with its own number
  pub record PairRefusesBack (loaded : LoadedPair) : Type 0 where
    pub no_rank : (r chunk at : ℕ) → (out : List ℕ) → ranks ≤ r
        → (pair_chunk_refusal loaded r chunk ≡ 14) × ((pair_total loaded r).refusal ≡ 14) × ((pair_read_answer loaded r at out).refusal ≡ 14)
    pub no_chunk : (r chunk : ℕ) → (b : r < ranks) → (chunk ≡ 0) ⊎ ((file_says r b).count (task_of r b) < chunk) → pair_chunk_refusal loaded r chunk ≡ 22
    pub past_total : (r at : ℕ) → (out : List ℕ) → (b : r < ranks) → total_said (file_says r b) (task_of r b) < at
        → (pair_read_answer loaded r at out).refusal ≡ 23
