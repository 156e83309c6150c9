-- Reads on a loaded record with its lists, its image and its table (document 01, "Reads take a loaded record ..."): the part of one chunk, the
-- copying read and a task's total, each with its tests.
use Rattle.std.specs.Prelude.{cond, not, List, [], ◌∷◌, ◌++◌, ℕ, ◌+◌, ◌-◌, min, ltb, eqb, ℤ, pos, length, take, drop}
use Rattle.lists.specs.Below.{sum_below, join_below}
use Rattle.endian.specs.Signed.{within, natural}
use Rattle.lists.specs.Splice.{splice}
use Rattle.format.specs.declared.head.File.{File}
use Rattle.format.specs.declared.loaded.Loaded.{Loaded}
use Rattle.format.specs.declared.loaded.Part.{Part}
use Rattle.format.specs.declared.loaded.ByteCount.{ByteCount}
use Rattle.format.specs.Refusals.{Test, test, first_failing}
use Rattle.format.specs.Meta2.{value_index}
use Rattle.format.specs.Record.{cell, size_of, count_of, start_of, record_tests, is_task}
use Rattle.format.specs.Loaded.{loaded_sound}
use Rattle.format.specs.Load.{load_answer, load_table}

-- a loaded record with its lists, its image and its table, and the file that the calls mean
pub record Container : Type 0 where
  pub file : File
  pub loaded : Loaded
  pub lists : List ℕ
  pub image : List ℕ
  pub table : List ℤ

abbrev pub container_of : File → Loaded → List ℕ → List ℕ → List ℤ → Container
container_of file loaded lists image table = record { file = file; loaded = loaded; lists = lists; image = image; table = table }

-- the container that a load hands back
abbrev pub loaded_from : File → List ℕ → List ℤ → Container
loaded_from f image table =
    container_of f (load_answer f image table).loaded (load_answer f image table).lists image (load_table f image table)

-- "17, 18, 19"
unfoldable pub loaded_tests : Container → List Test
loaded_tests c =
    record_tests c.loaded.closed (loaded_sound c.file c.loaded c.lists) c.loaded.head c.lists c.loaded.maxchunks c.image
    c.table

-- the task is counted from 1
module _ (c : Container) (task : ℕ) where
  -- "17, 18, 19, 14"
  unfoldable pub read_tests : List Test
  read_tests = loaded_tests c ++ (test 14 (not (is_task c.loaded.head.n task)) ∷ [])

  unfoldable pub chunks_used : ℕ
  chunks_used = count_of c.lists (task - 1)

  -- the bytes that the task wrote in a chunk, counted from 1
  unfoldable pub written_in : ℕ → ℕ
  written_in chunk = natural (cell c.table (value_index c.loaded.head.n (chunk - 1) (task - 1)))

  -- "from chunk start for the cell's length"
  unfoldable pub chunk_bytes : ℕ → List ℕ
  chunk_bytes chunk = take (written_in chunk) (drop (start_of c.loaded.head (size_of c.lists) task chunk) c.image)

  -- ---- one chunk: "handed back as a part of the image, not copied. A refused call hands back the empty part"

  unfoldable pub chunk_refusal : ℕ → ℕ
  chunk_refusal chunk = first_failing (read_tests ++ (test 22 (not (within 1 chunks_used (pos chunk))) ∷ []))

  unfoldable pub chunk_part : ℕ → List ℕ
  chunk_part chunk = cond (eqb (chunk_refusal chunk) 0) (chunk_bytes chunk) []

  -- ---- the same part as a place in the image

  unfoldable pub chunk_place : ℕ → Part
  chunk_place chunk = record { refusal = 0; start = start_of c.loaded.head (size_of c.lists) task chunk; length = written_in chunk }

  unfoldable pub part_answer : ℕ → Part
  part_answer chunk = cond (eqb (chunk_refusal chunk) 0) (chunk_place chunk) (record { refusal = chunk_refusal chunk; start = 0; length = 0 })

  -- ---- the whole stream and its length

  unfoldable pub stream_of : List ℕ
  stream_of = join_below chunks_used (λ k. chunk_bytes (k + 1))

  unfoldable pub total_of : ℕ
  total_of = sum_below chunks_used (λ k. written_in (k + 1))

  unfoldable pub total_answer : ByteCount
  total_answer =
      cond (eqb (first_failing read_tests) 0) (record { refusal = 0; bytes = total_of })
      (record { refusal = first_failing read_tests; bytes = 0 })

  -- ---- the copying read: "takes a task and a place p in its whole stream, fills the lent output from there across chunks"

  unfoldable pub read_refusal : ℕ → ℕ
  read_refusal p = first_failing (read_tests ++ (test 23 (ltb total_of p) ∷ []))

  -- "reports the bytes copied (the smaller of output length and what follows p)"
  unfoldable pub read_answer : ℕ → List ℕ → ByteCount
  read_answer p out =
      cond (eqb (read_refusal p) 0) (record { refusal = 0; bytes = min (length out) (total_of - p) })
      (record { refusal = read_refusal p; bytes = 0 })

  -- "and changes no output byte after them"
  unfoldable pub read_output : ℕ → List ℕ → List ℕ
  read_output p out = cond (eqb (read_refusal p) 0) (splice out 0 (take (length out) (drop p stream_of))) out
