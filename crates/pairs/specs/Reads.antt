-- Reads of a loaded pair by global rank (W-204): one chunk as a part of whichever of the two images holds it, the copying read and a task's total,
-- each with its tests. Each container is of the file that its calls mean, `First` and `Second`.
use Rattle.std.specs.Prelude.{Bool, cond, not, ◌&&◌, List, [], ◌∷◌, ◌++◌, ℕ, ◌+◌, ◌-◌, min, ltb, eqb, ℤ, pos, length, take, drop}
use Rattle.endian.specs.Signed.{within}
use Rattle.lists.specs.Splice.{splice}
use Rattle.format.specs.declared.loaded.ByteCount.{ByteCount}
use Rattle.format.specs.declared.head.File.TheVariants.{First, Second}
use Rattle.format.specs.Refusals.{Test, test, first_failing}
use Rattle.format.specs.Record.{rank_of, sound_test, lent_tests}
use Rattle.format.specs.Loaded.{loaded_sound}
use Rattle.format.specs.Reads.{Container, container_of, chunks_used, chunk_bytes, chunk_place, stream_of, total_of}
use Rattle.pairs.specs.declared.PairPart.{PairPart}
use Rattle.pairs.specs.Ranks.{mapping_size, none_lacking, in_second, local_rank}
use Rattle.pairs.specs.Mapping.{file_of_rank}
use Rattle.pairs.specs.Load.{pair_loaded, pair_load_tables}

pub record LoadedPair : Type 0 where
  pub first : Container
  pub second : Container

abbrev pub loaded_pair : Container → Container → LoadedPair
loaded_pair first second = record { first = first; second = second }

-- the pair that a load hands back
abbrev pub pair_from : List ℕ → List ℕ → List ℤ → List ℤ → LoadedPair
pair_from image image' table table' =
    let a = pair_loaded image image' table table' in
    let tables = pair_load_tables image image' table table' in
    loaded_pair (container_of First a.loaded0 a.lists0 image tables.0) (container_of Second a.loaded1 a.lists1 image' tables.1)

-- the tests of 18 and 19 of one file
abbrev pub lent_in : Container → List Test
lent_in c = lent_tests c.loaded.head c.lists c.loaded.maxchunks c.image c.table

module _ (p : LoadedPair) where
  abbrev pub tasks₀ : ℕ
  tasks₀ = p.first.loaded.head.n

  abbrev pub tasks₁ : ℕ
  tasks₁ = p.second.loaded.head.n

  abbrev pub ranks₀ : ℕ → ℕ
  ranks₀ = rank_of p.first.lists

  abbrev pub ranks₁ : ℕ → ℕ
  ranks₁ = rank_of p.second.lists

  -- "17 for file 0, then for file 1, then 18, 19 for file 0, then for file 1"
  unfoldable pub loaded_pair_tests : List Test
  loaded_pair_tests =
      sound_test p.first.loaded.closed (loaded_sound p.first.file p.first.loaded p.first.lists)
      ∷ sound_test p.second.loaded.closed
      (loaded_sound p.second.file p.second.loaded p.second.lists && none_lacking tasks₀ tasks₁ ranks₀ ranks₁)
      ∷ (lent_in p.first ++ lent_in p.second)

  module _ (rank : ℕ) where
    -- where the rank's task is: the mapping, as the two records' ranks give it
    abbrev pub second? : Bool
    second? = in_second tasks₀ tasks₁ ranks₀ ranks₁ rank

    abbrev pub file_there : Container
    file_there = cond second? p.second p.first

    -- its task there, counted from 1
    abbrev pub task_there : ℕ
    task_there = local_rank tasks₀ tasks₁ ranks₀ ranks₁ rank + 1

    -- "then 14 comes if the rank is not below mapping_size"
    unfoldable pub pair_read_tests : List Test
    pair_read_tests = loaded_pair_tests ++ (test 14 (not (ltb rank (mapping_size tasks₀ tasks₁))) ∷ [])

    -- ---- one chunk: "handed back as a part of whichever of the two images holds it, a refusal as file 0's empty part"

    unfoldable pub pair_chunk_refusal : ℕ → ℕ
    pair_chunk_refusal chunk = first_failing (pair_read_tests ++ (test 22 (not (within 1 (chunks_used file_there task_there) (pos chunk))) ∷ []))

    unfoldable pub pair_chunk : ℕ → List ℕ
    pair_chunk chunk = cond (eqb (pair_chunk_refusal chunk) 0) (chunk_bytes file_there task_there chunk) []

    -- the same part as a place in one of the images
    unfoldable pub pair_part : ℕ → PairPart
    pair_part chunk =
        cond (eqb (pair_chunk_refusal chunk) 0)
        (record {
          refusal = 0;
          file = file_of_rank second?;
          start = (chunk_place file_there task_there chunk).start;
          length = (chunk_place file_there task_there chunk).length;
        })
        (record { refusal = pair_chunk_refusal chunk; file = 0; start = 0; length = 0 })

    -- ---- a task's total, and the copying read

    unfoldable pub pair_total : ByteCount
    pair_total =
        cond (eqb (first_failing pair_read_tests) 0) (record { refusal = 0; bytes = total_of file_there task_there })
        (record { refusal = first_failing pair_read_tests; bytes = 0 })

    unfoldable pub pair_read_refusal : ℕ → ℕ
    pair_read_refusal place = first_failing (pair_read_tests ++ (test 23 (ltb (total_of file_there task_there) place) ∷ []))

    unfoldable pub pair_read_answer : ℕ → List ℕ → ByteCount
    pair_read_answer place out =
        cond (eqb (pair_read_refusal place) 0) (record { refusal = 0; bytes = min (length out) (total_of file_there task_there - place) })
        (record { refusal = pair_read_refusal place; bytes = 0 })

    unfoldable pub pair_read_output : ℕ → List ℕ → List ℕ
    pair_read_output place out =
        cond (eqb (pair_read_refusal place) 0) (splice out 0 (take (length out) (drop place (stream_of file_there task_there)))) out
