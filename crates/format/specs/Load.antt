-- Loading a container (document 01, "Order when loading"): its tests, and what an accepted and a refused load hand back.
use Rattle.std.specs.Prelude.{cond, List, ◌∷◌, ◌++◌, ℕ, ◌*◌, ltb, eqb, ℤ, pos, length}
use Rattle.lists.specs.Splice.{splice}
use Rattle.format.specs.Refusals.{Test, test_at, no_fault, first_failing, first_fault}
use Rattle.format.specs.declared.fault.Fault.{Fault}
use Rattle.format.specs.declared.head.File.{File}
use Rattle.format.specs.Kinds
use Rattle.format.specs.Meta2.{meta2_part}
use Rattle.format.specs.Record.{lists_of, no_lists}
use Rattle.format.specs.Judge.{number_fault, tasks_in, maxchunks_in, head_in, rank_in, size_in, meta2_in, meta1_tests, count_in, values_in, meta2_tests}
use Rattle.format.specs.declared.loaded.LoadAnswer.{LoadAnswer}
use Rattle.format.specs.declared.loaded.Loaded.{Loaded}
use Rattle.format.specs.Loaded.{loaded_of, no_loaded}

module _ (image : List ℕ) where
  unfoldable pub meta2_bytes : List ℕ
  meta2_bytes = meta2_part image (meta2_in image) (tasks_in image) (maxchunks_in image)

  unfoldable pub loaded_in : Loaded
  loaded_in = loaded_of (head_in image) (maxchunks_in image) 0

  unfoldable pub lists_in : List ℕ
  lists_in = lists_of (tasks_in image) (rank_in image) (size_in image) (count_in (head_in image) meta2_bytes)

-- as the file that the call means
module _ (f : File) (image : List ℕ) where
  -- "1, 2, 3 (1076), 4, 5, 6, 7, 3 (full), 8, 9, 10, 11, 12, 18 (table), 13", with a table of so many cells; "for 18, 0"
  unfoldable pub load_tests : ℕ → List Test
  load_tests cells =
      let needed = tasks_in image * maxchunks_in image in
      meta1_tests image f (length image)
      ++ (test_at 18 (number_fault Kinds.table 0 (pos cells) needed needed) (ltb cells needed)
      ∷ meta2_tests (head_in image) (size_in image) (maxchunks_in image) (meta2_in image) (meta2_bytes image))

  -- the number, and the field that is broken
  unfoldable pub load_refusal : ℕ → ℕ
  load_refusal cells = first_failing (load_tests cells)

  unfoldable pub load_fault : ℕ → Fault
  load_fault cells = first_fault (load_tests cells)

  -- "A refused opening or load hands back a record of zeros marked closed"
  unfoldable pub check_answer : ℕ → LoadAnswer
  check_answer cells =
      cond (eqb (load_refusal cells) 0) (record { loaded = loaded_in image; lists = lists_in image; refusal = 0; fault = no_fault })
      (record { loaded = no_loaded; lists = no_lists; refusal = load_refusal cells; fault = load_fault cells })

  unfoldable pub load_answer : List ℤ → LoadAnswer
  load_answer table = check_answer (length table)

  -- "A refused load leaves the table as it was; an accepted one fills just n·maxchunks cells"
  unfoldable pub load_table : List ℤ → List ℤ
  load_table table =
      cond (eqb (load_refusal (length table)) 0) (splice table 0 (values_in (head_in image) (maxchunks_in image) (meta2_bytes image))) table
