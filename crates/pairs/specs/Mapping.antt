-- W-204 and source document 004, the mapping, which stands after META2 of file 0: as bytes, and the tests of it (25), each with the field that it
-- judges.
use Rattle.std.specs.Prelude.{Bool, cond, not, List, [], ◌∷◌, ◌++◌, ℕ, suc, ◌+◌, ◌-◌, ◌*◌, ltb, eqb, ℤ, pos, length}
use Rattle.lists.specs.Below.{join_below}
use Rattle.endian.specs.Signed.{signed_at, signed_digits, within, natural}
use Rattle.format.specs.Kinds
use Rattle.format.specs.Refusals.{Test, test_at, fault_of}
use Rattle.format.specs.Judge.{is, number_fault, end_fault}
use Rattle.pairs.specs.Ranks.{mapping_size, in_second, local_rank}

-- 4 bytes each: mapping_size, and two numbers for each rank
unfoldable pub mapping_length : ℕ → ℕ → ℕ
mapping_length n m = 4 + 8 * mapping_size n m

-- the file number of a rank
abbrev pub file_of_rank : Bool → ℕ
file_of_rank second = cond second 1 0

module _ (n m : ℕ) (rank rank' : ℕ → ℕ) where
  -- "mapping_size (the sum of both files' tasks), then file number and local rank, counted from 0 (our rule), for each global rank from 0 up", in a
  -- byte order, which is file 0's
  unfoldable pub mapping : Bool → List ℕ
  mapping big =
      signed_digits big 4 (pos (mapping_size n m))
      ++ join_below (mapping_size n m)
      (λ r. signed_digits big 4 (pos (file_of_rank (in_second n m rank rank' r))) ++ signed_digits big 4 (pos (local_rank n m rank rank' r)))

  -- ---- what stands in an image from `at` on, in a byte order

  module _ (big : Bool) (image : List ℕ) (at : ℕ) where
    abbrev pub size_field : ℤ
    size_field = signed_at big 4 image at

    -- where the entry of a rank stands, and its two numbers
    abbrev pub entry_at : ℕ → ℕ
    entry_at r = at + 4 + 8 * r

    abbrev pub file_field : ℕ → ℤ
    file_field r = signed_at big 4 image (entry_at r)

    abbrev pub task_field : ℕ → ℤ
    task_field r = signed_at big 4 image (entry_at r + 4)

    -- the tasks of the file that an entry names, and the rank that the named task carries
    abbrev pub tasks_named : ℕ → ℕ
    tasks_named r = cond (is 0 (file_field r)) n m

    abbrev pub rank_named : ℕ → ℕ
    rank_named r = cond (is 0 (file_field r)) (rank (natural (task_field r))) (rank' (natural (task_field r)))

    -- "Each entry names an existing task that carries that rank"; "for a mapping entry, its start"
    unfoldable pub entry_tests : ℕ → List Test
    entry_tests r =
        test_at 25 (fault_of Kinds.entry_file (suc r) 0 (entry_at r) (file_field r) (pos 0) (pos 1)) (not (within 0 1 (file_field r)))
        ∷ test_at 25 (fault_of Kinds.entry_task (suc r) 0 (entry_at r) (task_field r) (pos 0) (pos (tasks_named r - 1)))
        (not (within 0 (tasks_named r - 1) (task_field r)))
        ∷ test_at 25 (fault_of Kinds.entry_rank (suc r) 0 (entry_at r) (pos (rank_named r)) (pos r) (pos r)) (not (eqb (rank_named r) r))
        ∷ []

    -- "in 25 mapping_size, then the fit, then the entries"; fewer than 4 bytes for mapping_size are a mapping that does not fit
    unfoldable pub mapping_tests : List Test
    mapping_tests =
        let size = mapping_size n m in
        let end = at + mapping_length n m in
        test_at 25 (end_fault (length image) end) (ltb (length image) (at + 4))
        ∷ test_at 25 (number_fault Kinds.mapping_size at size_field size size) (not (is size size_field))
        ∷ test_at 25 (end_fault (length image) end) (ltb (length image) end)
        ∷ join_below size entry_tests
