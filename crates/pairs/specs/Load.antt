-- Loading a pair (W-204): its tests, and what an accepted and a refused load hand back. `image` and `table` are file 0's, `image'` and `table'` file
-- 1's.
use Rattle.std.specs.Prelude.{cond, not, ◌&&◌, List, ◌++◌, ℕ, eqb, ℤ, length}
use Rattle.format.specs.declared.fault.Fault.{Fault}
use Rattle.format.specs.declared.head.File.TheVariants.{First, Second}
use Rattle.format.specs.Refusals.{Test, no_fault, first_failing, first_fault}
use Rattle.format.specs.Record.{no_lists, end_at}
use Rattle.format.specs.Judge.{big_in, tasks_in, rank_in, head_in, size_in, maxchunks_in}
use Rattle.format.specs.Loaded.{no_loaded}
use Rattle.format.specs.Load.{load_tests, load_refusal, loaded_in, lists_in, load_table}
use Rattle.pairs.specs.declared.PairLoaded.{PairLoaded}
use Rattle.pairs.specs.Mapping.{mapping_tests}

-- where META2 of an image ends, and the mapping starts
abbrev pub end_in : List ℕ → ℕ
end_in image = end_at (head_in image) (size_in image) (maxchunks_in image)

module _ (image image' : List ℕ) where
  -- 25, of file 0
  unfoldable pub mapping_in : List Test
  mapping_in = mapping_tests (tasks_in image) (tasks_in image') (rank_in image) (rank_in image') (big_in image) image (end_in image)

  -- "A pair is loaded only if file 0 passes, then file 1, then 25", with tables of so many cells
  module _ (cells cells' : ℕ) where
    unfoldable pub pair_load_tests : List Test
    pair_load_tests = load_tests First image cells ++ (load_tests Second image' cells' ++ mapping_in)

    unfoldable pub pair_load_refusal : ℕ
    pair_load_refusal = first_failing pair_load_tests

    -- "for a pair, and its file": file 1 where file 0 passes and file 1 does not; "25's place is always in file 0"
    unfoldable pub broken_file : ℕ
    broken_file = cond (eqb (load_refusal First image cells) 0 && not (eqb (load_refusal Second image' cells') 0)) 1 0

    unfoldable pub pair_fault : Fault
    pair_fault = first_fault pair_load_tests

    unfoldable pub pair_checked : PairLoaded
    pair_checked =
        cond (eqb pair_load_refusal 0)
        (record {
          loaded0 = loaded_in image;
          lists0 = lists_in image;
          loaded1 = loaded_in image';
          lists1 = lists_in image';
          refusal = 0;
          file = 0;
          fault = no_fault;
        })
        (record {
          loaded0 = no_loaded;
          lists0 = no_lists;
          loaded1 = no_loaded;
          lists1 = no_lists;
          refusal = pair_load_refusal;
          file = broken_file;
          fault = pair_fault;
        })

  module _ (table table' : List ℤ) where
    unfoldable pub pair_loaded : PairLoaded
    pair_loaded = pair_checked (length table) (length table')

    -- "A refused load leaves the table as it was", both of them
    unfoldable pub pair_load_tables : List ℤ × List ℤ
    pair_load_tables =
        cond (eqb (pair_load_refusal (length table) (length table')) 0) (load_table First image table, load_table Second image' table') (table, table')
