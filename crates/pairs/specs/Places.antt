-- Document 02, W-204 and W-205: for pairs with one fault or several, worked out by hand, the refusal, the file and the field that a load names,
-- each beside what the rules compute. That the two are the same is proved in proofs/Places.antt.
use Rattle.std.specs.Prelude.{Bool, true, false, cond, List, [], ◌∷◌, ◌++◌, ℕ, ℤ, pos, negsuc, take, drop, replicate}
use Rattle.format.specs.Refusals.{first_failing, first_fault}
use Rattle.format.specs.Record.{entry}
use Rattle.format.specs.Numbers.{Row, record_of, zeros_marked}
use Rattle.format.specs.Places.{Wrong, wrong, spoilt, shown, broken, nothing}
use Rattle.pairs.specs.Mapping.{mapping_tests}
use Rattle.pairs.specs.Load.{pair_load_refusal, broken_file, pair_fault, pair_loaded, pair_load_tables}
use Rattle.pairs.specs.Numbers.{mapping_little, mapping_big, file0, file1, nines, nines_in}

-- ---- a row: the file, the refusal, the place, the kind of the field, its task and its chunk, what it says, and from where to where it may be

-- of a load of two images with tables of so many cells
abbrev pub found_in : List ℕ → List ℕ → ℕ → ℕ → List ℤ
found_in image image' cells cells' =
    pos (broken_file image image' cells cells') ∷ shown (pair_load_refusal image image' cells cells') (pair_fault image image' cells cells')

abbrev pub row_of : List ℕ → List ℕ → ℕ → ℕ → ℕ → List ℤ → Row
row_of image image' cells cells' file expected = record { computed = found_in image image' cells cells'; stated = pos file ∷ expected }

-- the mapping alone, behind 4,656 bytes that its tests do not look at, with other numbers in it and cut to so many bytes, in a byte order; file 0 has
-- ranks 2 and 0, and file 1 has rank 1
abbrev pub mapping_found : List Wrong → ℕ → Bool → List ℤ
mapping_found wrongs bytes big =
    let image = take bytes (spoilt wrongs (λ order. replicate 4656 0 ++ cond order mapping_big mapping_little) big) in
    let tests = mapping_tests 2 1 (entry (2 ∷ 0 ∷ [])) (entry (1 ∷ [])) big image 4656 in
    shown (first_failing tests) (first_fault tests)

abbrev pub alone : Bool → List Wrong → ℕ → List ℤ → Row
alone big wrongs bytes expected = record { computed = mapping_found wrongs bytes big; stated = expected }

-- ---- what can be broken in both files, in the order of the tests: in file 0 what is written in chunk 1; in file 1 the mark, nfiles, filenumber,
-- and what is written in chunk 1; then mapping_size, which is of file 0 again

abbrev pub wrongs1 : List Wrong
wrongs1 = wrong 0 4 (pos 0) ∷ wrong 28 4 (pos 1) ∷ wrong 32 4 (pos 0) ∷ wrong 2568 8 (pos 513) ∷ []

abbrev pub bad_size : Wrong
bad_size = wrong 4656 4 (pos 4)

-- file 0 with these faults, and file 1 with so many mended
abbrev pub mended : List Wrong → ℕ → ℕ → ℕ → List ℤ → Row
mended wrongs count cells' file expected = row_of (spoilt wrongs file0 true) (spoilt (drop count wrongs1) file1 false) 4 cells' file expected

-- ---- a refused load: the file and the fault, both records, both tables, which were of nines

abbrev pub refused_load : List ℕ → List ℕ → ℕ → ℕ → List ℤ
refused_load image image' cells cells' =
    let a = pair_loaded image image' (nines_in cells) (nines_in cells') in
    let tables = pair_load_tables image image' (nines_in cells) (nines_in cells') in
    pos a.file
    ∷ shown a.refusal a.fault
    ++ record_of a.loaded0.head a.loaded0.maxchunks a.loaded0.closed a.lists0
    ++ record_of a.loaded1.head a.loaded1.maxchunks a.loaded1.closed a.lists1
    ++ tables.0
    ++ tables.1

-- the mapping
unfoldable pub mapping_table : List Row
mapping_table =
    -- nothing is broken
    alone false [] 4684 nothing
    -- mapping_size is one more than the tasks, one less, and below 0
    ∷ alone true (bad_size ∷ []) 4684 (broken 25 4656 16 0 0 (pos 4) (pos 3) (pos 3))
    ∷ alone false (wrong 4656 4 (pos 2) ∷ []) 4684 (broken 25 4656 16 0 0 (pos 2) (pos 3) (pos 3))
    ∷ alone true (wrong 4656 4 (negsuc 0) ∷ []) 4684 (broken 25 4656 16 0 0 (negsuc 0) (pos 3) (pos 3))
    -- "for .. mapping that does not fit, the image length": no byte of it, 3 of mapping_size, all but its last
    ∷ alone false [] 4656 (broken 25 4656 3 0 0 (pos 4656) (pos 4684) (pos 4684))
    ∷ alone true [] 4659 (broken 25 4659 3 0 0 (pos 4659) (pos 4684) (pos 4684))
    ∷ alone false [] 4683 (broken 25 4683 3 0 0 (pos 4683) (pos 4684) (pos 4684))
    -- "in 25 mapping_size, then the fit, then the entries"
    ∷ alone true (bad_size ∷ []) 4660 (broken 25 4656 16 0 0 (pos 4) (pos 3) (pos 3))
    ∷ alone false (wrong 4660 4 (pos 2) ∷ []) 4683 (broken 25 4683 3 0 0 (pos 4683) (pos 4684) (pos 4684))
    -- the entry of rank 0: a file number over 1, and below 0
    ∷ alone true (wrong 4660 4 (pos 2) ∷ []) 4684 (broken 25 4660 17 1 0 (pos 2) (pos 0) (pos 1))
    ∷ alone false (wrong 4660 4 (negsuc 0) ∷ []) 4684 (broken 25 4660 17 1 0 (negsuc 0) (pos 0) (pos 1))
    -- a local rank over the tasks of file 0, and below 0
    ∷ alone true (wrong 4664 4 (pos 2) ∷ []) 4684 (broken 25 4660 18 1 0 (pos 2) (pos 0) (pos 1))
    ∷ alone false (wrong 4664 4 (negsuc 0) ∷ []) 4684 (broken 25 4660 18 1 0 (negsuc 0) (pos 0) (pos 1))
    -- a task that carries another rank: file 0's task 0 has rank 2, and file 1's has rank 1
    ∷ alone true (wrong 4664 4 (pos 0) ∷ []) 4684 (broken 25 4660 19 1 0 (pos 2) (pos 0) (pos 0))
    ∷ alone false (wrong 4660 4 (pos 1) ∷ wrong 4664 4 (pos 0) ∷ []) 4684 (broken 25 4660 19 1 0 (pos 1) (pos 0) (pos 0))
    -- the entry of rank 1: file 1 has one task; the entry of rank 2: file 0's task 1 has rank 0
    ∷ alone true (wrong 4672 4 (pos 1) ∷ []) 4684 (broken 25 4668 18 2 0 (pos 1) (pos 0) (pos 0))
    ∷ alone false (wrong 4680 4 (pos 1) ∷ []) 4684 (broken 25 4676 19 3 0 (pos 0) (pos 2) (pos 2))
    -- both numbers of an entry, and two entries
    ∷ alone true (wrong 4660 4 (pos 2) ∷ wrong 4664 4 (pos 2) ∷ []) 4684 (broken 25 4660 17 1 0 (pos 2) (pos 0) (pos 1))
    ∷ alone false (wrong 4668 4 (pos 2) ∷ wrong 4664 4 (pos 0) ∷ []) 4684 (broken 25 4660 19 1 0 (pos 2) (pos 0) (pos 0))
    ∷ []

-- both files
unfoldable pub both_table : List Row
both_table =
    -- a cell too few for file 0, and for file 1
    row_of (file0 false) (file1 true) 3 2 0 (broken 18 0 13 0 0 (pos 3) (pos 4) (pos 4))
    ∷ row_of (file0 true) (file1 false) 4 1 1 (broken 18 0 13 0 0 (pos 1) (pos 2) (pos 2))
    -- "only if file 0 passes, then file 1, then 25": all is broken, and mended one after the other
    ∷ mended (wrong 4624 8 (pos 513) ∷ bad_size ∷ []) 0 1 0 (broken 13 4624 15 1 1 (pos 513) (pos 0) (pos 512))
    ∷ mended (bad_size ∷ []) 0 1 1 (broken 1 0 1 0 0 (pos 0) (pos 0) (pos 0))
    ∷ mended (bad_size ∷ []) 1 1 1 (broken 7 28 7 0 0 (pos 1) (pos 2) (pos 2))
    ∷ mended (bad_size ∷ []) 2 1 1 (broken 7 32 8 0 0 (pos 0) (pos 1) (pos 1))
    ∷ mended (bad_size ∷ []) 3 1 1 (broken 18 0 13 0 0 (pos 1) (pos 2) (pos 2))
    ∷ mended (bad_size ∷ []) 3 2 1 (broken 13 2568 15 1 1 (pos 513) (pos 0) (pos 512))
    ∷ mended (bad_size ∷ []) 4 2 0 (broken 25 4656 16 0 0 (pos 4) (pos 3) (pos 3))
    ∷ mended [] 4 2 0 nothing
    -- 25 of a whole pair, in both byte orders: a mapping cut short, and an entry that names a task of another rank
    ∷ row_of (take 4659 (file0 false)) (file1 true) 4 2 0 (broken 25 4659 3 0 0 (pos 4659) (pos 4684) (pos 4684))
    ∷ row_of (spoilt (wrong 4664 4 (pos 0) ∷ []) file0 true) (file1 false) 4 2 0 (broken 25 4660 19 1 0 (pos 2) (pos 0) (pos 0))
    -- "filenumber is not the image's own": each file in the other's place, file 0 in both, and a single file
    ∷ row_of (file1 false) (file0 false) 4 4 0 (broken 7 32 8 0 0 (pos 1) (pos 0) (pos 0))
    ∷ row_of (file0 true) (file0 true) 4 4 1 (broken 7 32 8 0 0 (pos 0) (pos 1) (pos 1))
    ∷ row_of (spoilt (wrong 28 4 (pos 1) ∷ []) file0 false) (file1 true) 4 2 0 (broken 7 28 7 0 0 (pos 1) (pos 2) (pos 2))
    -- bytes after the mapping, and after META2 of file 1, are not looked at
    ∷ row_of (file0 false ++ nines 1) (file1 true ++ nines 1) 4 2 0 nothing
    -- a refused load hands back zeros marked closed and leaves both tables, file 0's too where file 1 or the mapping is broken
    ∷ record {
      computed = refused_load (file0 false) (file1 true) 5 1;
      stated = (pos 1 ∷ broken 18 0 13 0 0 (pos 1) (pos 2) (pos 2)) ++ zeros_marked ++ zeros_marked ++ nines_in 6;
    }
    ∷ record {
      computed = refused_load (spoilt (bad_size ∷ []) file0 false) (file1 true) 5 3;
      stated = (pos 0 ∷ broken 25 4656 16 0 0 (pos 4) (pos 3) (pos 3)) ++ zeros_marked ++ zeros_marked ++ nines_in 8;
    }
    ∷ []
