-- Document 01, "Refusal numbers", and document 02, W-205: a test with its number and the field that it judges, and the answer to a list of tests in
-- the paper's order.
use Rattle.std.specs.Prelude.{Bool, cond, List, [], ◌∷◌, ℕ, ℤ, pos, Result, Ok, Err}
use Rattle.format.specs.declared.fault.Fault.{Fault}
use Rattle.format.specs.declared.fault.Broken.{Broken}
use Rattle.format.specs.declared.fault.Field.{Field}
use Rattle.format.specs.declared.fault.Field.TheVariants.{Mark, Order, Image, Format, Blocksize, Tasks, Files, FileNumber, Rank, Size, Maxchunks, Start, Table, Count, Value, MappingSize, EntryFile, EntryTask, EntryRank}
use Rattle.format.specs.declared.refusal.Refusal.{Refusal}
use Rattle.format.specs.Kinds
use Rattle.format.specs.declared.refusal.Refusal.TheVariants.{NoMark, NoOrder, ShortMeta1, BadFormat, BadBlocksize, BadTasks, BadFiles, BadRank, BadSize, NotClosed, BadMaxchunks, BadMeta2Place, BadMeta2, NoTask, TooLong, NoChunkLeft, BadRecord, TooShort, CellsDisagree, BadPlanned, LongPrefix, NoChunk, PastTotal, BadMapping}

-- a field by its kind, its task and its chunk, both counted from 1 and 0 where it has none; its place, "the first offending field's offset"; what it
-- says, and from where to where it may be
abbrev pub fault_of : ℕ → ℕ → ℕ → ℕ → ℤ → ℤ → ℤ → Fault
fault_of field task chunk place says least most =
    record { place = place; says = says; least = least; most = most; field = field; task = task; chunk = chunk }

abbrev pub no_fault : Fault
no_fault = fault_of 0 0 0 0 (pos 0) (pos 0) (pos 0)

pub record Test : Type 0 where
  pub number : ℕ
  pub fault : Fault
  pub fails : Bool

-- the number is given where `fails` holds, with the field that is broken; a call that is no load names none
abbrev pub test_at : ℕ → Fault → Bool → Test
test_at number fault fails = record { number = number; fault = fault; fails = fails }

abbrev pub test : ℕ → Bool → Test
test number fails = test_at number no_fault fails

-- "given exactly when, all earlier tests passed": the number of the first test that fails, and 0 where none does
unfoldable pub first_failing : List Test → ℕ
first_failing [] = 0
first_failing (t ∷ ts) = cond t.fails t.number (first_failing ts)

-- the field that this test judges
unfoldable pub first_fault : List Test → Fault
first_fault [] = no_fault
first_fault (t ∷ ts) = cond t.fails t.fault (first_fault ts)

-- both: what the tests of a load give, a refusal with what is broken, or 0 and no fault
pub record Verdict : Type 0 where
  pub refusal : ℕ
  pub fault : Fault

abbrev pub verdict : List Test → Verdict
verdict ts = record { refusal = first_failing ts; fault = first_fault ts }

abbrev pub passed : Verdict
passed = record { refusal = 0; fault = no_fault }

-- ---- the numbers, as code has them by name, and the number that a call answers with: 0 where it does its work

abbrev pub number_of : Refusal → ℕ
number_of NoMark = 1
number_of NoOrder = 2
number_of ShortMeta1 = 3
number_of BadFormat = 4
number_of BadBlocksize = 5
number_of BadTasks = 6
number_of BadFiles = 7
number_of BadRank = 8
number_of BadSize = 9
number_of NotClosed = 10
number_of BadMaxchunks = 11
number_of BadMeta2Place = 12
number_of BadMeta2 = 13
number_of NoTask = 14
number_of TooLong = 15
number_of NoChunkLeft = 16
number_of BadRecord = 17
number_of TooShort = 18
number_of CellsDisagree = 19
number_of BadPlanned = 20
number_of LongPrefix = 21
number_of NoChunk = 22
number_of PastTotal = 23
number_of BadMapping = 25

abbrev pub answered : {A : Type 0} → Result A Refusal → ℕ
answered (Ok _) = 0
answered (Err refusal) = number_of refusal

-- a field's kind, as a number
abbrev pub kind_of : Field → ℕ
kind_of Mark = Kinds.mark
kind_of Order = Kinds.order
kind_of Image = Kinds.image
kind_of Format = Kinds.format
kind_of Blocksize = Kinds.blocksize
kind_of Tasks = Kinds.tasks
kind_of Files = Kinds.files
kind_of FileNumber = Kinds.file_number
kind_of Rank = Kinds.rank
kind_of Size = Kinds.size
kind_of Maxchunks = Kinds.maxchunks
kind_of Start = Kinds.start
kind_of Table = Kinds.table
kind_of Count = Kinds.count
kind_of Value = Kinds.value
kind_of MappingSize = Kinds.mapping_size
kind_of EntryFile = Kinds.entry_file
kind_of EntryTask = Kinds.entry_task
kind_of EntryRank = Kinds.entry_rank

-- the outcome of a load's tests, as code has it: where they pass, and where one fails
abbrev pub judged : {A : Type 0} → Result A Broken → Verdict
judged (Ok _) = passed
judged (Err broken) = record { refusal = number_of broken.refusal; fault = broken.fault }
