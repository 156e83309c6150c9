-- Document 01, "A session": what both records share, the numbers of their head and their lists; when they are sound, what is tested of a record
-- at every call, and how they are made. The lists stand one after the other, ranks, sizes and counts, each with an entry for every one of the
-- most tasks; entries past n are 0 and not judged.
use Rattle.std.specs.Prelude.{Bool, cond, not, ◌&&◌, ◌||◌, List, [], ◌∷◌, ◌++◌, ℕ, ◌+◌, ◌*◌, ltb, leb, eqb, ℤ, pos, length, get_or, take, drop, replicate}
use Rattle.lists.specs.Below.{list_below}
use Rattle.lists.specs.Splice.{splice}
use Rattle.endian.specs.Signed.{within}
use Rattle.format.specs.Limits.{max_tasks, format_rule, blocksize_rule, tasks_rule, ranks_rule, sizes_rule}
use Rattle.format.specs.Layout.{capacity, chunk_start, meta2_start, meta2_end}
use Rattle.format.specs.declared.head.Head.{Head}
use Rattle.format.specs.declared.head.File.{File}
use Rattle.format.specs.declared.head.File.TheVariants.{Single, First, Second}
use Rattle.format.specs.Refusals.{Test, test}
use Rattle.format.specs.Meta2.{values_rule}

-- an entry of a list, and a cell of a table
abbrev pub entry : List ℕ → ℕ → ℕ
entry xs i = get_or xs i 0

abbrev pub cell : List ℤ → ℕ → ℤ
cell table j = get_or table j (pos 0)

-- ---- the lists

-- how many numbers they are
abbrev pub all_lists : ℕ
all_lists = 3 * max_tasks

abbrev pub ranks_of : List ℕ → List ℕ
ranks_of lists = take max_tasks lists

abbrev pub sizes_of : List ℕ → List ℕ
sizes_of lists = take max_tasks (drop max_tasks lists)

abbrev pub counts_of : List ℕ → List ℕ
counts_of lists = take max_tasks (drop (2 * max_tasks) lists)

-- the rank, the size and the count of task i + 1
abbrev pub rank_of : List ℕ → ℕ → ℕ
rank_of lists = entry (ranks_of lists)

abbrev pub size_of : List ℕ → ℕ → ℕ
size_of lists = entry (sizes_of lists)

abbrev pub count_of : List ℕ → ℕ → ℕ
count_of lists = entry (counts_of lists)

-- where that count stands among them
abbrev pub count_at : ℕ → ℕ
count_at i = 2 * max_tasks + i

-- n entries followed by zeros, and the lists of n tasks
unfoldable pub filled : ℕ → (ℕ → ℕ) → List ℕ
filled n f = list_below max_tasks (λ i. cond (ltb i n) (f i) 0)

unfoldable pub lists_of : ℕ → (ℕ → ℕ) → (ℕ → ℕ) → (ℕ → ℕ) → List ℕ
lists_of n rank size count = filled n rank ++ (filled n size ++ filled n count)

-- n counts put among lists that have none
unfoldable pub with_counts : List ℕ → ℕ → (ℕ → ℕ) → List ℕ
with_counts lists n count = splice lists (count_at 0) (list_below n count)

-- those of "a record of zeros"
abbrev pub no_lists : List ℕ
no_lists = replicate all_lists 0

-- ---- what a head says

-- the order is 0 for little and 1 for big, and nothing else
abbrev pub is_order : ℕ → Bool
is_order order = leb order 1

abbrev pub is_big : Head → Bool
is_big h = eqb h.order 1

abbrev pub order_of : Bool → ℕ
order_of big = cond big 1 0

-- nfiles and filenumber of the file that a call means: "nfiles = 1, filenumber = 0"; "nfiles is then 2, filenumber 0 or 1" (W-204)
abbrev pub files_of : File → ℕ
files_of Single = 1
files_of First = 2
files_of Second = 2

abbrev pub file_of : File → ℕ
file_of Single = 0
file_of First = 0
file_of Second = 1

-- "17 also where they do not suit the call"
abbrev pub suits : File → Head → Bool
suits f h = eqb h.files (files_of f) && eqb h.file (file_of f)

-- the file that a record says it is, of those that there are
unfoldable pub file_in : Head → File
file_in h = cond (eqb h.files 1) Single (cond (eqb h.file 0) First Second)

-- with the sizes of its tasks
module _ (h : Head) (size : ℕ → ℕ) where
  -- what a chunk of task i + 1 holds
  unfoldable pub holds : ℕ → ℕ
  holds i = capacity h.blocksize (size i)

  -- where a chunk of a task starts, both counted from 1, and where META2 starts and ends
  unfoldable pub start_of : ℕ → ℕ → ℕ
  start_of task chunk = chunk_start h.blocksize h.n size task chunk

  unfoldable pub meta2_at : ℕ → ℕ
  meta2_at maxchunks = meta2_start h.blocksize h.n size maxchunks

  unfoldable pub end_at : ℕ → ℕ
  end_at maxchunks = meta2_end h.blocksize h.n size maxchunks

-- the rules for the head, the ranks and the sizes of a record
unfoldable pub head_sound : Head → List ℕ → Bool
head_sound h lists =
    is_order h.order
    && format_rule (pos h.format)
    && blocksize_rule (pos h.blocksize)
    && tasks_rule (pos h.n)
    && ranks_rule h.n (λ i. pos (rank_of lists i))
    && sizes_rule h.n (λ i. pos (size_of lists i))

-- "an image or table under the lengths named above": the end of META2 for m chunks, and n times m cells
unfoldable pub too_short : ℕ → ℕ → (ℕ → ℕ) → ℕ → ℕ → ℕ → Bool
too_short b n size m imageLength cells = ltb imageLength (meta2_end b n size m) || ltb cells (n * m)

-- "table cells disagree with the record": judged over all n times m cells, by META2's rule
unfoldable pub cells_agree : Head → List ℕ → ℕ → List ℤ → Bool
cells_agree h lists m table = values_rule h.n m (holds h (size_of lists)) (count_of lists) (cell table)

-- "17, 18, 19": what write, close and the reads test of a record: its mark and whether it is sound, then for m chunks what it is lent and its cells
abbrev pub sound_test : ℕ → Bool → Test
sound_test closed sound = test 17 (not (eqb closed 0) || not sound)

abbrev pub lent_tests : Head → List ℕ → ℕ → List ℕ → List ℤ → List Test
lent_tests h lists m image table =
    test 18 (too_short h.blocksize h.n (size_of lists) m (length image) (length table))
    ∷ test 19 (not (cells_agree h lists m table))
    ∷ []

unfoldable pub record_tests : ℕ → Bool → Head → List ℕ → ℕ → List ℕ → List ℤ → List Test
record_tests closed sound h lists m image table = sound_test closed sound ∷ lent_tests h lists m image table

-- a task number, counted from 1
abbrev pub is_task : ℕ → ℕ → Bool
is_task n task = within 1 n (pos task)

-- ---- the place where a head is made

abbrev pub head_of : ℕ → ℤ → ℤ → ℕ → ℕ → ℕ → ℕ → ℕ → Head
head_of order version patch format blocksize n files file =
    record { order = order; version = version; patch = patch; format = format; blocksize = blocksize; n = n; files = files; file = file }

-- the head of "a record of zeros"
abbrev pub no_head : Head
no_head = head_of 0 (pos 0) (pos 0) 0 0 0 0 0
