-- W-205, "Say where it broke": the fields that a load judges, in their order; where each stands and the rule that the number standing there has to
-- keep, both in the papers' own numbers. A refused load names the first field of the list that breaks its rule. Tasks and chunks are counted from
-- 0: i for task i + 1, k for chunk k + 1.
use Rattle.std.specs.Prelude.{◌≡◌, true, false, List, [], ◌∷◌, ◌++◌, ◌⊎◌, ℕ, suc, ◌+◌, ◌*◌, ◌^◌, ◌≤◌, ◌<◌, ℤ, pos, negsuc, length, take}
use Rattle.lists.specs.Below.{greatest_below, join_below, list_below}
use Rattle.lists.specs.Logic.{Not}
use Rattle.endian.specs.Signed.{signed_at, natural}
use Rattle.format.specs.Limits.{max_tasks}
use Rattle.format.specs.Layout
use Rattle.format.specs.declared.head.File.{File}
use Rattle.format.specs.declared.fault.Fault.{Fault}
use Rattle.format.specs.Record.{files_of, file_of}
use Rattle.format.specs.Judge.{big_in}
use Rattle.format.specs.Refusals.{no_fault}
use Rattle.format.specs.Load.{load_answer}

-- a fit is that of a part in the image, whose end may come too early; `greatest` is maxchunks once more, beside the counts
pub data Field : Type 0 where
  mark order fixedFit format blocksize tasks files file_number meta1Fit : Field
  rank size : ℕ → Field
  closed maxchunks start meta2Fit table : Field
  count : ℕ → Field
  greatest : Field
  value : ℕ → ℕ → Field

-- the refusal number of each; its kind; of which task and of which chunk it is, counted from 1, and 0 where it is of none
abbrev pub named : Field → List ℕ
named mark = 1 ∷ 1 ∷ 0 ∷ 0 ∷ []
named order = 2 ∷ 2 ∷ 0 ∷ 0 ∷ []
named fixedFit = 3 ∷ 3 ∷ 0 ∷ 0 ∷ []
named format = 4 ∷ 4 ∷ 0 ∷ 0 ∷ []
named blocksize = 5 ∷ 5 ∷ 0 ∷ 0 ∷ []
named tasks = 6 ∷ 6 ∷ 0 ∷ 0 ∷ []
named files = 7 ∷ 7 ∷ 0 ∷ 0 ∷ []
named file_number = 7 ∷ 8 ∷ 0 ∷ 0 ∷ []
named meta1Fit = 3 ∷ 3 ∷ 0 ∷ 0 ∷ []
named (rank i) = 8 ∷ 9 ∷ suc i ∷ 0 ∷ []
named (size i) = 9 ∷ 10 ∷ suc i ∷ 0 ∷ []
named closed = 10 ∷ 12 ∷ 0 ∷ 0 ∷ []
named maxchunks = 11 ∷ 11 ∷ 0 ∷ 0 ∷ []
named start = 12 ∷ 12 ∷ 0 ∷ 0 ∷ []
named meta2Fit = 12 ∷ 3 ∷ 0 ∷ 0 ∷ []
named table = 18 ∷ 13 ∷ 0 ∷ 0 ∷ []
named (count i) = 13 ∷ 14 ∷ suc i ∷ 0 ∷ []
named greatest = 13 ∷ 11 ∷ 0 ∷ 0 ∷ []
named (value k i) = 13 ∷ 15 ∷ suc i ∷ suc k ∷ []

-- an integer from lo to hi
abbrev pub FromTo : ℕ → ℕ → ℤ → Type 0
FromTo lo hi z = (v : ℕ) × (z ≡ pos v) × (lo ≤ v) × (v ≤ hi)

module _ (image : List ℕ) where
  -- a number of 4 and of 8 bytes, in the image's byte order
  abbrev pub int : ℕ → ℤ
  int at = signed_at (big_in image) 4 image at

  abbrev pub long : ℕ → ℤ
  long at = signed_at (big_in image) 8 image at

  -- the tasks, the requested size of each, maxchunks, and where META2 starts and ends
  abbrev pub n : ℕ
  n = natural (int 24)

  abbrev pub size_in : ℕ → ℕ
  size_in i = natural (long (1076 + 8 * n + 8 * i))

  abbrev pub most : ℕ
  most = natural (int (1076 + 16 * n))

  abbrev pub meta2 : ℕ
  meta2 = Layout.meta2_start (natural (int 20)) n size_in most

  abbrev pub end : ℕ
  end = Layout.meta2_end (natural (int 20)) n size_in most

  -- where a field stands; "for 3 and a META2 .. that does not fit, the image length", "for 18, 0"
  abbrev pub place_of : Field → ℕ
  place_of mark = 0
  place_of order = 4
  place_of fixedFit = length image
  place_of format = 16
  place_of blocksize = 20
  place_of tasks = 24
  place_of files = 28
  place_of file_number = 32
  place_of meta1Fit = length image
  place_of (rank i) = 1076 + 8 * i
  place_of (size i) = 1076 + 8 * n + 8 * i
  place_of closed = 1076 + 16 * n + 4
  place_of maxchunks = 1076 + 16 * n
  place_of start = 1076 + 16 * n + 4
  place_of meta2Fit = length image
  place_of table = 0
  place_of (count i) = meta2 + 8 * i
  place_of greatest = 1076 + 16 * n
  place_of (value k i) = meta2 + 8 * n + 8 * (k * n + i)

  -- what a field says, for a table of so many cells: the number that stands there, or a length; the mark and the order are told as 0
  abbrev pub says_of : ℕ → Field → ℤ
  says_of cells mark = pos 0
  says_of cells order = pos 0
  says_of cells fixedFit = pos (length image)
  says_of cells format = int 16
  says_of cells blocksize = int 20
  says_of cells tasks = int 24
  says_of cells files = int 28
  says_of cells file_number = int 32
  says_of cells meta1Fit = pos (length image)
  says_of cells (rank i) = long (1076 + 8 * i)
  says_of cells (size i) = long (1076 + 8 * n + 8 * i)
  says_of cells closed = long (1076 + 16 * n + 4)
  says_of cells maxchunks = int (1076 + 16 * n)
  says_of cells start = long (1076 + 16 * n + 4)
  says_of cells meta2Fit = pos (length image)
  says_of cells table = pos cells
  says_of cells (count i) = long (meta2 + 8 * i)
  says_of cells greatest = pos most
  says_of cells (value k i) = long (meta2 + 8 * n + 8 * (k * n + i))

  -- the order in which they are judged
  abbrev pub judged : List Field
  judged =
      ((mark ∷ order ∷ fixedFit ∷ format ∷ blocksize ∷ tasks ∷ files ∷ file_number ∷ meta1Fit ∷ [])
      ++ (list_below n rank ++ (list_below n size ++ (closed ∷ maxchunks ∷ start ∷ meta2Fit ∷ []))))
      ++ (table ∷ ((list_below n count ++ (greatest ∷ [])) ++ join_below most (λ k. list_below n (value k))))

  -- the rule of each: what the number at its place has to be, for a table of so many cells and as the file that the call means
  abbrev pub Keeps : File → ℕ → Field → Type 0
  Keeps file cells mark = take 4 image ≡ 115 ∷ 105 ∷ 111 ∷ 110 ∷ []
  Keeps file cells order = (8 ≤ length image) × ((signed_at false 4 image 4 ≡ pos 1) ⊎ (signed_at true 4 image 4 ≡ pos 1))
  Keeps file cells fixedFit = 1076 ≤ length image
  Keeps file cells format = (int 16 ≡ pos 3) ⊎ (int 16 ≡ pos 4)
  Keeps file cells blocksize = (j : ℕ) × (int 20 ≡ pos (2 ^ j)) × (512 ≤ 2 ^ j) × (2 ^ j ≤ 4_194_304)
  Keeps file cells tasks = FromTo 1 max_tasks (int 24)
  Keeps file cells files = int 28 ≡ pos (files_of file)
  Keeps file cells file_number = int 32 ≡ pos (file_of file)
  Keeps file cells meta1Fit = 1088 + 16 * n ≤ length image
  Keeps file cells (rank i) =
      FromTo 0 2_147_483_647 (long (1076 + 8 * i)) × ((j : ℕ) → j < i → Not (long (1076 + 8 * j) ≡ long (1076 + 8 * i)))
  Keeps file cells (size i) = FromTo 1 1_073_741_824 (long (1076 + 8 * n + 8 * i))
  Keeps file cells closed = Not (long (1076 + 16 * n + 4) ≡ pos 0)
  Keeps file cells maxchunks = FromTo 0 32 (int (1076 + 16 * n))
  Keeps file cells start = long (1076 + 16 * n + 4) ≡ pos meta2
  Keeps file cells meta2Fit = end ≤ length image
  Keeps file cells table = n * most ≤ cells
  Keeps file cells (count i) = FromTo 0 most (long (meta2 + 8 * i)) × (int 16 ≡ pos 4 → Not (long (meta2 + 8 * i) ≡ pos 0))
  Keeps file cells greatest = greatest_below n (λ i. natural (long (meta2 + 8 * i))) ≡ most
  Keeps file cells (value k i) =
      let used = natural (long (meta2 + 8 * i)) in
      let says = long (meta2 + 8 * n + 8 * (k * n + i)) in
      (k < used → FromTo 0 (Layout.capacity (natural (int 20)) (size_in i)) says) × (used ≤ k → says ≡ negsuc 0)

-- something holds of each field of a list
abbrev pub Every : (Field → Type 0) → List Field → Type 0
Every P [] = Unit {0}
Every P (f ∷ fs) = P f × Every P fs

-- a refusal with what it names: one of the fields, which breaks its rule, and every field that is judged earlier keeps its own
pub record Broken (f : File) (image : List ℕ) (cells refusal : ℕ) (fault : Fault) : Type 0 where
  pub field : Field
  pub earlier : List Field
  pub later : List Field
  pub in_order : judged image ≡ earlier ++ (field ∷ later)
  pub names : refusal ∷ fault.field ∷ fault.task ∷ fault.chunk ∷ [] ≡ named field
  pub stands_at : fault.place ≡ place_of image field
  pub says_so : fault.says ≡ says_of image cells field
  pub breaks : Not (Keeps image f cells field)
  pub kept : Every (Keeps image f cells) earlier

-- "Each load refusal .. shall also give the first offending field's offset": accepted, all fields keep their rules, and nothing is named
pub record SaysWhere (f : File) (image : List ℕ) (table : List ℤ) : Type 0 where
  pub refused : 0 < (load_answer f image table).refusal → Broken f image (length table) (load_answer f image table).refusal (load_answer f image table).fault
  pub accepted : (load_answer f image table).refusal ≡ 0
      → ((load_answer f image table).fault ≡ no_fault) × Every (Keeps image f (length table)) (judged image)
