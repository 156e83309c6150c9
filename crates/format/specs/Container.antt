-- What a container is: document 01's rules for the bytes of META1 and META2 as named facts, whatever loads them. Tasks and chunks are counted
-- from 0: i for task i + 1, k for chunk k + 1.
use Rattle.std.specs.Prelude.{◌≡◌, Bool, List, ◌⊎◌, ℕ, ◌^◌, ◌≤◌, ◌<◌, ◌+◌, ◌*◌, ℤ, pos, length, take}
use Rattle.format.specs.Limits.{max_tasks, min_blocksize, max_blocksize, max_size, max_blocks, max_rank}
use Rattle.format.specs.Layout.{meta1_end, capacity, requested, meta2_start, meta2_end}
use Rattle.format.specs.Meta1
use Rattle.format.specs.Meta2
use Rattle.format.specs.declared.head.Head.{Head}
use Rattle.format.specs.declared.head.File.{File}
use Rattle.format.specs.declared.head.File.TheVariants.{Single}
use Rattle.format.specs.declared.loaded.Loaded.{Loaded}
use Rattle.format.specs.Record.{entry, order_of, files_of, file_of, cell}
use Rattle.format.specs.Meta2.{value_index, unused}

-- what a container says: its byte order, and the numbers that its fields hold
pub record Contents : Type 0 where
  pub big : Bool
  pub version : ℤ
  pub patch : ℤ
  pub format : ℕ
  pub blocksize : ℕ
  pub n : ℕ
  pub rank : ℕ → ℕ
  pub size : ℕ → ℕ
  pub maxchunks : ℕ
  pub count : ℕ → ℕ
  -- the chunk first, as META2 is grouped, then the task
  pub written : ℕ → ℕ → ℕ

-- "Numbers that bound the work": of a blocksize, and of n tasks with their ranks and sizes
pub record InBounds (blocksize n : ℕ) (rank size : ℕ → ℕ) : Type 0 where
  pub blocksize_power : (j : ℕ) × (blocksize ≡ 2 ^ j)
  pub blocksize_range : (min_blocksize ≤ blocksize) × (blocksize ≤ max_blocksize)
  pub tasks_range : (1 ≤ n) × (n ≤ max_tasks)
  pub ranks_range : (i : ℕ) → i < n → rank i ≤ max_rank
  pub ranks_differ : (i j : ℕ) → i < n → j < n → rank i ≡ rank j → i ≡ j
  pub sizes_range : (i : ℕ) → i < n → (1 ≤ size i) × (size i ≤ max_size)

-- fileformat_version: "Loading and opening take 3 or 4" (W-209)
abbrev pub IsFormat : ℕ → Type 0
IsFormat format = (format ≡ 3) ⊎ (format ≡ 4)

-- META1 of an image holds these contents, as the file that is meant, and they keep its rules
pub record HasMeta1 (f : File) (image : List ℕ) (c : Contents) : Type 0 where
  pub bounds : InBounds c.blocksize c.n c.rank c.size
  pub long : meta1_end c.n ≤ length image
  pub magic_is : take (length Meta1.magic) image ≡ Meta1.magic
  pub order_is : Meta1.order_field c.big image ≡ pos Meta1.order_number
  pub version_is : Meta1.version_field c.big image ≡ c.version
  pub patch_is : Meta1.patch_field c.big image ≡ c.patch
  pub format_is : Meta1.format_field c.big image ≡ pos c.format
  pub format_known : IsFormat c.format
  pub blocksize_is : Meta1.blocksize_field c.big image ≡ pos c.blocksize
  pub tasks_are : Meta1.tasks_field c.big image ≡ pos c.n
  pub files_are : Meta1.files_field c.big image ≡ pos (files_of f)
  pub file_number_is : Meta1.file_number_field c.big image ≡ pos (file_of f)
  pub ranks_are : (i : ℕ) → i < c.n → Meta1.rank_field c.big image i ≡ pos (c.rank i)
  pub sizes_are : (i : ℕ) → i < c.n → Meta1.size_field c.big image c.n i ≡ pos (c.size i)
  pub maxchunks_is : Meta1.maxchunks_field c.big image c.n ≡ pos c.maxchunks
  pub maxchunks_range : c.maxchunks ≤ max_blocks
  pub start_is : Meta1.start_field c.big image c.n ≡ pos (meta2_start c.blocksize c.n c.size c.maxchunks)

-- META2's own part of the image, and the value of chunk k + 1 of task i + 1 in it
abbrev pub meta2_said : List ℕ → Contents → List ℕ
meta2_said image c = Meta2.meta2_part image (meta2_start c.blocksize c.n c.size c.maxchunks) c.n c.maxchunks

abbrev pub value_of : List ℕ → Contents → ℕ → ℕ → ℤ
value_of image c k i = Meta2.value_field c.big (meta2_said image c) c.n (Meta2.value_index c.n k i)

-- META2 stands where META1 says, whole, and keeps its rule, where a chunk holds so much by blocksize and requested size
pub record Meta2With (holds : ℕ → ℕ → ℕ) (image : List ℕ) (c : Contents) : Type 0 where
  pub fits : meta2_end c.blocksize c.n c.size c.maxchunks ≤ length image
  pub counts_are : (i : ℕ) → i < c.n → Meta2.count_field c.big (meta2_said image c) i ≡ pos (c.count i)
  pub counts_range : (i : ℕ) → i < c.n → c.count i ≤ c.maxchunks
  pub counts_idle : c.format ≡ 4 → (i : ℕ) → i < c.n → 1 ≤ c.count i
  pub greatest : (i : ℕ) × (i < c.n) × (c.count i ≡ c.maxchunks)
  pub used_first : (i k : ℕ) → i < c.n → k < c.count i → value_of image c k i ≡ pos (c.written k i)
  pub used_fit : (i k : ℕ) → i < c.n → k < c.count i → c.written k i ≤ holds c.blocksize (c.size i)
  pub others_unused : (i k : ℕ) → i < c.n → c.count i ≤ k → k < c.maxchunks → value_of image c k i ≡ Meta2.unused

abbrev pub HasMeta2 : List ℕ → Contents → Type 0
HasMeta2 = Meta2With capacity

pub record ContainerWith (holds : ℕ → ℕ → ℕ) (f : File) (image : List ℕ) : Type 0 where
  pub says : Contents
  pub first : HasMeta1 f image says
  pub second : Meta2With holds image says

-- a container, which is a single file, or a file of a pair: what the loader has to accept, given a table that is long enough, and nothing else
abbrev pub IsContainer : File → List ℕ → Type 0
IsContainer = ContainerWith capacity

-- what was one before W-202, when fileformat_version was 3 only
pub record WasContainer (image : List ℕ) : Type 0 where
  pub was : ContainerWith requested Single image
  pub version_3 : was.says.format ≡ 3

-- ---- what a load hands back of it

-- the lists of a record: ranks, sizes and counts one after the other, each with an entry for every one of the most tasks, of which the first n
-- are those of the tasks and the others 0
pub record Lists (n : ℕ) (rank size count : ℕ → ℕ) (lists : List ℕ) : Type 0 where
  pub ranks : (i : ℕ) → i < n → entry lists i ≡ rank i
  pub sizes : (i : ℕ) → i < n → entry lists (max_tasks + i) ≡ size i
  pub counts : (i : ℕ) → i < n → entry lists (2 * max_tasks + i) ≡ count i
  pub zeros : (i : ℕ) → n ≤ i → i < max_tasks
      → (entry lists i ≡ 0) × (entry lists (max_tasks + i) ≡ 0) × (entry lists (2 * max_tasks + i) ≡ 0)
  pub as_many : length lists ≡ 3 * max_tasks

-- the numbers of a record's head, one by one
pub record HeadSays (h : Head) (order : ℕ) (version patch : ℤ) (format blocksize n files file : ℕ) : Type 0 where
  pub order_is : h.order ≡ order
  pub version_is : h.version ≡ version
  pub patch_is : h.patch ≡ patch
  pub format_is : h.format ≡ format
  pub blocksize_is : h.blocksize ≡ blocksize
  pub tasks_are : h.n ≡ n
  pub files_are : h.files ≡ files
  pub file_is : h.file ≡ file

-- a loaded record says what the container says, and is not marked closed
pub record Recorded (f : File) (c : Contents) (l : Loaded) (lists : List ℕ) : Type 0 where
  pub head : HeadSays l.head (order_of c.big) c.version c.patch c.format c.blocksize c.n (files_of f) (file_of f)
  pub maxchunks : l.maxchunks ≡ c.maxchunks
  pub not_closed : l.closed ≡ 0
  pub listed : Lists c.n c.rank c.size c.count lists

-- so do the cells of the table; those after them are as they came
pub record Says (f : File) (c : Contents) (l : Loaded) (lists : List ℕ) (before after : List ℤ) : Type 0 where
  pub recorded : Recorded f c l lists
  pub used_cells : (i k : ℕ) → i < c.n → k < c.count i → cell after (value_index c.n k i) ≡ pos (c.written k i)
  pub unused_cells : (i k : ℕ) → i < c.n → c.count i ≤ k → k < c.maxchunks → cell after (value_index c.n k i) ≡ unused
  pub other_cells : (j : ℕ) → c.n * c.maxchunks ≤ j → cell after j ≡ cell before j
  pub as_long : length after ≡ length before
