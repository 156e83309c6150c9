-- What an accepted opening is given, and what a record is like that is served: document 01's rules as named facts, whatever tests them. Tasks and
-- chunks are counted from 0: i for task i + 1, k for chunk k + 1.
use Rattle.std.specs.Prelude.{◌≡◌, List, ◌⊎◌, ℕ, ◌+◌, ◌*◌, ◌≤◌, ◌<◌, ℤ, pos, length}
use Rattle.format.specs.Limits.{max_blocks}
use Rattle.format.specs.Layout.{data_start, globalskip, capacity}
use Rattle.format.specs.declared.head.Head.{Head}
use Rattle.format.specs.declared.head.File.{File}
use Rattle.format.specs.Meta1.{prefix_length}
use Rattle.format.specs.Meta2.{value_index, unused}
use Rattle.format.specs.Record.{entry, cell, files_of, file_of, rank_of, size_of, count_of}
use Rattle.format.specs.declared.session.Session.{Session}
use Rattle.format.specs.Open.{Opening}
use Rattle.format.specs.declared.loaded.Loaded.{Loaded}
use Rattle.format.specs.Container.{InBounds, IsFormat}
use Rattle.lists.specs.Logic.{Exactly, Not}
use Rattle.format.specs.Session.{State}
use Rattle.format.specs.Reads.{Container}

-- a byte order: little or big
abbrev pub IsOrder : ℕ → Type 0
IsOrder order = (order ≡ 0) ⊎ (order ≡ 1)

-- "The image needs D + K·G + 8n(1+K) bytes", and "at least n times K" cells; of a loaded record META2's end and n·maxchunks: for m chunks of each
-- of n tasks
abbrev pub bytes_for : ℕ → ℕ → (ℕ → ℕ) → ℕ → ℕ
bytes_for b n size m = data_start b n + m * globalskip b n size + 8 * n * (1 + m)

pub record LongEnough (b n : ℕ) (size : ℕ → ℕ) (m : ℕ) (image : List ℕ) (table : List ℤ) : Type 0 where
  pub image_long : bytes_for b n size m ≤ length image
  pub table_long : n * m ≤ length table

-- ---- an opening

-- its plan, ranks, sizes and prefix are ones that it is not refused for, whatever it is lent
pub record GoodPlan (o : Opening) : Type 0 where
  pub order : IsOrder o.plan.order
  pub format : IsFormat o.plan.format
  pub bounds : InBounds o.plan.blocksize (length o.ranks) (entry o.ranks) (entry o.sizes)
  pub one_length : length o.sizes ≡ length o.ranks
  pub prefix_fits : length o.prefix ≤ prefix_length
  pub planned_range : (1 ≤ o.plan.planned) × (o.plan.planned ≤ max_blocks)

-- and it is lent enough
pub record GoodOpening (o : Opening) (image : List ℕ) (table : List ℤ) : Type 0 where
  pub plan : GoodPlan o
  pub long : LongEnough o.plan.blocksize (length o.ranks) (entry o.sizes) o.plan.planned image table

-- ---- a record

-- its head, its ranks and its sizes, in a call that means this file
pub record GoodHead (f : File) (h : Head) (lists : List ℕ) : Type 0 where
  pub files : h.files ≡ files_of f
  pub file : h.file ≡ file_of f
  pub order : IsOrder h.order
  pub format : IsFormat h.format
  pub bounds : InBounds h.blocksize h.n (rank_of lists) (size_of lists)

-- "a session's counts are at most K", and in version 4 at least 1
pub record GoodSession (f : File) (s : Session) (lists : List ℕ) : Type 0 where
  pub not_closed : s.closed ≡ 0
  pub head : GoodHead f s.head lists
  pub planned_range : (1 ≤ s.planned) × (s.planned ≤ max_blocks)
  pub counts_range : (i : ℕ) → i < s.head.n → count_of lists i ≤ s.planned
  pub counts_idle : s.head.format ≡ 4 → (i : ℕ) → i < s.head.n → 1 ≤ count_of lists i

-- "a loaded record's greatest count is its maxchunks", and in version 4 each is at least 1
pub record GoodLoaded (f : File) (l : Loaded) (lists : List ℕ) : Type 0 where
  pub not_closed : l.closed ≡ 0
  pub head : GoodHead f l.head lists
  pub maxchunks_range : l.maxchunks ≤ max_blocks
  pub counts_range : (i : ℕ) → i < l.head.n → count_of lists i ≤ l.maxchunks
  pub counts_idle : l.head.format ≡ 4 → (i : ℕ) → i < l.head.n → 1 ≤ count_of lists i
  pub greatest : (i : ℕ) × (i < l.head.n) × (count_of lists i ≡ l.maxchunks)

-- META2's rule over the cells of m chunks: "values at or below its count are 0 or more, all later ones are -1"
pub record GoodCells (h : Head) (lists : List ℕ) (m : ℕ) (table : List ℤ) : Type 0 where
  pub used : (i k : ℕ) → i < h.n → k < m → k < count_of lists i
      → (bytes : ℕ) × (cell table (value_index h.n k i) ≡ pos bytes) × (bytes ≤ capacity h.blocksize (size_of lists i))
  pub others : (i k : ℕ) → i < h.n → k < m → count_of lists i ≤ k → cell table (value_index h.n k i) ≡ unused

-- ---- what 17, 18 and 19 mean

-- an answer of write, close or the reads, whatever record, image and table came in: 17 exactly where the record breaks a fact, else 18 exactly
-- where it is lent too little, else 19 exactly where a cell breaks its rule
pub record Judged (sound long agreed : Type 0) (r : ℕ) : Type 0 where
  pub number_17 : Exactly (r ≡ 17) (Not sound)
  pub number_18 : Exactly (r ≡ 18) (sound × Not long)
  pub number_19 : Exactly (r ≡ 19) (sound × long × Not agreed)

abbrev pub SessionJudged : State → ℕ → Type 0
SessionJudged st =
    let h = st.session.head in
    Judged (GoodSession st.file st.session st.lists)
    (LongEnough h.blocksize h.n (size_of st.lists) st.session.planned st.image st.table)
    (GoodCells h st.lists st.session.planned st.table)

abbrev pub LoadedJudged : Container → ℕ → Type 0
LoadedJudged c =
    let h = c.loaded.head in
    Judged (GoodLoaded c.file c.loaded c.lists)
    (LongEnough h.blocksize h.n (size_of c.lists) c.loaded.maxchunks c.image c.table)
    (GoodCells h c.lists c.loaded.maxchunks c.table)
