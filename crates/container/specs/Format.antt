-- Demand 2 (a) and (b): the loader accepts exactly the format and says what a container says, what is read is what it says, opening accepts
-- exactly what the paper allows, and opening and closing store what the format asks for.
use Rattle.std.specs.Prelude.{◌≡◌, List, ◌++◌, ◌⊎◌, ℕ, ◌+◌, ◌-◌, ◌*◌, ◌≤◌, ◌<◌, min, ℤ, pos, length, get_or, take, drop, replicate}
use Rattle.lists.specs.Below.{sum_below, join_below}
use Rattle.lists.specs.Splice.{splice}
use Rattle.format.specs.declared.head.File.{File}
use Rattle.format.specs.Layout.{meta1_end, data_start, capacity, chunk_start, meta2_end}
use Rattle.format.specs.Meta1.{prefix_at, prefix_length, last_at, last_fields, meta1}
use Rattle.format.specs.Meta2.{unused, least_count, meta2}
use Rattle.format.specs.Record.{entry, cell, files_of, file_of, size_of, count_of, is_big, meta2_at, end_at}
use Rattle.format.specs.declared.session.Session.{Session}
use Rattle.format.specs.Session.{State, as_closed}
use Rattle.format.specs.Open.{Opening, tasks, needs_answer, open_answer, open_image, open_table}
use Rattle.format.specs.Close.{close_answer, close_image}
use Rattle.format.specs.Container.{Contents, IsContainer, Says, Lists, HeadSays}
use Rattle.format.specs.Accepted.{bytes_for, GoodPlan, GoodOpening}
use Rattle.format.specs.Load.{load_answer, load_table}
use Rattle.format.specs.Reads.{Container, chunk_refusal, chunk_part, part_answer, total_answer, read_answer, read_output}
use Rattle.format.specs.About.{chunk_size_answer, before_zero, length_answer, prefix_answer}
use Rattle.format.specs.Tally.{terms_of}
use Rattle.lists.specs.Logic.{Exactly}

-- accepted exactly when the image is a container, as the file that the call means, and the table has a cell for each of its values: both directions,
-- and what is handed back
pub record AcceptsExactly (f : File) (image : List ℕ) (table : List ℤ) : Type 0 where
  pub only : (load_answer f image table).refusal ≡ 0 → (c : IsContainer f image) × (c.says.n * c.says.maxchunks ≤ length table)
  pub every : (c : IsContainer f image) → c.says.n * c.says.maxchunks ≤ length table → (load_answer f image table).refusal ≡ 0
  pub says : (c : IsContainer f image) → (load_answer f image table).refusal ≡ 0
      → Says f c.says (load_answer f image table).loaded (load_answer f image table).lists table (load_table f image table)

-- a part's place in the image: the bytes there are the part, whatever record, image and table came in
abbrev pub PartThere : Container → ℕ → ℕ → Type 0
PartThere c task chunk =
    take (part_answer c task chunk).length (drop (part_answer c task chunk).start c.image) ≡ chunk_part c task chunk

-- ---- what is read of a container, with the record and the table that loading handed back

-- the bytes of chunk k + 1 of task i + 1, a task's whole stream and its length, as the container says
unfoldable pub bytes_said : List ℕ → Contents → ℕ → ℕ → List ℕ
bytes_said image c i k = take (c.written k i) (drop (chunk_start c.blocksize c.n c.size (i + 1) (k + 1)) image)

unfoldable pub stream_said : List ℕ → Contents → ℕ → List ℕ
stream_said image c i = join_below (c.count i) (bytes_said image c i)

unfoldable pub total_said : Contents → ℕ → ℕ
total_said c i = sum_below (c.count i) (λ k. c.written k i)

-- every used chunk, every total and every stream from every place in it; of a chunk, also that all of its bytes are there; then what each task's
-- chunks hold, the container's length, and its prefix without the zeros that follow it
pub record ReadsBack (image : List ℕ) (c : Contents) (loaded : Container) : Type 0 where
  pub chunks : (i k : ℕ) → i < c.n → k < c.count i → chunk_refusal loaded (i + 1) (k + 1) ≡ 0
  pub parts : (i k : ℕ) → i < c.n → k < c.count i → chunk_part loaded (i + 1) (k + 1) ≡ bytes_said image c i k
  pub whole : (i k : ℕ) → i < c.n → k < c.count i → length (bytes_said image c i k) ≡ c.written k i
  pub totals : (i : ℕ) → i < c.n → total_answer loaded (i + 1) ≡ record { refusal = 0; bytes = total_said c i }
  pub copied : (i p : ℕ) → (out : List ℕ) → i < c.n → p ≤ total_said c i
      → read_answer loaded (i + 1) p out ≡ record { refusal = 0; bytes = min (length out) (total_said c i - p) }
  pub streams : (i p : ℕ) → (out : List ℕ) → i < c.n → p ≤ total_said c i
      → read_output loaded (i + 1) p out ≡ splice out 0 (take (length out) (drop p (stream_said image c i)))
  pub sizes : (i : ℕ) → i < c.n
      → chunk_size_answer (size_of loaded.lists i) loaded.loaded.head.blocksize
      ≡ record { refusal = 0; bytes = capacity c.blocksize (c.size i) }
  pub ends : length_answer loaded ≡ record { refusal = 0; bytes = meta2_end c.blocksize c.n c.size c.maxchunks }
  pub prefixed : prefix_answer loaded
      ≡ record { refusal = 0; start = prefix_at; length = before_zero (take prefix_length (drop prefix_at image)) }

-- and what is refused then: a task that there is not, a chunk that is not in use, a place past the total, each with its own number
pub record RefusesBack (c : Contents) (loaded : Container) : Type 0 where
  pub no_task : (task chunk p : ℕ) → (out : List ℕ) → (task ≡ 0) ⊎ (c.n < task)
      → (chunk_refusal loaded task chunk ≡ 14) × ((total_answer loaded task).refusal ≡ 14) × ((read_answer loaded task p out).refusal ≡ 14)
  pub no_chunk : (i chunk : ℕ) → i < c.n → (chunk ≡ 0) ⊎ (c.count i < chunk) → chunk_refusal loaded (i + 1) chunk ≡ 22
  pub past_total : (i p : ℕ) → (out : List ℕ) → i < c.n → total_said c i < p → (read_answer loaded (i + 1) p out).refusal ≡ 23

-- ---- demand 2 (b): which openings are accepted, and what any accepted opening and any accepted close store, whatever came in

-- opening answers 0 exactly where its arguments keep the rules, and so does `needs`, which then says how much is to be lent; and what is
-- answered for a task's chunk size is the tally's c
pub record OpensExactly (o : Opening) (image : List ℕ) (table : List ℤ) : Type 0 where
  pub opens : Exactly ((open_answer o image table).refusal ≡ 0) (GoodOpening o image table)
  pub plans : Exactly ((needs_answer o).refusal ≡ 0) (GoodPlan o)
  pub needed : GoodPlan o
      → ((needs_answer o).image ≡ bytes_for o.plan.blocksize (tasks o) (entry o.sizes) o.plan.planned)
      × ((needs_answer o).cells ≡ tasks o * o.plan.planned)
  pub sized : GoodPlan o → (task : ℕ) → 1 ≤ task → task ≤ tasks o
      → chunk_size_answer (entry o.sizes (task - 1)) o.plan.blocksize ≡ record { refusal = 0; bytes = (terms_of o).c task }

-- the record of an opening says what the opening was given; each task has the least count, 0 or in version 4 1; and it is not marked closed
pub record Begun (o : Opening) (s : Session) (lists : List ℕ) : Type 0 where
  pub head : HeadSays s.head o.plan.order o.plan.version o.plan.patch o.plan.format o.plan.blocksize (tasks o)
      (files_of o.file) (file_of o.file)
  pub planned : s.planned ≡ o.plan.planned
  pub not_closed : s.closed ≡ 0
  pub listed : Lists (tasks o) (entry o.ranks) (entry o.sizes) (λ i. least_count o.plan.format) lists

-- META1 of that record with zeros up to D; -1 in the first n·K cells, but 0 where the counts say that a chunk is in use; and nothing else
pub record OpeningStores (o : Opening) (image : List ℕ) (table : List ℤ) : Type 0 where
  pub begun : Begun o (open_answer o image table).session (open_answer o image table).lists
  pub bytes : take (data_start o.plan.blocksize (tasks o)) (open_image o image table)
      ≡ meta1 (open_answer o image table).session.head (entry o.ranks) (entry o.sizes) o.prefix 0 0
      ++ replicate (data_start o.plan.blocksize (tasks o) - meta1_end (tasks o)) 0
  pub other_bytes : drop (data_start o.plan.blocksize (tasks o)) (open_image o image table) ≡ drop (data_start o.plan.blocksize (tasks o)) image
  pub cells : take (tasks o * o.plan.planned) (open_table o image table)
      ≡ replicate (tasks o * least_count o.plan.format) (pos 0)
      ++ replicate (tasks o * (o.plan.planned - least_count o.plan.format)) unused
  pub other_cells : drop (tasks o * o.plan.planned) (open_table o image table) ≡ drop (tasks o * o.plan.planned) table

-- where META2 of so many chunks starts and ends in a session's image
abbrev pub starts_at : State → ℕ → ℕ
starts_at st m = meta2_at st.session.head (size_of st.lists) m

abbrev pub end_of : State → ℕ → ℕ
end_of st m = end_at st.session.head (size_of st.lists) m

-- META2 of the record and the table, in the record's order, and META1's last two fields, of 4 and 8 bytes; every other byte, also past the
-- length, is as it came. m is the greatest count
pub record CloseStores (st : State) (m : ℕ) : Type 0 where
  pub most : (i : ℕ) → i < st.session.head.n → count_of st.lists i ≤ m
  pub reached : (i : ℕ) × (i < st.session.head.n) × (count_of st.lists i ≡ m)
  pub second : take (end_of st m - starts_at st m) (drop (starts_at st m) (close_image st))
      ≡ meta2 (is_big st.session.head) st.session.head.n m (count_of st.lists) (cell st.table)
  pub fields : take 12 (drop (last_at st.session.head.n) (close_image st)) ≡ last_fields (is_big st.session.head) m (starts_at st m)
  pub others : (j : ℕ)
      → (j < last_at st.session.head.n)
      ⊎ (((meta1_end st.session.head.n ≤ j) × (j < starts_at st m)) ⊎ (end_of st m ≤ j))
      → get_or (close_image st) j 0 ≡ get_or st.image j 0
  pub as_long : length (close_image st) ≡ length st.image
  pub session : (close_answer st).session ≡ as_closed st.session
  pub length_is : (close_answer st).length ≡ end_of st m
