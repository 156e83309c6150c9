-- Demand 2 (b) and (c): what a session accepted is read back, from every start; and from an accepted opening the finished container byte by byte.
use Rattle.std.specs.Prelude.{◌≡◌, List, ◌++◌, ◌⊎◌, ℕ, ◌+◌, ◌-◌, ◌*◌, ◌≤◌, ◌<◌, min, eqb, ℤ, length, get_or, take, drop}
use Rattle.lists.specs.Below.{join_below}
use Rattle.endian.specs.Signed.{natural}
use Rattle.lists.specs.Splice.{splice}
use Rattle.format.specs.Layout.{meta1_end, data_start, meta2_start, meta2_length, meta2_end}
use Rattle.format.specs.Meta1.{prefix_at, meta1}
use Rattle.format.specs.Meta2.{value_index, meta2}
use Rattle.format.specs.Record.{entry, cell, count_of, is_big}
use Rattle.format.specs.Session.{State}
use Rattle.format.specs.Open.{Opening, tasks, open_head}
use Rattle.format.specs.Write.{Request, accepted}
use Rattle.format.specs.Close.{maxchunks_used, close_answer, close_image}
use Rattle.format.specs.Container.{Contents, Recorded}
use Rattle.format.specs.Load.{load_answer}
use Rattle.format.specs.Reads.{Container, loaded_from, chunk_refusal, chunk_part, total_answer, read_answer, read_output}
use Rattle.format.specs.About.{before_zero, length_answer, prefix_answer}
use Rattle.container.specs.Start.{Start, opened_start, after, answers_to, count_after, Puts}

-- what the container of a session says: what the opening was given, the counts and the cells; maxchunks is the greatest count
abbrev pub contents_of : Opening → State → Contents
contents_of o st =
    record {
      big = eqb o.plan.order 1;
      version = o.plan.version;
      patch = o.plan.patch;
      format = o.plan.format;
      blocksize = o.plan.blocksize;
      n = tasks o;
      rank = entry o.ranks;
      size = entry o.sizes;
      maxchunks = maxchunks_used st;
      count = count_of st.lists;
      written = λ k i. natural (cell st.table (value_index (tasks o) k i));
    }

-- a container loaded: its parts, totals and streams, for each task the given bytes
pub record GivesBack (c : Container) (n : ℕ) (bytes : ℕ → List ℕ) : Type 0 where
  pub allowed : (i k : ℕ) → i < n → k < count_of c.lists i → chunk_refusal c (i + 1) (k + 1) ≡ 0
  pub parts : (i : ℕ) → i < n → join_below (count_of c.lists i) (λ k. chunk_part c (i + 1) (k + 1)) ≡ bytes i
  pub totals : (i : ℕ) → i < n → total_answer c (i + 1) ≡ record { refusal = 0; bytes = length (bytes i) }
  pub copied : (i p : ℕ) → (out : List ℕ) → i < n → p ≤ length (bytes i)
      → read_answer c (i + 1) p out ≡ record { refusal = 0; bytes = min (length out) (length (bytes i) - p) }
  pub streams : (i p : ℕ) → (out : List ℕ) → i < n → p ≤ length (bytes i)
      → read_output c (i + 1) p out ≡ splice out 0 (take (length out) (drop p (bytes i)))

-- the first `length` bytes of a closed session's image, followed by anything, loaded with any table that is long enough: accepted, with the
-- same fields; each task gives back the bytes accepted from it, in order; the container is as long as closing said, and its prefix is the one that
-- the opening was given, up to a zero in it
pub record LoadsAgain (o : Opening) (st : State) (bytes : ℕ → List ℕ) (image : List ℕ) (table : List ℤ) : Type 0 where
  pub accepts : (load_answer o.file image table).refusal ≡ 0
  pub recorded : Recorded o.file (contents_of o st) (load_answer o.file image table).loaded (load_answer o.file image table).lists
  pub gives_back : GivesBack (loaded_from o.file image table) (tasks o) bytes
  pub ends : length_answer (loaded_from o.file image table) ≡ record { refusal = 0; bytes = (close_answer st).length }
  pub prefixed : prefix_answer (loaded_from o.file image table) ≡ record { refusal = 0; start = prefix_at; length = before_zero o.prefix }
  pub prefix_bytes : take (before_zero o.prefix) (drop prefix_at image) ≡ take (before_zero o.prefix) o.prefix

-- a start and any list of writes: the session closes, and loaded again each task gives the bytes already there, then those accepted from it
pub record WrittenBack (s : Start) (qs : List Request) : Type 0 where
  pub closes : (close_answer (after s qs)).refusal ≡ 0
  pub loads : (tail : List ℕ) → (cells : List ℤ) → tasks s.plan * maxchunks_used (after s qs) ≤ length cells
      → LoadsAgain s.plan (after s qs) (λ i. s.bytes (i + 1) ++ accepted (i + 1) qs (answers_to s qs))
      (take (close_answer (after s qs)).length (close_image (after s qs)) ++ tail) cells

-- a session that was opened over an image and written to, closed: META1 with its last two fields filled, zeros up to D, META2 of the tally's
-- counts and of the cells; every other byte is an accepted one where the tally puts it, or as the image was lent
pub record Finished (o : Opening) (image : List ℕ) (table : List ℤ) (qs : List Request) (st : State) (m : ℕ) : Type 0 where
  pub first : take (meta1_end (tasks o)) (close_image st)
      ≡ meta1 (open_head o) (entry o.ranks) (entry o.sizes) o.prefix m (meta2_start o.plan.blocksize (tasks o) (entry o.sizes) m)
  pub zeros : (at : ℕ) → meta1_end (tasks o) ≤ at → at < data_start o.plan.blocksize (tasks o) → get_or (close_image st) at 0 ≡ 0
  pub second : take (meta2_length (tasks o) m) (drop (meta2_start o.plan.blocksize (tasks o) (entry o.sizes) m) (close_image st))
      ≡ meta2 (is_big (open_head o)) (tasks o) m (count_after (opened_start o image table) qs) (cell st.table)
  pub placed_at : {task at value : ℕ} → Puts (opened_start o image table) qs task at value → get_or (close_image st) at 0 ≡ value
  pub others : (at : ℕ) → data_start o.plan.blocksize (tasks o) ≤ at
      → (at < meta2_start o.plan.blocksize (tasks o) (entry o.sizes) m) ⊎ (meta2_end o.plan.blocksize (tasks o) (entry o.sizes) m ≤ at)
      → ((task value : ℕ) → Puts (opened_start o image table) qs task at value → ⊥) → get_or (close_image st) at 0 ≡ get_or image at 0
  pub as_long : length (close_image st) ≡ length image
  pub length_is : (close_answer st).length ≡ meta2_end o.plan.blocksize (tasks o) (entry o.sizes) m
