-- What it is that a session follows the tally: the one relation between a session and the tally's book, the bytes that a session holds, and which
-- tallies writes can lead to.
use Rattle.std.specs.Prelude.{◌≡◌, true, List, ℕ, ◌+◌, ◌*◌, ◌-◌, ◌≤◌, ◌<◌, ℤ, pos, length, take, drop}
use Rattle.lists.specs.Below.{join_below}
use Rattle.endian.specs.Signed.{natural}
use Rattle.format.specs.Limits.{max_blocks}
use Rattle.format.specs.Meta2.{value_index, unused}
use Rattle.format.specs.Record.{cell, all_lists, size_of, count_of, suits, is_task, holds, start_of, end_at, head_sound}
use Rattle.format.specs.declared.session.Session.{Session}
use Rattle.format.specs.Session.{State}
use Rattle.format.specs.Tally.{Terms, Tally, Tallies, count_by}

-- a task whose tally is x can hold h bytes: no chunk that it has begun holds more than c, it has begun no more than K, and where it has begun none
-- it holds nothing and w is 0
pub record Reachable (K c : ℕ) (x : Tally) (h : ℕ) : Type 0 where
  pub high : 0 < x.u → h + c ≤ x.u * c + x.w
  pub fresh : x.u ≡ 0 → (h ≡ 0) × (x.w ≡ 0)
  pub last : x.w ≤ c
  pub most : x.u ≤ K

abbrev pub AllReachable : Terms → Tallies → Type 0
AllReachable p b = (task : ℕ) → (h : ℕ) × Reachable (p.K task) (p.c task) (b task) h

-- what the tally is fed of a session's numbers and sizes
abbrev pub terms_in : Session → (ℕ → ℕ) → Terms
terms_in s size =
    record {
      named = is_task s.head.n;
      K = λ task. s.planned;
      c = λ task. holds s.head size (task - 1);
      start = start_of s.head size;
    }

-- what the cell of chunk k + 1 of a task holds, where the task has so many chunks in use, the last of them with w bytes
pub record CellIs (c count w k : ℕ) (z : ℤ) : Type 0 where
  pub used : k + 1 < count → (v : ℕ) × (z ≡ pos v) × (v ≤ c)
  pub last : k + 1 ≡ count → z ≡ pos w
  pub none : count ≤ k → z ≡ unused

-- a session with these numbers and sizes is as it is after writes of which the tally says b
pub record Simulates (s : Session) (size : ℕ → ℕ) (b : Tallies) (st : State) : Type 0 where
  pub session_is : st.session ≡ s
  pub sizes_are : size_of st.lists ≡ size
  pub file_suits : suits st.file s.head ≡ true
  pub not_closed : s.closed ≡ 0
  pub sound : head_sound s.head st.lists ≡ true
  pub some : 1 ≤ s.planned
  pub few : s.planned ≤ max_blocks
  pub as_many : length st.lists ≡ all_lists
  pub image_long : end_at s.head size s.planned ≤ length st.image
  pub table_long : s.head.n * s.planned ≤ length st.table
  pub counts_are : (i : ℕ) → i < s.head.n → count_of st.lists i ≡ count_by s.head.format (b (i + 1))
  pub cells_are : (i k : ℕ) → i < s.head.n → k < s.planned
      → CellIs (holds s.head size i) (count_by s.head.format (b (i + 1))) (b (i + 1)).w k (cell st.table (value_index s.head.n k i))
  pub reachable : AllReachable (terms_in s size) b

-- the same by the session's own numbers and sizes, and what the tally is fed of these
abbrev pub terms_at : State → Terms
terms_at st = terms_in st.session (size_of st.lists)

abbrev pub Own : Tallies → State → Type 0
Own b st = Simulates st.session (size_of st.lists) b st

-- ---- the bytes that a session holds

-- the bytes of chunk k + 1 of task i + 1, and the task's whole stream, as a state says
unfoldable pub bytes_in : State → ℕ → ℕ → List ℕ
bytes_in st i k =
    take (natural (cell st.table (value_index st.session.head.n k i)))
    (drop (start_of st.session.head (size_of st.lists) (i + 1) (k + 1)) st.image)

unfoldable pub stream_in : State → ℕ → List ℕ
stream_in st i = join_below (count_of st.lists i) (bytes_in st i)
