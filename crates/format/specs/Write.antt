-- A write to a session (document 01, "A write names a task ..."): its tests, where the bytes go, and what an accepted write changes; then lists
-- of writes. It speaks of counts and cells, and knows nothing of the tally of u and w.
use Rattle.std.specs.Prelude.{Bool, cond, not, ◌&&◌, List, [], ◌∷◌, ◌++◌, ℕ, ◌+◌, ◌-◌, ltb, leb, eqb, pos, length, set}
use Rattle.endian.specs.Signed.{natural}
use Rattle.lists.specs.Splice.{splice}
use Rattle.lists.specs.Stores.{Store, store, found}
use Rattle.format.specs.Refusals.{Test, test, first_failing}
use Rattle.format.specs.Meta2.{value_index}
use Rattle.format.specs.Record.{cell, size_of, count_of, holds, start_of, is_task}
use Rattle.format.specs.Session.{State, state_of, session_tests, with_count}

-- the task is counted from 1
pub record Request : Type 0 where
  pub task : ℕ
  pub bytes : List ℕ

abbrev pub request_of : ℕ → List ℕ → Request
request_of task bytes = record { task = task; bytes = bytes }

-- where bytes go: a chunk, counted from 1, and how many bytes stand in it before them
pub record Spot : Type 0 where
  pub chunk : ℕ
  pub from : ℕ

module _ (st : State) (q : Request) where
  -- the chunks that the task has begun, the bytes in the last of them, and what a chunk of it holds
  unfoldable pub begun : ℕ
  begun = count_of st.lists (q.task - 1)

  unfoldable pub in_last : ℕ
  in_last = natural (cell st.table (value_index st.session.head.n (begun - 1) (q.task - 1)))

  unfoldable pub capacity_of : ℕ
  capacity_of = holds st.session.head (size_of st.lists) (q.task - 1)

  -- "if the task has a chunk in use and the bytes fit in what is left of its requested size", which W-202 reads as what a chunk holds, "they go
  -- there, straight after the last. Else they go to the start of its next chunk"
  unfoldable pub spot : Spot
  spot =
      cond (ltb 0 begun && leb (length q.bytes) (capacity_of - in_last))
      (record { chunk = begun; from = in_last })
      (record { chunk = begun + 1; from = 0 })

  -- the offset of the first of them
  unfoldable pub target : ℕ
  target = start_of st.session.head (size_of st.lists) q.task spot.chunk + spot.from

  -- "14, empty accepted, 15, 16"; a next chunk is there "if its number is at most K"
  unfoldable pub request_tests : List Test
  request_tests =
      test 14 (not (is_task st.session.head.n q.task))
      ∷ cond (eqb (length q.bytes) 0) []
      (test 15 (ltb capacity_of (length q.bytes)) ∷ test 16 (ltb st.session.planned spot.chunk) ∷ [])

  -- "17, 18, 19, 14, empty accepted, 15, 16"
  unfoldable pub write_refusal : ℕ
  write_refusal = first_failing (session_tests st ++ request_tests)

  -- "Only those bytes, that cell and that task's count change."
  unfoldable pub stored : State
  stored =
      record {
        file = st.file;
        session = st.session;
        lists = with_count st.lists (q.task - 1) spot.chunk;
        image = splice st.image target q.bytes;
        table =
            set st.table (value_index st.session.head.n (spot.chunk - 1) (q.task - 1))
            (pos (spot.from + length q.bytes));
      }

  -- "Empty: accepted, nothing changes"; and nothing changes where it is refused
  abbrev pub takes_bytes : Bool
  takes_bytes = eqb write_refusal 0 && not (eqb (length q.bytes) 0)

  unfoldable pub after_write : State
  after_write = cond takes_bytes stored st

  -- what it stores into the image, and what is found within a budget of these byte stores (W-212): record and table are those of the whole write
  unfoldable pub write_stores : List Store
  write_stores = cond takes_bytes (store target q.bytes ∷ []) []

  unfoldable pub write_found : ℕ → State
  write_found budget = state_of st.file after_write.session after_write.lists (found budget st.image write_stores) after_write.table

-- ---- a list of writes, each to what the last one left: the state in the end, and the answers in order

abbrev pub writes : State → List Request → State
writes st [] = st
writes st (q ∷ qs) = writes (after_write st q) qs

abbrev pub refusals : State → List Request → List ℕ
refusals st [] = []
refusals st (q ∷ qs) = write_refusal st q ∷ refusals (after_write st q) qs

-- the bytes accepted from a task, in order, given the answers to the writes
abbrev pub accepted : ℕ → List Request → List ℕ → List ℕ
accepted task [] numbers = []
accepted task (q ∷ qs) [] = []
accepted task (q ∷ qs) (number ∷ numbers) = cond (eqb q.task task && eqb number 0) q.bytes [] ++ accepted task qs numbers
