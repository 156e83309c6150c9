-- Demand 3: a task can count on its room, over every list of writes from a start.
use Rattle.std.specs.Prelude.{◌≡◌, List, [], ◌∷◌, ◌++◌, ◌⊎◌, ℕ, ◌+◌, ◌-◌, ◌*◌, ◌/◌, ◌≤◌, ◌<◌, pos, length, get_or}
use Rattle.format.specs.Limits.{max_tasks}
use Rattle.format.specs.Refusals.{first_failing}
use Rattle.format.specs.Meta2.{value_index, unused}
use Rattle.format.specs.Record.{entry, cell, count_of}
use Rattle.format.specs.Session.{session_tests}
use Rattle.format.specs.Open.{tasks}
use Rattle.format.specs.Write.{Request}
use Rattle.format.specs.Tally.{terms_of, fed, answers, held, own, own_answers}
use Rattle.container.specs.Start.{Start, planned_blocks, chunk_size, after, answers_to, book_after, count_after, Puts}

-- the answers: those of the tally, and for a task those of the tally for its own requests alone; wherever in the list a request is answered 16,
-- twice the bytes, those accepted from its task before it and its own, exceed its chunk size times the planned blocks that it had not begun at the
-- start, which are all of them at an opening; and it never holds more than K·c. A task number is any number
pub record Answers (s : Start) (qs : List Request) : Type 0 where
  pub as_tally : answers_to s qs ≡ answers (terms_of s.plan) s.book (fed qs)
  pub alone : (task : ℕ) → own_answers task (fed qs) (answers_to s qs) ≡ answers (terms_of s.plan) s.book (own task (fed qs))
  pub least_share : (before rest : List Request) → (q : Request) → qs ≡ before ++ (q ∷ rest) → get_or (answers_to s qs) (length before) 0 ≡ 16
      → (planned_blocks s - (s.book q.task).u) * chunk_size s q.task
      < 2 * (held q.task (fed before) (answers_to s qs) + length q.bytes)
  pub most : (task : ℕ) → length (s.bytes task) + held task (fed qs) (answers_to s qs) ≤ planned_blocks s * chunk_size s task

-- the bytes: each accepted one where the tally puts it, every other as the start has it, and no block with bytes of two tasks
pub record Placed (s : Start) (qs : List Request) : Type 0 where
  pub placed_at : {task at value : ℕ} → Puts s qs task at value → get_or (after s qs).image at 0 ≡ value
  pub others : (at : ℕ) → ((task value : ℕ) → Puts s qs task at value → ⊥)
      → get_or (after s qs).image at 0 ≡ get_or s.state.image at 0
  pub as_long : length (after s qs).image ≡ length s.state.image
  pub own_blocks : {task task' at at' value value' : ℕ} → Puts s qs task at value → Puts s qs task' at' value'
      → at / s.plan.plan.blocksize ≡ at' / s.plan.plan.blocksize → task ≡ task'

-- the record and the table: a task's count is the tally's u, in version 4 the greater of u and 1, and its last cell the tally's w, later cells are
-- -1; the numbers, all of the lists but the tasks' counts, and the cells past n·K are as the start has them; and no request of the list moves a
-- cell but the one that is then its task's last
pub record Kept (s : Start) (qs : List Request) : Type 0 where
  pub session : (after s qs).session ≡ s.state.session
  pub counts : (i : ℕ) → i < tasks s.plan → count_of (after s qs).lists i ≡ count_after s qs i
  pub other_entries : (j : ℕ) → (j < 2 * max_tasks) ⊎ (2 * max_tasks + tasks s.plan ≤ j) → entry (after s qs).lists j ≡ entry s.state.lists j
  pub lists_as_long : length (after s qs).lists ≡ length s.state.lists
  pub last_cells : (i k : ℕ) → i < tasks s.plan → k + 1 ≡ count_after s qs i
      → cell (after s qs).table (value_index (tasks s.plan) k i) ≡ pos (book_after s qs (i + 1)).w
  pub later_cells : (i k : ℕ) → i < tasks s.plan → count_after s qs i ≤ k → k < planned_blocks s
      → cell (after s qs).table (value_index (tasks s.plan) k i) ≡ unused
  pub next_cells : (before rest : List Request) → (q : Request) → qs ≡ before ++ (q ∷ rest) → (i k : ℕ) → i < tasks s.plan
      → (q.task ≡ i + 1 → k + 1 ≡ count_after s (before ++ (q ∷ [])) i → ⊥)
      → cell (after s (before ++ (q ∷ []))).table (value_index (tasks s.plan) k i) ≡ cell (after s before).table (value_index (tasks s.plan) k i)
  pub other_cells : (j : ℕ) → tasks s.plan * planned_blocks s ≤ j → cell (after s qs).table j ≡ cell s.state.table j
  pub as_many : length (after s qs).table ≡ length s.state.table

-- "one claim over the whole list"
pub record Claim (s : Start) (qs : List Request) : Type 0 where
  pub answered : Answers s qs
  pub placed : Placed s qs
  pub kept : Kept s qs
  -- whatever was written, and however it was answered, 17, 18 and 19 pass
  pub alive : first_failing (session_tests (after s qs)) ≡ 0

-- starts that are alike have the same plan and the same book, as have two openings with the same arguments: the same requests of a task, in the same
-- order, get the same answers
abbrev pub Alike : Start → Start → Type 0
Alike s t =
    (qs qs' : List Request) → (task : ℕ) → own task (fed qs) ≡ own task (fed qs')
    → own_answers task (fed qs) (answers_to s qs) ≡ own_answers task (fed qs') (answers_to t qs')
