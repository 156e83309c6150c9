-- Document 01, "The tally of demand 3": what it is fed, what it keeps of a task (u and w alone), what it answers to each write, and where it puts
-- each byte. Its rules know nothing of records, images and tables; `terms_of` and `fed_of` say what it is fed.
use Rattle.std.specs.Prelude.{Bool, cond, not, ◌&&◌, ◌≡◌, List, [], ◌∷◌, map, ℕ, ◌+◌, ◌-◌, ◌<◌, max, ltb, leb, eqb, length, get_or}
use Rattle.format.specs.Layout.{capacity, chunk_start}
use Rattle.format.specs.Meta2.{least_count}
use Rattle.format.specs.Record.{entry, is_task}
use Rattle.format.specs.Open.{Opening, tasks}
use Rattle.format.specs.Write.{Request}

-- "The tally is fed n, K, each task's c and chunk starts": whether a number names a task, and of each task its K, its c and where chunk k of it
-- starts, counted from 1. The tasks of a single file are named 1 to n and have one K; those of a pair are named by global rank, and K is their file's
-- (W-204)
pub record Terms : Type 0 where
  pub named : ℕ → Bool
  pub K : ℕ → ℕ
  pub c : ℕ → ℕ
  pub start : ℕ → ℕ → ℕ

-- of an opening's own arguments: "A task's chunk size c is its requested size", which W-202 reads as what a chunk holds
abbrev pub terms_of : Opening → Terms
terms_of o =
    record {
      named = is_task (tasks o);
      K = λ task. o.plan.planned;
      c = λ task. capacity o.plan.blocksize (entry o.sizes (task - 1));
      start = chunk_start o.plan.blocksize (tasks o) (entry o.sizes);
    }

-- "and of each write only task number and length L"
pub record Fed : Type 0 where
  pub task : ℕ
  pub L : ℕ

abbrev pub fed_of : Request → Fed
fed_of q = record { task = q.task; L = length q.bytes }

abbrev pub fed : List Request → List Fed
fed qs = map fed_of qs

-- "For each task it keeps u, the chunks begun, and w, the bytes in the last of them"
pub record Tally : Type 0 where
  pub u : ℕ
  pub w : ℕ

-- what the session's count of the task is then, by the format: u, and in version 4 the greater of u and 1 (W-209)
unfoldable pub count_by : ℕ → Tally → ℕ
count_by format x = max x.u (least_count format)

-- what becomes of a write: it is refused with a number, it is empty, its bytes go on in the chunk in use, or they begin the next one
pub data Outcome : Type 0 where
  refused : ℕ → Outcome
  empty stays moves : Outcome

-- "A task number not in 1..n gives 14", which is one that names no task. "L = 0 gives 0. L over c gives 15. If u is at least 1 and w + L at most c,
-- .. Else, if u is under K, .. Else 16."
unfoldable pub outcome : Terms → Fed → Tally → Outcome
outcome p a x =
    cond (not (p.named a.task)) (refused 14)
    (cond (eqb a.L 0) empty
    (cond (ltb (p.c a.task) a.L) (refused 15)
    (cond (leb 1 x.u && leb (x.w + a.L) (p.c a.task)) stays
    (cond (ltb x.u (p.K a.task)) moves (refused 16)))))

abbrev pub answer_to : Outcome → ℕ
answer_to (refused number) = number
answer_to empty = 0
answer_to stays = 0
answer_to moves = 0

-- "w grows by L"; "u grows by 1, .. w becomes L"; "An answer of 14, 15 or 16 changes nothing in it"
abbrev pub afterwards : Outcome → ℕ → Tally → Tally
afterwards (refused number) L x = x
afterwards empty L x = x
afterwards stays L x = record { u = x.u; w = x.w + L }
afterwards moves L x = record { u = x.u + 1; w = L }

-- the offset of the bytes' first: "from the start of chunk u plus w on", "from the start of the new chunk u on"; 0 where none is put
abbrev pub offset : Terms → ℕ → Outcome → Tally → ℕ
offset p task (refused number) x = 0
offset p task empty x = 0
offset p task stays x = p.start task x.u + x.w
offset p task moves x = p.start task (x.u + 1)

-- ---- all tasks, and a list of writes

abbrev pub Tallies : Type 0
Tallies = ℕ → Tally

-- "both are 0 at opening"
abbrev pub initial : Tallies
initial task = record { u = 0; w = 0 }

abbrev pub outcome_in : Terms → Tallies → Fed → Outcome
outcome_in p book a = outcome p a (book a.task)

unfoldable pub feed : Terms → Tallies → Fed → Tallies
feed p book a task = cond (eqb task a.task) (afterwards (outcome_in p book a) a.L (book task)) (book task)

abbrev pub feed_all : Terms → Tallies → List Fed → Tallies
feed_all p book [] = book
feed_all p book (a ∷ rest) = feed_all p (feed p book a) rest

abbrev pub answers : Terms → Tallies → List Fed → List ℕ
answers p book [] = []
answers p book (a ∷ rest) = answer_to (outcome_in p book a) ∷ answers p (feed p book a) rest

-- "Accepted means answered 0"; "A task holds the sum of the lengths accepted from it", given the answers to the writes
abbrev pub held : ℕ → List Fed → List ℕ → ℕ
held task [] numbers = 0
held task (a ∷ rest) [] = 0
held task (a ∷ rest) (number ∷ numbers) = cond (eqb a.task task && eqb number 0) a.L 0 + held task rest numbers

-- "A task's requests are the writes that name it", and the answers to them among the answers to all
abbrev pub own : ℕ → List Fed → List Fed
own task [] = []
own task (a ∷ rest) = cond (eqb a.task task) (a ∷ own task rest) (own task rest)

abbrev pub own_answers : ℕ → List Fed → List ℕ → List ℕ
own_answers task [] numbers = []
own_answers task (a ∷ rest) [] = []
own_answers task (a ∷ rest) (number ∷ numbers) =
    cond (eqb a.task task) (number ∷ own_answers task rest numbers) (own_answers task rest numbers)

-- where the tally puts the first byte of a write
abbrev pub offset_in : Terms → Tallies → Request → ℕ
offset_in p book q = offset p q.task (outcome_in p book (fed_of q)) (book q.task)

-- among these writes, fed to the tally from this book on, is an accepted one of the task with a byte of this value at this offset
pub data PlacedAt (p : Terms) (task at value : ℕ) : Tallies → List Request → Type 0 where
  here : {book : Tallies} {q : Request} {qs : List Request} → q.task ≡ task → answer_to (outcome_in p book (fed_of q)) ≡ 0
      → (j : ℕ) → j < length q.bytes → at ≡ offset_in p book q + j → value ≡ get_or q.bytes j 0 → PlacedAt p task at value book (q ∷ qs)
  later : {book : Tallies} {q : Request} {qs : List Request} → PlacedAt p task at value (feed p book (fed_of q)) qs
      → PlacedAt p task at value book (q ∷ qs)
