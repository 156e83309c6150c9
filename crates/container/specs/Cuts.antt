-- W-212, "Power cuts": "Stores reach the drive one byte at a time in the order made; power may go after any." What is found of a single file where power goes
-- in the opening, in a write or in the close, moment by moment, and what loading it gives: from an accepted opening on, over every image that was there
-- before, every list of writes and every budget. Only this session's calls touch image and table, each handed what the last one left; all calls before the cut
-- made all of their stores.
use Rattle.std.specs.Prelude.{◌≡◌, List, [], ◌∷◌, ◌++◌, ◌⊎◌, ℕ, ◌+◌, ◌*◌, ◌≤◌, ℤ, length, get_or}
use Rattle.format.specs.declared.head.File.{File}
use Rattle.format.specs.Layout.{data_start, meta2_length}
use Rattle.format.specs.Session.{State, state_of}
use Rattle.format.specs.Open.{Opening, tasks, open_image, open_found}
use Rattle.format.specs.Write.{Request, after_write, write_found, accepted}
use Rattle.format.specs.Close.{maxchunks_used, close_answer, close_image, close_found}
use Rattle.format.specs.Load.{load_answer}
use Rattle.format.specs.Tally.{terms_of, PlacedAt}
use Rattle.container.specs.Start.{Start, VersionsFit, opened_start, after, answers_to, book_after}
use Rattle.container.specs.WrittenBack.{LoadsAgain}

-- what loading an image answers, as the file that was opened, with any table: the three numbers below come before 18
abbrev pub Gives : File → ℕ → List ℕ → Type 0
Gives f number image = (cells : List ℤ) → (load_answer f image cells).refusal ≡ number

-- the bytes of META2 that a close stores
abbrev pub meta2_bytes : Start → List Request → ℕ
meta2_bytes s qs = meta2_length (tasks s.plan) (maxchunks_used (after s qs))

-- a session, from a start that is not closed
pub record SessionCuts (s : Start) : Type 0 where
  -- "10 during the session": after any writes, and in the next one, whatever it asks for and however it is answered
  pub session : (qs : List Request) → Gives s.plan.file 10 (after s qs).image
  pub writing : (qs : List Request) → (q : Request) → (b : ℕ) → Gives s.plan.file 10 (write_found (after s qs) q b).image
  -- a cut write changes only bytes of its request's place, as the tally has it
  pub place : (qs : List Request) → (q : Request) → (b at : ℕ)
      → ((task value : ℕ) → PlacedAt (terms_of s.plan) task at value (book_after s qs) (q ∷ []) → ⊥)
      → get_or (write_found (after s qs) q b).image at 0 ≡ get_or (after s qs).image at 0
  -- "10, 12 or the complete container during closing": 10 up to the first store of start_of_varheader, the complete container at the latest after its last
  pub before_start : (qs : List Request) → (b : ℕ) → b ≤ meta2_bytes s qs + 4 → Gives s.plan.file 10 (close_found (after s qs) b)
  pub closing : (qs : List Request) → (b : ℕ)
      → Gives s.plan.file 10 (close_found (after s qs) b) ⊎ (Gives s.plan.file 12 (close_found (after s qs) b) ⊎ (close_found (after s qs) b ≡ close_image (after s qs)))
  pub closed : (qs : List Request) → (b : ℕ) → meta2_bytes s qs + 12 ≤ b → close_found (after s qs) b ≡ close_image (after s qs)
  -- which loads, with a table that is long enough, as demand 2 says
  pub complete : VersionsFit s.plan → (qs : List Request) → (cells : List ℤ) → tasks s.plan * maxchunks_used (after s qs) ≤ length cells
      → LoadsAgain s.plan (after s qs) (λ i. s.bytes (i + 1) ++ accepted (i + 1) qs (answers_to s qs)) (close_image (after s qs)) cells

-- an accepted opening, and the session that it begins
pub record Cuts (o : Opening) (image : List ℕ) (table : List ℤ) : Type 0 where
  -- "the earlier image's answer before the first store": what is found is the earlier image
  pub before : open_found o image table 0 ≡ image
  -- "1 while opening runs": from its first store up to the last but one
  pub opening : (b : ℕ) → 1 ≤ b → b ≤ data_start o.plan.blocksize (tasks o) → Gives o.file 1 (open_found o image table b)
  pub opened : (b : ℕ) → data_start o.plan.blocksize (tasks o) + 1 ≤ b → open_found o image table b ≡ open_image o image table
  pub session : SessionCuts (opened_start o image table)

-- ---- of each call, whatever came in, refused ones included

-- "enough gives the call itself": as many byte stores as the image has bytes, and for a write as many as it has bytes
pub record Enough : Type 0 where
  pub opens : (o : Opening) → (image : List ℕ) → (table : List ℤ) → (b : ℕ) → length image ≤ b → open_found o image table b ≡ open_image o image table
  pub writes : (st : State) → (q : Request) → (b : ℕ) → length q.bytes ≤ b → write_found st q b ≡ after_write st q
  pub closes : (st : State) → (b : ℕ) → length st.image ≤ b → close_found st b ≡ close_image st

-- a close that was cut, made again with the same session: the same answer and the same image
abbrev pub cut_close : State → ℕ → State
cut_close st b = state_of st.file st.session st.lists (close_found st b) st.table

pub record ClosesAgain (st : State) (b : ℕ) : Type 0 where
  pub answer : close_answer (cut_close st b) ≡ close_answer st
  pub image : close_image (cut_close st b) ≡ close_image st
