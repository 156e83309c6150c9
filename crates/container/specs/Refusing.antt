-- Demand 1: every entry answers 0 or one of its own numbers, a refused call changes nothing, and 17, 18 and 19 are given exactly where a record
-- breaks a fact, is lent too little, or has a cell that breaks its rule.
use Rattle.std.specs.Prelude.{◌≡◌, List, [], ◌∷◌, ◌⊎◌, ℕ, ◌≤◌, ◌<◌, ℤ, length, replicate}
use Rattle.format.specs.declared.head.File.{File}
use Rattle.format.specs.Record.{no_lists}
use Rattle.format.specs.declared.session.Session.{Session}
use Rattle.format.specs.Session.{State, state_of, no_session}
use Rattle.format.specs.Open.{Opening, needs_answer, open_answer, open_image, open_found, open_table}
use Rattle.format.specs.Write.{Request, write_refusal, after_write, write_found, writes, refusals}
use Rattle.format.specs.Close.{close_answer, close_image, close_found}
use Rattle.format.specs.declared.loaded.Loaded.{Loaded}
use Rattle.format.specs.Loaded.{no_loaded}
use Rattle.format.specs.Accepted.{LoadedJudged, SessionJudged}
use Rattle.format.specs.Load.{load_answer, load_table}
use Rattle.format.specs.Reads.{Container, chunk_refusal, chunk_part, part_answer, total_answer, read_answer, read_output}
use Rattle.format.specs.About.{chunk_size_answer, length_answer, prefix_answer}
use Rattle.lists.specs.Logic.{OneOf, Not}

-- said once for any entry: its numbers, its answer, and what the call leaves, which after a refusal is what came, with zeros for what is handed back
pub record Refuses {A : Type 0} (numbers : List ℕ) (answer : ℕ) (left refused : A) : Type 0 where
  pub numbered : OneOf (0 ∷ numbers) answer
  pub moves_nothing : 0 < answer → left ≡ refused

-- the numbers that document 01 lists for an entry, in its order of tests
abbrev pub load_numbers : List ℕ
load_numbers = 1 ∷ 2 ∷ 3 ∷ 4 ∷ 5 ∷ 6 ∷ 7 ∷ 8 ∷ 9 ∷ 10 ∷ 11 ∷ 12 ∷ 18 ∷ 13 ∷ []

abbrev pub chunk_numbers : List ℕ
chunk_numbers = 17 ∷ 18 ∷ 19 ∷ 14 ∷ 22 ∷ []

abbrev pub read_numbers : List ℕ
read_numbers = 17 ∷ 18 ∷ 19 ∷ 14 ∷ 23 ∷ []

abbrev pub total_numbers : List ℕ
total_numbers = 17 ∷ 18 ∷ 19 ∷ 14 ∷ []

abbrev pub open_numbers : List ℕ
open_numbers = 2 ∷ 4 ∷ 5 ∷ 6 ∷ 21 ∷ 8 ∷ 9 ∷ 20 ∷ 18 ∷ []

-- of these, the numbers that it gets whatever it is lent
abbrev pub needs_numbers : List ℕ
needs_numbers = 2 ∷ 4 ∷ 5 ∷ 6 ∷ 21 ∷ 8 ∷ 9 ∷ 20 ∷ []

abbrev pub write_numbers : List ℕ
write_numbers = 17 ∷ 18 ∷ 19 ∷ 14 ∷ 15 ∷ 16 ∷ []

-- of what a chunk holds
abbrev pub size_numbers : List ℕ
size_numbers = 5 ∷ 9 ∷ []

-- of a close, and of the length and the prefix of a loaded container
abbrev pub record_numbers : List ℕ
record_numbers = 17 ∷ 18 ∷ 19 ∷ []

-- ---- each entry: a record of zeros marked closed, lengths and counts of 0, an empty part, and all lent memory as it came

abbrev pub LoadRefuses : File → List ℕ → List ℤ → Type 0
LoadRefuses f image table =
    let a = load_answer f image table in
    Refuses {A = Loaded × List ℕ × List ℤ} load_numbers a.refusal (a.loaded, a.lists, load_table f image table) (no_loaded, no_lists, table)

abbrev pub ChunkRefuses : Container → ℕ → ℕ → Type 0
ChunkRefuses c task chunk = Refuses chunk_numbers (chunk_refusal c task chunk) (chunk_part c task chunk) []

abbrev pub PartRefuses : Container → ℕ → ℕ → Type 0
PartRefuses c task chunk =
    let a = part_answer c task chunk in Refuses {A = ℕ × ℕ} chunk_numbers a.refusal (a.start, a.length) (0, 0)

abbrev pub TotalRefuses : Container → ℕ → Type 0
TotalRefuses c task = Refuses total_numbers (total_answer c task).refusal (total_answer c task).bytes 0

abbrev pub ReadRefuses : Container → ℕ → ℕ → List ℕ → Type 0
ReadRefuses c task p out =
    let a = read_answer c task p out in Refuses {A = ℕ × List ℕ} read_numbers a.refusal (a.bytes, read_output c task p out) (0, out)

abbrev pub SizeRefuses : ℕ → ℕ → Type 0
SizeRefuses size blocksize = let a = chunk_size_answer size blocksize in Refuses size_numbers a.refusal a.bytes 0

abbrev pub LengthRefuses : Container → Type 0
LengthRefuses c = Refuses record_numbers (length_answer c).refusal (length_answer c).bytes 0

abbrev pub PrefixRefuses : Container → Type 0
PrefixRefuses c = let a = prefix_answer c in Refuses {A = ℕ × ℕ} record_numbers a.refusal (a.start, a.length) (0, 0)

abbrev pub NeedsRefuses : Opening → Type 0
NeedsRefuses o = let a = needs_answer o in Refuses {A = ℕ × ℕ} needs_numbers a.refusal (a.image, a.cells) (0, 0)

-- of the calls that store into the image, with the image or the session that they leave: once of the call itself, and once within a budget (W-212)
abbrev pub OpenRefuses : Opening → List ℕ → List ℤ → List ℕ → Type 0
OpenRefuses o image table left =
    let a = open_answer o image table in
    Refuses {A = Session × List ℕ × List ℕ × List ℤ} open_numbers a.refusal
    (a.session, a.lists, left, open_table o image table) (no_session, no_lists, image, table)

abbrev pub WriteRefuses : State → Request → State → Type 0
WriteRefuses st q left = Refuses write_numbers (write_refusal st q) left st

abbrev pub CloseRefuses : State → List ℕ → Type 0
CloseRefuses st left =
    let a = close_answer st in
    Refuses {A = Session × ℕ × List ℕ} record_numbers a.refusal (a.session, a.length, left) (st.session, 0, st.image)

-- what an opening needs says just how the opening is answered, whatever that is lent
pub record NeedsSays (o : Opening) (image : List ℕ) (table : List ℤ) : Type 0 where
  pub refused : 0 < (needs_answer o).refusal → (open_answer o image table).refusal ≡ (needs_answer o).refusal
  pub short : (needs_answer o).refusal ≡ 0 → (length image < (needs_answer o).image) ⊎ (length table < (needs_answer o).cells)
      → (open_answer o image table).refusal ≡ 18
  pub enough : (needs_answer o).refusal ≡ 0 → (needs_answer o).image ≤ length image → (needs_answer o).cells ≤ length table
      → (open_answer o image table).refusal ≡ 0

-- the end of a session: every write and every close answers 17, and it stays as it is
pub record Ended (st : State) : Type 0 where
  pub no_write : (qs : List Request) → refusals st qs ≡ replicate (length qs) 17
  pub stays : (qs : List Request) → writes st qs ≡ st
  pub no_close : (close_answer st).refusal ≡ 17

-- a session as a close leaves it
abbrev pub after_close : State → State
after_close st = state_of st.file (close_answer st).session st.lists (close_image st) st.table

pub record Refusals : Type 0 where
  pub load_refuses : (f : File) → (image : List ℕ) → (table : List ℤ) → LoadRefuses f image table
  pub chunk_refuses : (c : Container) → (task chunk : ℕ) → ChunkRefuses c task chunk
  pub part_refuses : (c : Container) → (task chunk : ℕ) → PartRefuses c task chunk
  pub total_refuses : (c : Container) → (task : ℕ) → TotalRefuses c task
  pub read_refuses : (c : Container) → (task p : ℕ) → (out : List ℕ) → ReadRefuses c task p out
  pub size_refuses : (size blocksize : ℕ) → SizeRefuses size blocksize
  pub length_refuses : (c : Container) → LengthRefuses c
  pub prefix_refuses : (c : Container) → PrefixRefuses c
  pub needs_refuses : (o : Opening) → NeedsRefuses o
  pub open_refuses : (o : Opening) → (image : List ℕ) → (table : List ℤ) → OpenRefuses o image table (open_image o image table)
  pub open_within_refuses : (o : Opening) → (image : List ℕ) → (table : List ℤ) → (b : ℕ) → OpenRefuses o image table (open_found o image table b)
  pub write_refuses : (st : State) → (q : Request) → WriteRefuses st q (after_write st q)
  pub write_within_refuses : (st : State) → (q : Request) → (b : ℕ) → WriteRefuses st q (write_found st q b)
  pub close_refuses : (st : State) → CloseRefuses st (close_image st)
  pub close_within_refuses : (st : State) → (b : ℕ) → CloseRefuses st (close_found st b)
  -- 17, 18 and 19
  pub chunk_judged : (c : Container) → (task chunk : ℕ) → LoadedJudged c (chunk_refusal c task chunk)
  pub total_judged : (c : Container) → (task : ℕ) → LoadedJudged c (total_answer c task).refusal
  pub read_judged : (c : Container) → (task p : ℕ) → (out : List ℕ) → LoadedJudged c (read_answer c task p out).refusal
  pub length_judged : (c : Container) → LoadedJudged c (length_answer c).refusal
  pub prefix_judged : (c : Container) → LoadedJudged c (prefix_answer c).refusal
  pub write_judged : (st : State) → (q : Request) → SessionJudged st (write_refusal st q)
  pub close_judged : (st : State) → SessionJudged st (close_answer st).refusal
  -- what ties one answer to another
  pub part_number : (c : Container) → (task chunk : ℕ) → (part_answer c task chunk).refusal ≡ chunk_refusal c task chunk
  pub needs_says : (o : Opening) → (image : List ℕ) → (table : List ℤ) → NeedsSays o image table
  pub empty_write : (st : State) → (q : Request) → length q.bytes ≡ 0 → after_write st q ≡ st
  pub flag_ends : (st : State) → Not (st.session.closed ≡ 0) → Ended st
  pub closed_ends : (st : State) → (close_answer st).refusal ≡ 0 → Ended (after_close st)
