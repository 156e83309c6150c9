-- A start: a session from which writes go on. An accepted opening gives one. Demands 2 (c) and 3 speak of every start, over every list of writes
-- from it, refused ones included.
use Rattle.std.specs.Prelude.{◌≡◌, List, [], ℕ, ◌+◌, ◌-◌, ◌^◌, ◌<◌, ℤ, length, take}
use Rattle.std.specs.Int.Signed.{mag}
use Rattle.lists.specs.Below.{greatest_below}
use Rattle.format.specs.Layout.{capacity}
use Rattle.format.specs.Meta1.{last_at, meta1_front}
use Rattle.format.specs.Record.{entry}
use Rattle.format.specs.Session.{State}
use Rattle.format.specs.Open.{Opening, tasks, open_head, open_answer, opened, open_session}
use Rattle.format.specs.Write.{Request, writes, refusals}
use Rattle.format.specs.Tally.{terms_of, count_by, initial, fed, feed_all, PlacedAt, Tallies}
use Rattle.format.specs.Accepted.{GoodPlan}
use Rattle.tally.specs.Simulates.{Reachable, Simulates, stream_in}

-- what the session was planned with, the session with its image and its table, the tally's book, and by task number the bytes already there
pub record Start : Type 0 where
  pub plan : Opening
  pub state : State
  pub book : Tallies
  pub bytes : ℕ → List ℕ

-- the start that an accepted opening gives: u and w are 0, and there are no bytes
abbrev pub opened_start : Opening → List ℕ → List ℤ → Start
opened_start o image table = record { plan = o; state = opened o image table; book = initial; bytes = λ task. [] }

abbrev pub Opens : Opening → List ℕ → List ℤ → Type 0
Opens o image table = (open_answer o image table).refusal ≡ 0

-- it is one: its plan is good, its session follows the tally's book, and holds the bytes already there
pub record IsStart (s : Start) : Type 0 where
  pub good : GoodPlan s.plan
  pub follows : Simulates (open_session s.plan) (entry s.plan.sizes) s.book s.state
  pub reachable : (task : ℕ) → Reachable s.plan.plan.planned ((terms_of s.plan).c task) (s.book task) (length (s.bytes task))
  pub streams : (i : ℕ) → i < tasks s.plan → stream_in s.state i ≡ s.bytes (i + 1)

-- library version and patch level are ones that 32 bits hold, as the entry's parameters do; every other number of an opening is tested
abbrev pub VersionsFit : Opening → Type 0
VersionsFit o = (mag o.plan.version < 2 ^ 31) × (mag o.plan.patch < 2 ^ 31)

-- its image has the first fields of META1, all but the last two
abbrev pub HasFront : Start → Type 0
HasFront s =
    take (last_at (tasks s.plan)) s.state.image
    ≡ meta1_front (open_head s.plan) (entry s.plan.ranks) (entry s.plan.sizes) s.plan.prefix

module _ (s : Start) where
  -- "planned blocks", and the "chunk size" of a task, counted from 1
  abbrev pub planned_blocks : ℕ
  planned_blocks = s.plan.plan.planned

  abbrev pub chunk_size : ℕ → ℕ
  chunk_size task = capacity s.plan.plan.blocksize (entry s.plan.sizes (task - 1))

  module _ (qs : List Request) where
    -- the session and the answers after these writes, and what the tally says then
    abbrev pub after : State
    after = writes s.state qs

    abbrev pub answers_to : List ℕ
    answers_to = refusals s.state qs

    abbrev pub book_after : Tallies
    book_after = feed_all (terms_of s.plan) s.book (fed qs)

    -- the count of task i + 1: the chunks that it has begun, in version 4 at least 1; and the greatest of these numbers, which is maxchunks
    abbrev pub count_after : ℕ → ℕ
    count_after i = count_by s.plan.plan.format (book_after (i + 1))

    abbrev pub greatest_count : ℕ
    greatest_count = greatest_below (tasks s.plan) count_after

    -- among these writes is an accepted one of the task, with a byte of this value that the tally puts at this offset
    abbrev pub Puts : ℕ → ℕ → ℕ → Type 0
    Puts task at value = PlacedAt (terms_of s.plan) task at value s.book qs
