-- A pair's start (W-204): two starts, one in each file, from which writes by global rank go on. An accepted opening of a pair gives one. Each file's
-- blocks and offsets are counted within it; a rank's terms of the tally, its book and its bytes are those of the task that carries it.
use Rattle.std.specs.Prelude.{◌≡◌, true, cond, List, ℕ, ◌≤◌, ◌<◌, ltb, ℤ, length}
use Rattle.format.specs.declared.head.File.TheVariants.{First, Second}
use Rattle.format.specs.Record.{entry}
use Rattle.format.specs.Open.{Opening, tasks}
use Rattle.format.specs.Write.{Request}
use Rattle.format.specs.Tally.{Terms, terms_of, Tallies, fed, feed_all, PlacedAt}
use Rattle.pairs.specs.Ranks.{none_lacking}
use Rattle.pairs.specs.Sessions.{Pair, pair_of, tasks₀, tasks₁, ranks₀, ranks₁, size, room_end, second?, task_of_rank, pair_writes, pair_refusals}
use Rattle.container.specs.Start.{Start, IsStart, opened_start}

pub record PairStart : Type 0 where
  pub first : Start
  pub second : Start

-- the start that an accepted opening of a pair gives
abbrev pub opened_pair : Opening → Opening → List ℕ → List ℤ → List ℕ → List ℤ → PairStart
opened_pair o o' image table image' table' = record { first = opened_start o image table; second = opened_start o' image' table' }

module _ (s : PairStart) where
  -- the pair of sessions
  abbrev pub pair : Pair
  pair = pair_of s.first.state s.second.state

  -- the start in the file that has a rank, and the task there, counted from 1
  abbrev pub start_of_rank : ℕ → Start
  start_of_rank r = cond (second? pair r) s.second s.first

  abbrev pub task : ℕ → ℕ
  task r = task_of_rank pair r

  -- "Demands 2 and 3 and 01's tally hold over both files' tasks, named by global rank, blocks and offsets being counted within each file"
  abbrev pub pair_terms : Terms
  pair_terms =
      record {
        named = λ r. ltb r (size pair);
        K = λ r. (start_of_rank r).plan.plan.planned;
        c = λ r. (terms_of (start_of_rank r).plan).c (task r);
        start = λ r. (terms_of (start_of_rank r).plan).start (task r);
      }

  abbrev pub pair_book : Tallies
  pair_book r = (start_of_rank r).book (task r)

  -- the bytes already there
  abbrev pub pair_bytes : ℕ → List ℕ
  pair_bytes r = (start_of_rank r).bytes (task r)

  module _ (qs : List Request) where
    -- the sessions and the answers after these writes, and what the tally says then
    abbrev pub pair_after : Pair
    pair_after = pair_writes pair qs

    abbrev pub pair_answers : List ℕ
    pair_answers = pair_refusals pair qs

    abbrev pub pair_book_after : Tallies
    pair_book_after = feed_all pair_terms pair_book (fed qs)

    -- among these writes is an accepted one of the rank, with a byte of this value that the tally puts at this offset of its file
    abbrev pub PairPuts : ℕ → ℕ → ℕ → Type 0
    PairPuts rank at value = PlacedAt pair_terms rank at value pair_book qs

-- it is one: each is a start in its file with the ranks that it was planned with, no rank is lacking, and file 0 has the mapping's room
pub record IsPairStart (s : PairStart) : Type 0 where
  pub first : IsStart s.first
  pub second : IsStart s.second
  pub in_first : s.first.state.file ≡ First
  pub in_second_file : s.second.state.file ≡ Second
  pub ranks_first : (i : ℕ) → i < tasks s.first.plan → ranks₀ (pair s) i ≡ entry s.first.plan.ranks i
  pub ranks_second : (i : ℕ) → i < tasks s.second.plan → ranks₁ (pair s) i ≡ entry s.second.plan.ranks i
  pub there : none_lacking (tasks₀ (pair s)) (tasks₁ (pair s)) (ranks₀ (pair s)) (ranks₁ (pair s)) ≡ true
  pub room : room_end (pair s) ≤ length s.first.state.image
