-- Demand 3 over both files of a pair (W-204): a task, named by global rank, can count on its room, over every list of writes from a pair's start.
use Rattle.std.specs.Prelude.{◌≡◌, Bool, true, false, cond, not, ◌&&◌, List, [], ◌∷◌, ◌++◌, ℕ, ◌+◌, ◌-◌, ◌*◌, ◌/◌, ◌≤◌, ◌<◌, ltb, length, get_or}
use Rattle.format.specs.Refusals.{first_failing}
use Rattle.format.specs.Record.{rank_of}
use Rattle.format.specs.Session.{State}
use Rattle.format.specs.Open.{tasks}
use Rattle.format.specs.Write.{Request, request_of, writes}
use Rattle.format.specs.Tally.{fed, answers, held, own, own_answers}
use Rattle.pairs.specs.Sessions.{Pair, pair_of, size, pair_tests, second?}
use Rattle.container.specs.Room.{Claim}
use Rattle.pair.specs.Start.{PairStart, pair, start_of_rank, task, pair_terms, pair_book, pair_bytes, pair_after, pair_answers, PairPuts}

-- of a pair, file 0's or file 1's
abbrev pub file_of : Pair → Bool → State
file_of p second = cond second p.second p.first

-- ---- names

-- a rank below mapping_size is that of the task which carries it, in the file that has it; and every task of either file has a rank
pub record Named (s : PairStart) : Type 0 where
  pub carries : (r : ℕ) → r < size (pair s)
      → (1 ≤ task s r)
      × (task s r ≤ tasks (start_of_rank s r).plan)
      × (rank_of (start_of_rank s r).state.lists (task s r - 1) ≡ r)
  pub every : (second : Bool) → (i : ℕ) → i < tasks (cond second s.second s.first).plan
      → let r = rank_of (file_of (pair s) second).lists i in
      (r < size (pair s)) × (second? (pair s) r ≡ second) × (task s r ≡ i + 1)

-- ---- the answers, as of a single file

-- K and c of a rank are its file's and its task's
pub record PairAnswered (s : PairStart) (qs : List Request) : Type 0 where
  pub as_tally : pair_answers s qs ≡ answers (pair_terms s) (pair_book s) (fed qs)
  pub alone : (rank : ℕ) → own_answers rank (fed qs) (pair_answers s qs) ≡ answers (pair_terms s) (pair_book s) (own rank (fed qs))
  pub least_share : (before rest : List Request) → (q : Request) → qs ≡ before ++ (q ∷ rest) → get_or (pair_answers s qs) (length before) 0 ≡ 16
      → ((pair_terms s).K q.task - (pair_book s q.task).u) * (pair_terms s).c q.task
      < 2 * (held q.task (fed before) (pair_answers s qs) + length q.bytes)
  pub most : (rank : ℕ)
      → length (pair_bytes s rank) + held rank (fed qs) (pair_answers s qs) ≤ (pair_terms s).K rank * (pair_terms s).c rank

-- ---- the bytes, in each file

pub record PairPlaced (s : PairStart) (qs : List Request) : Type 0 where
  pub placed_at : {rank at value : ℕ} → PairPuts s qs rank at value
      → get_or (file_of (pair_after s qs) (second? (pair s) rank)).image at 0 ≡ value
  pub others : (second : Bool) → (at : ℕ) → ((rank value : ℕ) → second? (pair s) rank ≡ second → PairPuts s qs rank at value → ⊥)
      → get_or (file_of (pair_after s qs) second).image at 0 ≡ get_or (file_of (pair s) second).image at 0
  pub as_long : (second : Bool) → length (file_of (pair_after s qs) second).image ≡ length (file_of (pair s) second).image
  pub own_blocks : {rank rank' at at' value value' : ℕ} → PairPuts s qs rank at value → PairPuts s qs rank' at' value'
      → second? (pair s) rank ≡ second? (pair s) rank'
      → let blocksize = (start_of_rank s rank).plan.plan.blocksize in at / blocksize ≡ at' / blocksize → rank ≡ rank'

-- ---- each file by itself

module _ (s : PairStart) (second : Bool) where
  -- whether a rank is below mapping_size and in this file
  abbrev pub takes : ℕ → Bool
  takes r = ltb r (size (pair s)) && cond second (second? (pair s) r) (not (second? (pair s) r))

  -- the requests to this file, each to the task that carries its rank
  abbrev pub in_file : List Request → List Request
  in_file [] = []
  in_file (q ∷ qs) = cond (takes q.task) (request_of (task s q.task) q.bytes ∷ in_file qs) (in_file qs)

-- "one claim over the whole list": of the answers and of the bytes by rank; and each file is as its own requests leave it, of which the claim of a
-- single file holds
pub record PairClaim (s : PairStart) (qs : List Request) : Type 0 where
  pub answered : PairAnswered s qs
  pub placed : PairPlaced s qs
  pub files : pair_after s qs ≡ pair_of (writes s.first.state (in_file s false qs)) (writes s.second.state (in_file s true qs))
  pub first : Claim s.first (in_file s false qs)
  pub second : Claim s.second (in_file s true qs)
  -- whatever was written, and however it was answered, 17, 18 and 19 of both files pass
  pub alive : first_failing (pair_tests (pair_after s qs)) ≡ 0

-- starts whose tally is fed the same and has the same book, as have two openings with the same arguments: the same requests of a rank, in the same
-- order, get the same answers
abbrev pub PairAlike : PairStart → PairStart → Type 0
PairAlike s t =
    (qs qs' : List Request) → (rank : ℕ) → own rank (fed qs) ≡ own rank (fed qs')
    → own_answers rank (fed qs) (pair_answers s qs) ≡ own_answers rank (fed qs') (pair_answers t qs')
