-- A pair of sessions (W-204), file 0's and file 1's: the tests of every call, a write by global rank, and closing. Each state is of the file that its
-- calls mean, `First` and `Second`; a file's tests, requests and stores are those of a single file.
use Rattle.std.specs.Prelude.{Bool, cond, not, ◌&&◌, List, [], ◌∷◌, ◌++◌, ℕ, ◌+◌, ltb, eqb, length}
use Rattle.lists.specs.Stores.{Store, store, applied, found}
use Rattle.format.specs.Refusals.{Test, test, first_failing}
use Rattle.format.specs.Record.{rank_of, size_of, is_big, end_at, sound_test, lent_tests}
use Rattle.format.specs.Session.{State, session_sound, as_closed}
use Rattle.format.specs.Write.{Request, request_of, request_tests, after_write, write_found}
use Rattle.format.specs.Close.{maxchunks_used, meta2_store, last_store, closing_stores}
use Rattle.pairs.specs.declared.PairClosed.{PairClosed}
use Rattle.pairs.specs.Ranks.{mapping_size, none_lacking, in_second, local_rank}
use Rattle.pairs.specs.Mapping.{mapping_length, mapping}

pub record Pair : Type 0 where
  pub first : State
  pub second : State

abbrev pub pair_of : State → State → Pair
pair_of first second = record { first = first; second = second }

-- the tests of 18 and 19 of one file
abbrev pub lent_of : State → List Test
lent_of st = lent_tests st.session.head st.lists st.session.planned st.image st.table

module _ (p : Pair) where
  -- the tasks of each file, and their ranks
  abbrev pub tasks₀ : ℕ
  tasks₀ = p.first.session.head.n

  abbrev pub tasks₁ : ℕ
  tasks₁ = p.second.session.head.n

  abbrev pub size : ℕ
  size = mapping_size tasks₀ tasks₁

  abbrev pub ranks₀ : ℕ → ℕ
  ranks₀ = rank_of p.first.lists

  abbrev pub ranks₁ : ℕ → ℕ
  ranks₁ = rank_of p.second.lists

  -- "The mapping's room counts in file 0's 18 of a session": after META2 of the planned blocks
  abbrev pub room_end : ℕ
  room_end = end_at p.first.session.head (size_of p.first.lists) p.first.session.planned + mapping_length tasks₀ tasks₁

  -- "They and closing test 17 for file 0, then for file 1", judged with file 1 whether "a pair lacks some rank below mapping_size"; "then 18, 19 for
  -- file 0, then for file 1"
  unfoldable pub pair_tests : List Test
  pair_tests =
      sound_test p.first.session.closed (session_sound p.first.file p.first.session p.first.lists)
      ∷ sound_test p.second.session.closed
      (session_sound p.second.file p.second.session p.second.lists && none_lacking tasks₀ tasks₁ ranks₀ ranks₁)
      ∷ test 18 (ltb (length p.first.image) room_end)
      ∷ (lent_of p.first ++ lent_of p.second)

  -- ---- where a rank's task is: the mapping, as the two records' ranks give it

  abbrev pub second? : ℕ → Bool
  second? r = in_second tasks₀ tasks₁ ranks₀ ranks₁ r

  abbrev pub state_of_rank : ℕ → State
  state_of_rank r = cond (second? r) p.second p.first

  -- its task there, counted from 1
  abbrev pub task_of_rank : ℕ → ℕ
  task_of_rank r = local_rank tasks₀ tasks₁ ranks₀ ranks₁ r + 1

  -- the pair with another state for that file
  abbrev pub with_state : ℕ → State → Pair
  with_state r st = cond (second? r) (pair_of p.first st) (pair_of st p.second)

-- ---- a write: what a request calls its task is here a global rank

module _ (p : Pair) (q : Request) where
  -- the request to the file that has the rank
  abbrev pub file_request : Request
  file_request = request_of (task_of_rank p q.task) q.bytes

  -- "then 14 comes if the rank is not below mapping_size"; what follows is the request's, of that file
  unfoldable pub pair_write_refusal : ℕ
  pair_write_refusal =
      first_failing
      (pair_tests p ++ (test 14 (not (ltb q.task (size p))) ∷ request_tests (state_of_rank p q.task) file_request))

  unfoldable pub pair_after_write : Pair
  pair_after_write = cond (eqb pair_write_refusal 0) (with_state p q.task (after_write (state_of_rank p q.task) file_request)) p

  -- within a budget of byte stores for each image
  unfoldable pub pair_write_found : ℕ → ℕ → Pair
  pair_write_found b b' =
      cond (eqb pair_write_refusal 0)
      (with_state p q.task (write_found (state_of_rank p q.task) file_request (cond (second? p q.task) b' b))) p

-- a list of writes, each to what the last one left: the pair in the end, and the answers in order
abbrev pub pair_writes : Pair → List Request → Pair
pair_writes p [] = p
pair_writes p (q ∷ qs) = pair_writes (pair_after_write p q) qs

abbrev pub pair_refusals : Pair → List Request → List ℕ
pair_refusals p [] = []
pair_refusals p (q ∷ qs) = pair_write_refusal p q ∷ pair_refusals (pair_after_write p q) qs

-- ---- closing

module _ (p : Pair) where
  unfoldable pub pair_close_refusal : ℕ
  pair_close_refusal = first_failing (pair_tests p)

  -- the end of META2 of each file
  abbrev pub end₀ : ℕ
  end₀ = end_at p.first.session.head (size_of p.first.lists) (maxchunks_used p.first)

  abbrev pub end₁ : ℕ
  end₁ = end_at p.second.session.head (size_of p.second.lists) (maxchunks_used p.second)

  -- "closing writes it, and file 0's length ends with it"
  unfoldable pub pair_closed : PairClosed
  pair_closed =
      cond (eqb pair_close_refusal 0)
      (record {
        refusal = 0;
        session0 = as_closed p.first.session;
        session1 = as_closed p.second.session;
        length0 = end₀ + mapping_length (tasks₀ p) (tasks₁ p);
        length1 = end₁;
      })
      (record { refusal = pair_close_refusal; session0 = p.first.session; session1 = p.second.session; length0 = 0; length1 = 0 })

  -- "After META2 of file 0 stands the mapping", which goes with META2, before maxchunks, in file 0's byte order
  unfoldable pub mapping_store : Store
  mapping_store = store end₀ (mapping (tasks₀ p) (tasks₁ p) (ranks₀ p) (ranks₁ p) (is_big p.first.session.head))

  unfoldable pub first_stores : List Store
  first_stores =
      let m = maxchunks_used p.first in
      meta2_store p.first.session.head p.first.lists m p.first.table
      ∷ mapping_store
      ∷ last_store p.first.session.head p.first.lists m
      ∷ []

  unfoldable pub second_stores : List Store
  second_stores = closing_stores p.second.session.head p.second.lists (maxchunks_used p.second) p.second.table

  -- what is left of each image, within a budget of byte stores for each and with all of them
  unfoldable pub pair_close_found : ℕ → ℕ → List ℕ × List ℕ
  pair_close_found b b' =
      cond (eqb pair_close_refusal 0) (found b p.first.image first_stores, found b' p.second.image second_stores)
      (p.first.image, p.second.image)

  unfoldable pub pair_close_images : List ℕ × List ℕ
  pair_close_images =
      cond (eqb pair_close_refusal 0) (applied p.first.image first_stores, applied p.second.image second_stores)
      (p.first.image, p.second.image)
