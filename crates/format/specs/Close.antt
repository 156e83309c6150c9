-- Closing a session (document 01, "Closing writes META2 ..."): its tests, and what an accepted and a refused close leave. The lists and the table
-- stay as they are in either case.
use Rattle.std.specs.Prelude.{cond, List, [], ◌∷◌, ℕ, eqb, ℤ}
use Rattle.lists.specs.Below.{greatest_below}
use Rattle.lists.specs.Stores.{Store, store, applied, found}
use Rattle.format.specs.declared.head.Head.{Head}
use Rattle.format.specs.declared.session.Closed.{Closed}
use Rattle.format.specs.Refusals.{first_failing}
use Rattle.format.specs.Meta1.{last_at, last_fields}
use Rattle.format.specs.Meta2.{meta2}
use Rattle.format.specs.Record.{cell, size_of, count_of, is_big, meta2_at, end_at}
use Rattle.format.specs.Session.{State, session_tests, as_closed}

-- maxchunks: the greatest count of n tasks
unfoldable pub maxchunks_of : ℕ → List ℕ → ℕ
maxchunks_of n lists = greatest_below n (count_of lists)

-- "17, 18, 19"
unfoldable pub close_refusal : State → ℕ
close_refusal st = first_failing (session_tests st)

-- "Closing writes META2, maxchunks and start_of_varheader, changes no other byte": META2 of these counts and cells, in the head's order; "META2, then
-- maxchunks, then start_of_varheader" (W-212), of which the last two stand next to each other
abbrev pub meta2_store : Head → List ℕ → ℕ → List ℤ → Store
meta2_store h lists maxchunks table =
    store (meta2_at h (size_of lists) maxchunks) (meta2 (is_big h) h.n maxchunks (count_of lists) (cell table))

abbrev pub last_store : Head → List ℕ → ℕ → Store
last_store h lists maxchunks = store (last_at h.n) (last_fields (is_big h) maxchunks (meta2_at h (size_of lists) maxchunks))

unfoldable pub closing_stores : Head → List ℕ → ℕ → List ℤ → List Store
closing_stores h lists maxchunks table = meta2_store h lists maxchunks table ∷ last_store h lists maxchunks ∷ []

module _ (st : State) where
  -- maxchunks of this session: the chunks in use, of the task that has most
  abbrev pub maxchunks_used : ℕ
  maxchunks_used = maxchunks_of st.session.head.n st.lists

  -- "marks the session closed, and reports the container's length: the end of META2"
  unfoldable pub close_answer : Closed
  close_answer =
      cond (eqb (close_refusal st) 0)
      (record { refusal = 0; session = as_closed st.session; length = end_at st.session.head (size_of st.lists) maxchunks_used })
      (record { refusal = close_refusal st; session = st.session; length = 0 })

  unfoldable pub close_stores : List Store
  close_stores = cond (eqb (close_refusal st) 0) (closing_stores st.session.head st.lists maxchunks_used st.table) []

  unfoldable pub close_image : List ℕ
  close_image = applied st.image close_stores

  -- what is found within a budget of byte stores (W-212)
  unfoldable pub close_found : ℕ → List ℕ
  close_found budget = found budget st.image close_stores
