-- What an accepted request gives: a task, a chunk that is there, and bytes that fit in what the chunk has left.
use mathlib.Core.Path.{◌≡◌, refl}
use mathlib.Core.Bool.{Bool, true, false, cond, not, ◌&&◌}
use mathlib.Core.List.{[], ◌∷◌}
use Prim.Native.Nat.{◌+◌, ◌-◌, ◌≤◌, ◌<◌}
use native.Mathlib.Omega.{arith}
use lib.Dec.{ltb, leb}
use lib.ListN.{length}
use borrow.Author.Tests.{ltb-true, ltb-false, leb-true, ne_eqb, not-false}
use Rattle.endian.proofs.Signed.{within_facts}
use Rattle.format.specs.Refusals.{test}
use Rattle.format.specs.Record.{is_task}
use Rattle.format.proofs.Refusals.{both_pass, none_fails}
use Rattle.format.specs.Session.{State, session_tests}
use Rattle.format.specs.Write.{Request, Spot, begun, in_last, capacity_of, spot, request_tests, write_refusal}
use Rattle.format.specs.Passed.{Passed}
use Rattle.format.proofs.Passing.{cell_range}
use Rattle.format.proofs.Sessions.{session_passed, session_numbered}

module _ (st : State) (q : Request) where
  -- a chunk is counted from 1
  pub spot_first : 1 ≤ (spot st q).chunk
  unfolding spot
  spot_first = go (ltb 0 (begun st q)) refl (leb (length q.bytes) (capacity_of st q - in_last st q))
    where
      go : (b : Bool) → ltb 0 (begun st q) ≡ b → (d : Bool)
          → 1 ≤ (cond {A = Spot} (b && d) (record { chunk = begun st q; from = in_last st q }) (record { chunk = begun st q + 1; from = 0 })).chunk
      go true e true = ltb-true _ _ e
      go true e false = omega arith
      go false e d = omega arith

  -- a session that passed its tests, and a task of it: what the last chunk has is no more than it holds
  module _ (p : Passed st.session.head st.lists st.session.planned st.image st.table)
      (first : 1 ≤ q.task) (last : q.task ≤ st.session.head.n) where
    pub last_small : 0 < begun st q → in_last st q ≤ capacity_of st q
    unfolding in_last capacity_of begun
    last_small some = (cell_range p q.task first last (begun st q - 1) (omega arith)).2

    -- where bytes that a chunk holds go, they fit: "placed bytes fit"
    spot_fits : length q.bytes ≤ capacity_of st q → (spot st q).from + length q.bytes ≤ capacity_of st q
    unfolding spot
    spot_fits short = go (ltb 0 (begun st q)) refl (leb (length q.bytes) (capacity_of st q - in_last st q)) refl
      where
        go : (b : Bool) → ltb 0 (begun st q) ≡ b → (d : Bool) → leb (length q.bytes) (capacity_of st q - in_last st q) ≡ d
            → (cond {A = Spot} (b && d) (record { chunk = begun st q; from = in_last st q }) (record { chunk = begun st q + 1; from = 0 })).from
            + length q.bytes
            ≤ capacity_of st q
        go true e true f = omega (arith, last_small (ltb-true _ _ e), leb-true (length q.bytes) _ f)
        go true e false f = omega arith
        go false e d f = omega arith

  -- an accepted request that has bytes: a task, a chunk that is there, and bytes that fit in it
  pub stores : 0 < length q.bytes → write_refusal st q ≡ 0
      → Passed st.session.head st.lists st.session.planned st.image st.table
      × (1 ≤ q.task)
      × (q.task ≤ st.session.head.n)
      × ((spot st q).chunk ≤ st.session.planned)
      × ((spot st q).from + length q.bytes ≤ capacity_of st q)
  unfolding write_refusal request_tests
  stores some e =
      let (state, request) = both_pass (session_tests st) (request_tests st q) (session_numbered st) e in
      let (task, (long, (past, end))) =
      none_fails
      (test 14 (not (is_task st.session.head.n q.task))
      ∷ test 15 (ltb (capacity_of st q) (length q.bytes))
      ∷ test 16 (ltb st.session.planned (spot st q).chunk)
      ∷ [])
      (omega arith, (omega arith, (omega arith, tt)))
      (rw (ne_eqb (length q.bytes) 0 (λ z. omega arith)) at request) in
      let p = session_passed st state in
      let (first, last) = within_facts 1 st.session.head.n q.task (not-false _ task) in
      (p, first, last, ltb-false _ _ past, spot_fits p first last (ltb-false _ _ long))
