-- Tests 17, 18 and 19 of a pair answer their numbers exactly where a record breaks a fact or a rank is lacking, where a file is lent too little, and
-- where it has a cell against META2's rule.
use mathlib.Core.Path.{◌≡◌, refl, sym}
use mathlib.Core.Bool.{Bool, true, false, cond, not, ◌&&◌, ◌||◌, false≢true}
use mathlib.Core.List.{List, ◌++◌}
use mathlib.Core.Logic.{◌⊎◌, inl, inr, ⊎_elim}
use Prim.Native.Nat.{ℕ, ◌+◌, ◌*◌, ◌≤◌, ◌<◌}
use native.Mathlib.Omega.{arith}
use lib.Dec.{ltb, eqb}
use lib.ListN.{length}
use borrow.Author.Tests.{ltb-false, le-ltb}
use Rattle.lists.specs.Logic.{Exactly}
use Rattle.lists.proofs.Below.{and_left, and_right, or_left, or_right, or_both, all_of}
use Rattle.format.specs.Refusals.{Test, first_failing}
use Rattle.format.specs.Layout.{meta2_start, meta2_length, meta2_end}
use Rattle.format.specs.Record.{rank_of, size_of, end_at, too_short}
use Rattle.format.specs.Session.{session_sound}
use Rattle.format.specs.Loaded.{loaded_sound}
use Rattle.format.specs.Accepted.{LongEnough, bytes_for}
use Rattle.format.proofs.Refusals.{Each, either_fails}
use Rattle.format.proofs.Judging.{Other, other_tests, mark_test, mark_passes, long_exactly, cells_exactly, session_exactly, loaded_exactly}
use Rattle.pairs.specs.Ranks.{comes, none_lacking, in_second, local_rank}
use Rattle.pairs.specs.Mapping.{mapping_length}
use Rattle.pairs.specs.Sessions.{Pair, room_end, pair_tests}
use Rattle.pairs.specs.Reads.{LoadedPair, loaded_pair_tests}
use Rattle.pairs.proofs.Ranks.{carried, comes_there}
use Rattle.pair.specs.Refusing.{PairJudged, AllThere, PairSessionJudged, PairLoadedJudged}

-- ---- an answer by both files' tests and what follows them

module _ {S L A L' A' : Type 0} where
  pair_judged : (s l a l' a' : Bool) (rest : ℕ) → Exactly (s ≡ false) S → Exactly (l ≡ false) L → Exactly (a ≡ false) A
      → Exactly (l' ≡ false) L' → Exactly (a' ≡ false) A' → Other rest
      → PairJudged S L A L' A' (cond s 17 (cond l 18 (cond a 19 (cond l' 18 (cond a' 19 rest)))))
  pair_judged true l a l' a' rest S? L? A? L'? A'? other = record {
    number_17 = (λ _ ok. false≢true (sym (S?.1 ok)), λ _. refl);
    number_18 = (λ e. absurd (omega arith), λ p. absurd (false≢true (sym (S?.1 p.0))));
    number_19 = (λ e. absurd (omega arith), λ p. absurd (false≢true (sym (S?.1 p.0))));
  }
  pair_judged false true a l' a' rest S? L? A? L'? A'? other = record {
    number_17 = (λ e. absurd (omega arith), λ no. absurd (no (S?.0 refl)));
    number_18 = (λ _. (S?.0 refl, inl (λ ok. false≢true (sym (L?.1 ok)))), λ _. refl);
    number_19 = (λ e. absurd (omega arith), λ p. absurd (false≢true (sym (L?.1 p.1))));
  }
  pair_judged false false true l' a' rest S? L? A? L'? A'? other = record {
    number_17 = (λ e. absurd (omega arith), λ no. absurd (no (S?.0 refl)));
    number_18 = (
      λ e. absurd (omega arith),
      λ p. absurd (⊎_elim (λ no. no (L?.0 refl)) (λ x. false≢true (sym (A?.1 x.1))) p.1),
    );
    number_19 = (λ _. (S?.0 refl, L?.0 refl, inl (λ ok. false≢true (sym (A?.1 ok)))), λ _. refl);
  }
  pair_judged false false false true a' rest S? L? A? L'? A'? other = record {
    number_17 = (λ e. absurd (omega arith), λ no. absurd (no (S?.0 refl)));
    number_18 = (λ _. (S?.0 refl, inr (L?.0 refl, A?.0 refl, λ ok. false≢true (sym (L'?.1 ok)))), λ _. refl);
    number_19 = (
      λ e. absurd (omega arith),
      λ p. absurd (⊎_elim (λ no. no (A?.0 refl)) (λ x. false≢true (sym (L'?.1 x.1))) p.2),
    );
  }
  pair_judged false false false false true rest S? L? A? L'? A'? other = record {
    number_17 = (λ e. absurd (omega arith), λ no. absurd (no (S?.0 refl)));
    number_18 = (λ e. absurd (omega arith), λ p. absurd (⊎_elim (λ no. no (L?.0 refl)) (λ x. x.2 (L'?.0 refl)) p.1));
    number_19 = (λ _. (S?.0 refl, L?.0 refl, inr (A?.0 refl, L'?.0 refl, λ ok. false≢true (sym (A'?.1 ok)))), λ _. refl);
  }
  pair_judged false false false false false rest S? L? A? L'? A'? other = record {
    number_17 = (λ e. absurd (other.0 e), λ no. absurd (no (S?.0 refl)));
    number_18 = (λ e. absurd (other.1 e), λ p. absurd (⊎_elim (λ no. no (L?.0 refl)) (λ x. x.2 (L'?.0 refl)) p.1));
    number_19 = (λ e. absurd (other.2 e), λ p. absurd (⊎_elim (λ no. no (A?.0 refl)) (λ x. x.2 (A'?.0 refl)) p.2));
  }

-- no rank is lacking, as a test
there_exactly : (n m : ℕ) (lists lists' : List ℕ) → Exactly (none_lacking n m (rank_of lists) (rank_of lists') ≡ true) (AllThere n lists m lists')
unfolding none_lacking
there_exactly n m lists lists' = (
  λ none r l. held r (in_second n m rank rank' r) (carried n m rank rank' none r l),
  λ there. all_of _ (n + m) (λ r l. some r (there r l)),
)
  where
    rank : ℕ → ℕ
    rank = rank_of lists

    rank' : ℕ → ℕ
    rank' = rank_of lists'

    Carrier : ℕ → Type 0
    Carrier r = ((i : ℕ) × (i < n) × (rank i ≡ r)) ⊎ ((i : ℕ) × (i < m) × (rank' i ≡ r))

    held : (r : ℕ) (second : Bool) → (local_rank n m rank rank' r < cond second m n) × (cond second rank' rank (local_rank n m rank rank' r) ≡ r)
        → Carrier r
    held r true (l, e) = inr (local_rank n m rank rank' r, l, e)
    held r false (l, e) = inl (local_rank n m rank rank' r, l, e)

    some : (r : ℕ) → Carrier r → ltb 0 (comes n m rank rank' r) ≡ true
    some r (inl (i, l, e)) = comes_there n m rank rank' false r i l e
    some r (inr (i, l, e)) = comes_there n m rank rank' true r i l e

-- 17 of both files: file 1's is judged with the ranks of both
sound_exactly : {S S' : Type 0} (closed closed' : ℕ) (sound sound' : Bool) (n m : ℕ) (lists lists' : List ℕ)
    → Exactly ((not (eqb closed 0) || not sound) ≡ false) S → Exactly ((not (eqb closed' 0) || not sound') ≡ false) S'
    → Exactly
    (((not (eqb closed 0) || not sound) || (not (eqb closed' 0) || not (sound' && none_lacking n m (rank_of lists) (rank_of lists')))) ≡ false)
    (S × S' × AllThere n lists m lists')
sound_exactly closed closed' sound sound' n m lists lists' own own' =
    let none = none_lacking n m (rank_of lists) (rank_of lists') in (
      λ e.
          let (unclosed, both) = mark_test closed' (sound' && none) (or_right (not (eqb closed 0) || not sound) _ e) in (
            own.0 (or_left (not (eqb closed 0) || not sound) _ e),
            own'.0 (mark_passes closed' sound' unclosed (and_left sound' none both)),
            (there_exactly n m lists lists').0 (and_right sound' none both),
          ),
      λ (good, good', there).
          let (unclosed, kept) = mark_test closed' sound' (own'.1 good') in
          or_both (own.1 good) (mark_passes closed' (sound' && none) unclosed (rw (kept, (there_exactly n m lists lists').1 there))),
    )

pub pair_loaded_judged : (p : LoadedPair) (rest : List Test) → Each (λ t. Other t.number) rest
    → PairLoadedJudged p (first_failing (loaded_pair_tests p ++ rest))
unfolding loaded_pair_tests first_failing
pair_loaded_judged p rest each =
    let c = p.first in
    let c' = p.second in
    rw either_fails
    (pair_judged _ _ _ _ _ _
    (sound_exactly c.loaded.closed c'.loaded.closed (loaded_sound c.file c.loaded c.lists)
    (loaded_sound c'.file c'.loaded c'.lists) _ _ c.lists c'.lists (loaded_exactly c.file c.loaded c.lists)
    (loaded_exactly c'.file c'.loaded c'.lists))
    (long_exactly c.loaded.head c.lists c.loaded.maxchunks c.image c.table)
    (cells_exactly c.loaded.head c.lists c.loaded.maxchunks c.image c.table)
    (long_exactly c'.loaded.head c'.lists c'.loaded.maxchunks c'.image c'.table)
    (cells_exactly c'.loaded.head c'.lists c'.loaded.maxchunks c'.image c'.table)
    (other_tests rest each))

-- 18 of file 0 of a session, with the mapping's room
room_exactly : (p : Pair)
    → let st = p.first in
    let h = st.session.head in
    let size = size_of st.lists in
    let planned = st.session.planned in
    Exactly
    ((ltb (length st.image) (room_end p) || too_short h.blocksize h.n size planned (length st.image) (length st.table)) ≡ false)
    (LongEnough h.blocksize h.n size planned st.image st.table
    × (bytes_for h.blocksize h.n size planned + (4 + 8 * (h.n + p.second.session.head.n)) ≤ length st.image))
unfolding end_at meta2_end meta2_start meta2_length mapping_length
room_exactly p =
    let st = p.first in
    let own = long_exactly st.session.head st.lists st.session.planned st.image st.table in (
      λ e. (own.0 (or_right (ltb (length st.image) (room_end p)) _ e), ltb-false _ _ (or_left (ltb (length st.image) (room_end p)) _ e)),
      λ (long, room). or_both (le-ltb (length st.image) (room_end p) room) (own.1 long),
    )

pub pair_session_judged : (p : Pair) (rest : List Test) → Each (λ t. Other t.number) rest
    → PairSessionJudged p (first_failing (pair_tests p ++ rest))
unfolding pair_tests first_failing
pair_session_judged p rest each =
    let st = p.first in
    let st' = p.second in
    rw (either_fails, either_fails)
    (pair_judged _ _ _ _ _ _
    (sound_exactly st.session.closed st'.session.closed (session_sound st.file st.session st.lists)
    (session_sound st'.file st'.session st'.lists) _ _ st.lists st'.lists (session_exactly st.file st.session st.lists)
    (session_exactly st'.file st'.session st'.lists))
    (room_exactly p)
    (cells_exactly st.session.head st.lists st.session.planned st.image st.table)
    (long_exactly st'.session.head st'.lists st'.session.planned st'.image st'.table)
    (cells_exactly st'.session.head st'.lists st'.session.planned st'.image st'.table)
    (other_tests rest each))
