-- A session that follows a book of the tally passes its tests, and each write and each list of writes does to it what the tally does, by the
-- tally's six cases.
use mathlib.Core.Path.{◌≡◌, refl, sym, ap, ap₂, ◌∙◌, subst}
use mathlib.Core.Bool.{Bool, true, false}
use mathlib.Core.List.{List, [], ◌∷◌}
use Prim.Native.Nat.{ℕ, ◌+◌, ◌-◌, ◌≤◌, ◌<◌}
use native.Mathlib.Nat.{add-zero}
use native.Mathlib.Omega.{arith}
use lib.Dec.{eqb}
use lib.IntN.{ℤ, pos}
use lib.ListN.{length}
use borrow.Author.Tests.{eqb-true, eqb-false, lt-ltb, le-ltb, le-leb, lt-leb}
use Rattle.endian.specs.Signed.{natural}
use Rattle.endian.proofs.Signed.{within_facts, within_holds}
use Rattle.format.specs.Refusals.{first_failing}
use Rattle.format.specs.Record.{size_of, cells_agree, is_task}
use Rattle.format.proofs.Rules.{values_hold}
use Rattle.format.specs.declared.session.Session.{Session}
use Rattle.format.specs.Session.{State, session_tests}
use Rattle.format.specs.Write.{Request, Spot, begun, in_last, capacity_of, spot, target, write_refusal, stored, writes}
use Rattle.format.proofs.Passing.{head_block}
use Rattle.format.proofs.Sessions.{session_passes}
use Rattle.format.proofs.Answers.{answer_no_task, answer_empty, answer_long, answer_chunk}
use Rattle.format.proofs.Outcomes.{refused_keeps, empty_keeps}
use Rattle.format.specs.Tally.{Tallies, count_by, outcome_in, answer_to, afterwards, feed, fed_of, Outcome, refused, empty, stays, moves}
use Rattle.tally.proofs.Cases.{View, is_refused, is_empty, is_stays, is_moves, no_task, too_long, no_room, view, feed_same}
use Rattle.tally.proofs.Counts.{count_begun, count_over, count_least, count_next, count_most}
use Rattle.tally.proofs.Places.{image_after, length_after}
use Rattle.tally.specs.Simulates.{terms_in, CellIs, Simulates, terms_at, Own}
use Rattle.tally.proofs.Simulating.{layout_of, used_fits, StepSimulates, RunSimulates, CellsKept}
use Rattle.tally.proofs.Effects.{StepHolds, step_unchanged, store}

module _ {b : Tallies} {st : State} (f : Own b st) where
  own_passes : first_failing (session_tests st) ≡ 0
  unfolding cells_agree
  own_passes =
      session_passes st f.file_suits f.not_closed f.some (record {
        head = f.sound;
        few = f.few;
        counts = λ i l. rw (f.counts_are i l) (count_least _ _, count_most _ _ f.some (f.reachable (i + 1)).1.most);
        image_long = f.image_long;
        table_long = f.table_long;
        agree =
            values_hold _ _ _ _ _
            (λ i k l m u. used_fits f i k l (omega (arith, f.counts_are i l)))
            (λ i k l u m. (f.cells_are i k l m).none (omega (arith, f.counts_are i l)));
      })

  -- ---- one write

  module _ (q : Request) where
    -- the chunks in use, by the tally
    abbrev count : ℕ
    count = count_by st.session.head.format (b q.task)

    last_room : (b q.task).w ≤ capacity_of st q
    unfolding capacity_of
    last_room = (f.reachable q.task).1.last

    -- of a task that there is, the count and the last cell are the tally's
    module _ (low : 1 ≤ q.task) (top : q.task ≤ st.session.head.n) where
      back : q.task - 1 + 1 ≡ q.task
      back = omega arith

      begun_is : begun st q ≡ count
      unfolding begun
      begun_is = rw back at (f.counts_are (q.task - 1) (omega arith))

      last_is : 0 < count → in_last st q ≡ (b q.task).w
      unfolding in_last
      last_is k =
          let e = begun_is in
          let most = count_most st.session.head.format (b q.task) f.some (f.reachable q.task).1.most in
          let c = f.cells_are (q.task - 1) (begun st q - 1) (omega arith) (omega arith) in
          ap natural ((rw back at c).last (omega arith))

      -- a chunk is in use, and the bytes fit in what is left of it
      spot_here : 0 < count → (b q.task).w + length q.bytes ≤ capacity_of st q → spot st q ≡ record { chunk = count; from = (b q.task).w }
      unfolding spot
      spot_here k fits =
          rw (begun_is, last_is k, lt-ltb 0 count k, le-leb (length q.bytes) (capacity_of st q - (b q.task).w) (omega arith))

      spot_stays : 0 < (b q.task).u → (b q.task).w + length q.bytes ≤ capacity_of st q
          → spot st q ≡ record { chunk = (b q.task).u; from = (b q.task).w }
      spot_stays k fits =
          let e = count_begun st.session.head.format (b q.task) k in
          spot_here (omega arith) fits ∙ ap (λ (n : ℕ). record { chunk = n; from = (b q.task).w }) e

      -- a chunk is in use, and they do not fit; and none is
      spot_next : 0 < count → capacity_of st q < (b q.task).w + length q.bytes → spot st q ≡ record { chunk = count + 1; from = 0 }
      unfolding spot
      spot_next k more =
          rw (begun_is, last_is k, lt-ltb 0 count k, lt-leb (length q.bytes) (capacity_of st q - (b q.task).w) (omega (arith, last_room)))

      spot_first : count ≡ 0 → spot st q ≡ record { chunk = 1; from = 0 }
      unfolding spot
      spot_first e = rw (begun_is ∙ e)

      -- where no chunk is begun, the bytes go to the first one, be it in use already or not
      spot_fresh : (b q.task).u ≡ 0 → length q.bytes ≤ capacity_of st q → spot st q ≡ record { chunk = 1; from = 0 }
      spot_fresh none fits = go (eqb count 0) refl
        where
          go : (v : Bool) → eqb count 0 ≡ v → spot st q ≡ record { chunk = 1; from = 0 }
          go true e = spot_first (eqb-true _ _ e)
          go false e =
              let some : 0 < count = omega (arith, eqb-false) in
              let one : count ≡ 1 = omega (arith, count_next st.session.head.format (b q.task)) in
              let empty : (b q.task).w ≡ 0 = ((f.reachable q.task).1.fresh none).1 in
              spot_here some (omega arith) ∙ ap₂ (λ (n w : ℕ). record { chunk = n; from = w }) one empty

      spot_moves : length q.bytes ≤ capacity_of st q → (0 < (b q.task).u → capacity_of st q < (b q.task).w + length q.bytes)
          → spot st q ≡ record { chunk = (b q.task).u + 1; from = 0 }
      spot_moves fits more = go (eqb (b q.task).u 0) refl
        where
          go : (v : Bool) → eqb (b q.task).u 0 ≡ v → spot st q ≡ record { chunk = (b q.task).u + 1; from = 0 }
          go true e =
              let none : (b q.task).u ≡ 0 = eqb-true _ _ e in
              spot_fresh none fits ∙ ap (λ (n : ℕ). record { chunk = n + 1; from = 0 }) (sym none)
          go false e =
              let some : 0 < (b q.task).u = omega (arith, eqb-false) in
              let same = count_begun st.session.head.format (b q.task) some in
              spot_next (omega arith) (more some) ∙ ap (λ (n : ℕ). record { chunk = n + 1; from = 0 }) same

      is_task_there : is_task st.session.head.n q.task ≡ true
      is_task_there = within_holds 1 st.session.head.n q.task low top

      -- a request that has bytes and is not too long
      module _ (some : 0 < length q.bytes) (short : length q.bytes ≤ capacity_of st q) where
        no_chunk : st.session.planned < (spot st q).chunk → write_refusal st q ≡ 16
        no_chunk l = answer_chunk st q own_passes is_task_there some short ∙ rw (lt-ltb st.session.planned (spot st q).chunk l)

        chunk_there : (spot st q).chunk ≤ st.session.planned → write_refusal st q ≡ 0
        chunk_there l = answer_chunk st q own_passes is_task_there some short ∙ rw (le-ltb st.session.planned (spot st q).chunk l)

    -- a number that names a task
    range : is_task st.session.head.n q.task ≡ true → (1 ≤ q.task) × (q.task ≤ st.session.head.n)
    range e = within_facts 1 st.session.head.n q.task e

    -- what was the last chunk's cell is a used chunk's cell after the next chunk has begun
    used_before : (k : ℕ) (z : ℤ) → CellIs (capacity_of st q) count (b q.task).w k z
        → k + 1 < (b q.task).u + 1 → (v : Bool) → eqb (k + 1) count ≡ v → (v : ℕ) × (z ≡ pos v) × (v ≤ capacity_of st q)
    used_before k z c l true e = ((b q.task).w, c.last (eqb-true _ _ e), last_room)
    used_before k z c l false e = c.used (omega (arith, eqb-false, count_over st.session.head.format (b q.task)))

    own_step : StepHolds b st q
    unfolding capacity_of stored target
    own_step = go refl (view (terms_at st) (fed_of q) (b q.task))
      where
        now : (z : Outcome) → outcome_in (terms_at st) b (fed_of q) ≡ z
            → feed (terms_at st) b (fed_of q) q.task ≡ afterwards z (length q.bytes) (b q.task)
        now z e =
            feed_same (terms_at st) b (fed_of q) q.task refl ∙ ap (λ (z : Outcome). afterwards z (length q.bytes) (b q.task)) e

        stays_so : {number : ℕ} → outcome_in (terms_at st) b (fed_of q) ≡ refused number → 0 < number → write_refusal st q ≡ number
            → StepHolds b st q
        stays_so e some number =
            step_unchanged f q (number ∙ sym (ap answer_to e)) (rw e) (now (refused _) e) (refused_keeps st q (rw number some))

        go : {z : Outcome} → outcome_in (terms_at st) b (fed_of q) ≡ z → View (terms_at st) (fed_of q) (b q.task) z → StepHolds b st q
        go e (is_refused (no_task out)) = stays_so e (omega arith) (answer_no_task st q own_passes out)
        go e (is_refused (too_long known some long)) = stays_so e (omega arith) (answer_long st q own_passes known long)
        go e (is_refused (no_room known some fits k more)) =
            let (l, h) = range known in
            let c : (spot st q).chunk ≡ (b q.task).u + 1 = ap (λ (x : Spot). x.chunk) (spot_moves l h fits more) in
            stays_so e (omega arith) (no_chunk l h some fits (omega arith))
        go e (is_empty known none) =
            step_unchanged f q (answer_empty st q own_passes known none ∙ sym (ap answer_to e)) (rw e) (now empty e) (empty_keeps st q none)
        go e (is_stays known some k fits) =
            let (l, h) = range known in
            let at = spot_stays l h k fits in
            let c : (spot st q).chunk ≡ (b q.task).u = ap (λ (x : Spot). x.chunk) at in
            let d : (spot st q).from ≡ (b q.task).w = ap (λ (x : Spot). x.from) at in
            let most : (b q.task).u ≤ st.session.planned = (f.reachable q.task).1.most in
            store f q (record { u = (b q.task).u; w = (b q.task).w + length q.bytes }) l h (now stays e) k most c (omega arith)
            (λ j z n x.
            let same = count_begun st.session.head.format (b q.task) k in
            record { used = λ y. x.used (omega arith); last = λ y. absurd (n y); none = λ y. x.none (omega arith) })
            (chunk_there l h some (omega arith) (omega arith)) (ap answer_to e) some (rw (e, c, d))
        go e (is_moves known some fits k more) =
            let (l, h) = range known in
            let at = spot_moves l h fits more in
            let c : (spot st q).chunk ≡ (b q.task).u + 1 = ap (λ (x : Spot). x.chunk) at in
            let d : (spot st q).from ≡ 0 = ap (λ (x : Spot). x.from) at in
            store f q (record { u = (b q.task).u + 1; w = length q.bytes }) l h (now moves e) (omega arith) (omega arith) c (omega arith)
            (λ j z n x.
            record {
              used = λ y. used_before j z x y (eqb (j + 1) count) refl;
              last = λ y. absurd (n y);
              none = λ y. x.none (omega (arith, count_next st.session.head.format (b q.task)));
            })
            (chunk_there l h some fits (omega arith)) (ap answer_to e) some (rw (e, c, d, add-zero))

-- ---- for any numbers and sizes that are the state's

-- what is said of its own numbers and sizes is said of those given
own_as : (st : State) {s : Session} {size : ℕ → ℕ} (P : Session → (ℕ → ℕ) → Type 0) → st.session ≡ s → size_of st.lists ≡ size
    → P st.session (size_of st.lists) → P s size
own_as st {size = size} P e d x = subst (λ (s : Session). P s size) e (subst (λ (f : ℕ → ℕ). P st.session f) d x)

as_own : (st : State) {s : Session} {size : ℕ → ℕ} (P : Session → (ℕ → ℕ) → Type 0) → st.session ≡ s → size_of st.lists ≡ size
    → P s size → P st.session (size_of st.lists)
as_own st {size = size} P e d x =
    subst (λ (f : ℕ → ℕ). P st.session f) (sym d) (subst (λ (s : Session). P s size) (sym e) x)

module _ {s : Session} {size : ℕ → ℕ} where
  module _ {b : Tallies} {st : State} (f : Simulates s size b st) where
    own : Own b st
    own = as_own st (λ s size. Simulates s size b st) f.session_is f.sizes_are f

    -- what keeps a session alive
    pub passes : first_failing (session_tests st) ≡ 0
    passes = own_passes own

    pub step_simulates : (q : Request) → StepSimulates s size b st q
    step_simulates q = own_as st (λ s size. StepSimulates s size b st q) f.session_is f.sizes_are (own_step own q).0

    pub cells_kept : (q : Request) → CellsKept s size b st q
    cells_kept q = own_as st (λ s size. CellsKept s size b st q) f.session_is f.sizes_are (own_step own q).1

  pub run_simulates : {b : Tallies} {st : State} → Simulates s size b st → (qs : List Request) → RunSimulates s size b st qs
  run_simulates f [] = record {
    numbers_are = refl;
    image_is = refl;
    follows = f;
    table_as_long = refl;
    other_cells = λ j l. refl;
    other_entries = λ j l. refl;
  }
  run_simulates {b = b} f (q ∷ qs) =
      let t = step_simulates f q in
      let r = run_simulates {b = feed (terms_in s size) b (fed_of q)} t.follows qs in
      record {
        numbers_are = ap₂ ◌∷◌ t.number_is r.numbers_are;
        image_is = r.image_is ∙ ap (λ (m : List ℕ). image_after (terms_in s size) (feed (terms_in s size) b (fed_of q)) m qs) t.image_is;
        follows = r.follows;
        table_as_long = r.table_as_long ∙ t.table_as_long;
        other_cells = λ j l. r.other_cells j l ∙ t.other_cells j l;
        other_entries = λ j l. r.other_entries j l ∙ t.other_entries j l;
      }

  -- the image keeps its length
  pub image_as_long : {b : Tallies} {st : State} → Simulates s size b st → (qs : List Request) → length (writes st qs).image ≡ length st.image
  image_as_long {b} {st} f qs =
      ap length (run_simulates f qs).image_is
      ∙ length_after _ _ _ (layout_of s size (head_block _ _ f.sound)) qs b st.image f.image_long f.reachable
