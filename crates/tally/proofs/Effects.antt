-- What a write leaves of a session that follows a book of the tally, where it changes nothing and where it is stored: a session that follows what
-- the tally says then, and every cell but one as it was.
use mathlib.Core.Path.{◌≡◌, refl, sym, ap, ◌∙◌, subst, fun_ext}
use mathlib.Core.Bool.{Bool, true, false, cond}
use mathlib.Core.List.{List, [], ◌∷◌}
use mathlib.Core.Logic.{⊎_elim}
use Prim.Native.Nat.{ℕ, ◌+◌, ◌*◌, ◌-◌, ◌/◌, ◌%◌, ◌≤◌, ◌<◌}
use native.Mathlib.Omega.{arith}
use lib.Arith.{digits_div, digits_mod}
use lib.Dec.{eqb}
use lib.IntN.{ℤ, pos}
use lib.ListN.{length, set, length-set}
use lib.Seq.{get_or-set_same, get_or-set_other}
use borrow.Author.Tests.{eqb-true, eqb-false}
use Rattle.format.specs.Limits.{max_tasks}
use Rattle.format.specs.Meta2.{value_index}
use Rattle.format.specs.Record.{entry, cell, ranks_of, sizes_of, counts_of, size_of, count_of, count_at, holds}
use Rattle.format.proofs.Rules.{value_index_lt}
use Rattle.format.proofs.Passing.{head_tasks, head_block, sound_agree}
use Rattle.format.proofs.Stripes.{length_counts, ranks_kept, sizes_kept, counts_set}
use Rattle.format.specs.Session.{State, with_count}
use Rattle.format.specs.Write.{Request, capacity_of, spot, write_refusal, takes_bytes, stored, after_write, writes}
use Rattle.format.proofs.Outcomes.{accepted_stores}
use Rattle.format.specs.Tally.{Tally, Tallies, count_by, outcome_in, answer_to, feed, fed_of}
use Rattle.tally.proofs.Cases.{feed_other}
use Rattle.tally.proofs.Counts.{count_begun}
use Rattle.tally.proofs.Places.{reachable_feed, stored_in, length_after}
use Rattle.tally.specs.Simulates.{CellIs, Simulates, terms_at, Own}
use Rattle.tally.proofs.Simulating.{layout_of, StepSimulates, CellsKept}

-- ---- the ranks, which no write changes

ranks_after : (st : State) (q : Request) → ranks_of (after_write st q).lists ≡ ranks_of st.lists
unfolding after_write stored
ranks_after st q = go (takes_bytes st q)
  where
    go : (b : Bool) → ranks_of (cond b (stored st q) st).lists ≡ ranks_of st.lists
    go true = ranks_kept st.lists (q.task - 1) (spot st q).chunk
    go false = refl

pub ranks_written : (qs : List Request) (st : State) → ranks_of (writes st qs).lists ≡ ranks_of st.lists
ranks_written [] st = refl
ranks_written (q ∷ qs) st = ranks_written qs (after_write st q) ∙ ranks_after st q

-- ---- one write

-- what is shown of a write
abbrev pub StepHolds : Tallies → State → Request → Type 0
StepHolds b st q =
    StepSimulates st.session (size_of st.lists) b st q × CellsKept st.session (size_of st.lists) b st q

module _ {b : Tallies} {st : State} (f : Own b st) (q : Request) where
  -- a write that changes nothing
  feed_unchanged : feed (terms_at st) b (fed_of q) q.task ≡ b q.task → feed (terms_at st) b (fed_of q) ≡ b
  feed_unchanged e = fun_ext (λ t. go t (eqb q.task t) refl)
    where
      go : (t : ℕ) (v : Bool) → eqb q.task t ≡ v → feed (terms_at st) b (fed_of q) t ≡ b t
      go t true h = subst (λ (d : ℕ). feed (terms_at st) b (fed_of q) d ≡ b d) (eqb-true q.task t h) e
      go t false h = feed_other (terms_at st) b (fed_of q) t (eqb-false _ _ h)

  pub step_unchanged : write_refusal st q ≡ answer_to (outcome_in (terms_at st) b (fed_of q)) → stored_in (terms_at st) b st.image q ≡ st.image
      → feed (terms_at st) b (fed_of q) q.task ≡ b q.task → after_write st q ≡ st → StepHolds b st q
  step_unchanged number stored_image same e = (
    record {
      number_is = number;
      image_is = ap (λ (x : State). x.image) e ∙ sym stored_image;
      follows = rw (feed_unchanged same) (subst (λ (x : State). Simulates st.session (size_of st.lists) b x) (sym e) f);
      table_as_long = ap (λ (x : State). length x.table) e;
      other_cells = λ j l. ap (λ (x : State). cell x.table j) e;
      other_entries = λ j l. ap (λ (x : State). entry x.lists j) e;
    },
    λ i k l d. ap (λ (x : State). cell x.table (value_index st.session.head.n k i)) e,
  )

  -- a write that is stored: of its task the tally says x afterwards
  module _ (x : Tally) (low : 1 ≤ q.task) (top : q.task ≤ st.session.head.n) (now : feed (terms_at st) b (fed_of q) q.task ≡ x)
      (some : 0 < x.u) (most : x.u ≤ st.session.planned) (chunk-is : (spot st q).chunk ≡ x.u)
      (sum_is_lem : (spot st q).from + length q.bytes ≡ x.w)
      (grow : (k : ℕ) (z : ℤ) → (k + 1 ≡ x.u → ⊥)
      → CellIs (capacity_of st q) (count_by st.session.head.format (b q.task)) (b q.task).w k z
      → CellIs (capacity_of st q) x.u x.w k z) where
    -- its count is then u
    count_is : count_by st.session.head.format x ≡ x.u
    count_is = count_begun st.session.head.format x some

    -- the cell that is stored
    cell_at : ℕ
    cell_at = value_index st.session.head.n (x.u - 1) (q.task - 1)

    table_is : (stored st q).table ≡ set st.table cell_at (pos x.w)
    unfolding stored cell_at
    table_is = rw (chunk-is, sum_is_lem)

    task_few : q.task - 1 < max_tasks
    task_few = omega (arith, head_tasks _ _ f.sound)

    lists_is : (stored st q).lists ≡ with_count st.lists (q.task - 1) x.u
    unfolding stored
    lists_is = rw chunk-is

    ranks_same : ranks_of (stored st q).lists ≡ ranks_of st.lists
    ranks_same = rw lists_is (ranks_kept st.lists (q.task - 1) x.u)

    sizes_same : sizes_of (stored st q).lists ≡ sizes_of st.lists
    sizes_same = rw lists_is (sizes_kept st.lists (q.task - 1) x.u task_few)

    counts_is : counts_of (stored st q).lists ≡ set (counts_of st.lists) (q.task - 1) x.u
    counts_is = rw lists_is (counts_set st.lists (q.task - 1) x.u task_few)

    cell_at_lt : cell_at < st.session.head.n * st.session.planned
    unfolding cell_at
    cell_at_lt = value_index_lt st.session.head.n st.session.planned (x.u - 1) (q.task - 1) (omega arith) (omega arith)

    other_index : (j : ℕ) → (j ≡ cell_at → ⊥) → cell (stored st q).table j ≡ cell st.table j
    other_index j d = rw table_is (get_or-set_other st.table cell_at j (pos x.w) (pos 0) d)

    other_cell : (i k : ℕ) → i < st.session.head.n → ((k ≡ x.u - 1) × (i ≡ q.task - 1) → ⊥)
        → cell (stored st q).table (value_index st.session.head.n k i) ≡ cell st.table (value_index st.session.head.n k i)
    unfolding cell_at
    other_cell i k h d =
        let n : ℕ = st.session.head.n in
        let m : q.task - 1 < n = omega arith in
        other_index (value_index n k i)
        (λ e.
        d (
          sym (digits_div k h) ∙ ap (λ (j : ℕ). j / n) e ∙ digits_div (x.u - 1) m,
          sym (digits_mod k h) ∙ ap (λ (j : ℕ). j % n) e ∙ digits_mod (x.u - 1) m,
        ))

    same_index : (i k : ℕ) → i ≡ q.task - 1 → k ≡ x.u - 1 → value_index st.session.head.n k i ≡ cell_at
    unfolding cell_at
    same_index i k e d = rw (e, d)

    last_chunk : (i k : ℕ) → i ≡ q.task - 1 → k ≡ x.u - 1 → k + 1 ≡ (feed (terms_at st) b (fed_of q) (i + 1)).u
    last_chunk i k e d =
        let task : i + 1 ≡ q.task = omega arith in
        rw (task, now) (omega arith)

    other_tally : (i : ℕ) → (i ≡ q.task - 1 → ⊥) → feed (terms_at st) b (fed_of q) (i + 1) ≡ b (i + 1)
    other_tally i d = feed_other (terms_at st) b (fed_of q) (i + 1) (λ e. d (omega arith))

    new_cells : (i k : ℕ) → i < st.session.head.n → k < st.session.planned
        → CellIs (holds st.session.head (size_of st.lists) i) (count_by st.session.head.format (feed (terms_at st) b (fed_of q) (i + 1)))
        (feed (terms_at st) b (fed_of q) (i + 1)).w k (cell (stored st q).table (value_index st.session.head.n k i))
    unfolding capacity_of
    new_cells i k h l = go (eqb i (q.task - 1)) refl (eqb (k + 1) x.u) refl
      where
        go : (v : Bool) → eqb i (q.task - 1) ≡ v → (w : Bool) → eqb (k + 1) x.u ≡ w
            → CellIs (holds st.session.head (size_of st.lists) i) (count_by st.session.head.format (feed (terms_at st) b (fed_of q) (i + 1)))
            (feed (terms_at st) b (fed_of q) (i + 1)).w k (cell (stored st q).table (value_index st.session.head.n k i))
        go false e w d = rw (other_tally i (eqb-false _ _ e), other_cell i k h (λ y. eqb-false _ _ e y.1)) (f.cells_are i k h l)
        go true e false d =
            let at : i ≡ q.task - 1 = eqb-true _ _ e in
            let task : q.task - 1 + 1 ≡ q.task = omega arith in
            let past : k + 1 ≡ x.u → ⊥ = eqb-false _ _ d in
            rw (other_cell i k h (λ y. past (omega (arith, y.0))), at, task, now, count_is)
            (grow k _ past (rw (at, task) at (f.cells_are i k h l)))
        go true e true d =
            let at : i ≡ q.task - 1 = eqb-true _ _ e in
            let task : q.task - 1 + 1 ≡ q.task = omega arith in
            let last : k + 1 ≡ x.u = eqb-true _ _ d in
            let here : value_index st.session.head.n k i ≡ cell_at = same_index i k at (omega arith) in
            let there : cell_at < length st.table = omega (arith, cell_at_lt, f.table_long) in
            rw (here, table_is, get_or-set_same st.table cell_at (pos x.w) (pos 0) there, at, task, now, count_is)
            (record { used = λ y. absurd (omega arith); last = λ _. refl; none = λ y. absurd (omega arith) })

    new_counts : (i : ℕ) → i < st.session.head.n
        → count_of (stored st q).lists i ≡ count_by st.session.head.format (feed (terms_at st) b (fed_of q) (i + 1))
    new_counts i h = go (eqb i (q.task - 1)) refl
      where
        go : (v : Bool) → eqb i (q.task - 1) ≡ v
            → count_of (stored st q).lists i ≡ count_by st.session.head.format (feed (terms_at st) b (fed_of q) (i + 1))
        go true e =
            let at : i ≡ q.task - 1 = eqb-true _ _ e in
            let task : q.task - 1 + 1 ≡ q.task = omega arith in
            rw (counts_is, at, task, now, count_is)
            (get_or-set_same (counts_of st.lists) (q.task - 1) x.u 0 (omega (arith, task_few, length_counts st.lists f.as_many)))
        go false e =
            rw (counts_is, other_tally i (eqb-false _ _ e))
            (get_or-set_other (counts_of st.lists) (q.task - 1) i x.u 0 (eqb-false _ _ e) ∙ f.counts_are i h)

    session_same : (stored st q).session ≡ st.session
    unfolding stored
    session_same = refl

    file_same : (stored st q).file ≡ st.file
    unfolding stored
    file_same = refl

    stored_simulates : length (stored st q).image ≡ length st.image
        → Simulates st.session (size_of st.lists) (feed (terms_at st) b (fed_of q)) (stored st q)
    stored_simulates long =
        record {
          session_is = session_same;
          sizes_are = ap entry sizes_same;
          file_suits = rw file_same f.file_suits;
          not_closed = f.not_closed;
          sound = sound_agree st.session.head (stored st q).lists st.lists ranks_same sizes_same ∙ f.sound;
          some = f.some;
          few = f.few;
          as_many = rw (lists_is, length-set) f.as_many;
          image_long = rw long f.image_long;
          table_long = rw (table_is, length-set) f.table_long;
          counts_are = new_counts;
          cells_are = new_cells;
          reachable = reachable_feed (terms_at st) b (fed_of q) f.reachable;
        }

    pub store : write_refusal st q ≡ 0 → answer_to (outcome_in (terms_at st) b (fed_of q)) ≡ 0 → 0 < length q.bytes
        → (stored st q).image ≡ stored_in (terms_at st) b st.image q → StepHolds b st q
    store number zero bytes image =
        let e = accepted_stores st q number bytes in
        let lo = layout_of st.session (size_of st.lists) (head_block _ _ f.sound) in
        let long : length (stored st q).image ≡ length st.image =
        ap length image ∙ length_after _ _ _ lo (q ∷ []) b st.image f.image_long f.reachable in (
          record {
            number_is = number ∙ sym zero;
            image_is = ap (λ (x : State). x.image) e ∙ image;
            follows =
                subst (λ (x : State). Simulates st.session (size_of st.lists) (feed (terms_at st) b (fed_of q)) x) (sym e)
                (stored_simulates long);
            table_as_long = ap (λ (x : State). length x.table) e ∙ rw table_is (length-set st.table cell_at (pos x.w));
            other_cells = λ j l. ap (λ (x : State). cell x.table j) e ∙ other_index j (λ z. omega (arith, cell_at_lt));
            other_entries =
                λ j l. ap (λ (x : State). entry x.lists j) e
                ∙ rw lists_is (get_or-set_other st.lists (count_at (q.task - 1)) j x.u 0 (λ z. ⊎_elim (λ y. omega arith) (λ y. omega arith) l));
          },
          λ i k l d.
              ap (λ (x : State). cell x.table (value_index st.session.head.n k i)) e
              ∙ other_cell i k l (λ y. d (omega (arith, y.1)) (last_chunk i k y.1 y.0)),
        )
