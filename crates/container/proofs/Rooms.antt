-- Demand 3: from every start, a task can count on its room, over every list of writes.
use mathlib.Core.Path.{◌≡◌, refl, sym, ap, ap₂, subst, ◌∙◌}
use mathlib.Core.List.{List, [], ◌∷◌, ◌++◌}
use Prim.Native.Nat.{ℕ, ◌+◌, ◌-◌, ◌*◌, ◌≤◌, ◌<◌}
use native.Mathlib.Omega.{arith}
use lib.ListN.{length, get_or}
use Rattle.format.specs.Layout.{meta2_end}
use Rattle.format.specs.Meta2.{value_index}
use Rattle.format.specs.Record.{entry, cell, end_at}
use Rattle.format.specs.Open.{Opening, tasks, open_head, open_session}
use Rattle.format.specs.Write.{Request, write_refusal, after_write}
use Rattle.format.specs.Tally.{Terms, Tallies, terms_of, fed_of, fed, answers, outcome_in, answer_to, feed, feed_all, held, Fed, PlacedAt}
use Rattle.tally.proofs.Share.{ShareInvariant, reachable_all, share_all, refused_full, at_most, alone}
use Rattle.tally.proofs.Places.{Layout, image_after, length_after, placed, others, same_after, own_blocks}
use Rattle.tally.proofs.Counts.{count_begun, count_most}
use Rattle.tally.specs.Simulates.{Reachable, AllReachable, terms_in, Simulates}
use Rattle.tally.proofs.Simulating.{RunSimulates}
use Rattle.tally.proofs.Steps.{cells_kept, run_simulates, step_simulates, passes}
use Rattle.tally.proofs.Middle.{answer_at, held_before, after_last, feed_last}
use Rattle.tally.proofs.Opened.{terms_are, planned_layout}
use Rattle.container.specs.Start.{Start, IsStart, after, answers_to, book_after, count_after}
use Rattle.container.specs.Room.{Answers, Placed, Kept, Claim, Alike}
use Rattle.container.specs.Versions.{in_format, SameWrites}
use Rattle.format.proofs.InBounds.{block_kept}

module _ (s : Start) (is : IsStart s) where
  abbrev o : Opening
  o = s.plan

  abbrev size : ℕ → ℕ
  size = entry o.sizes

  -- the tally is fed the same of the record and of the plan
  same : terms_in (open_session o) size ≡ terms_of o
  same = sym (terms_are o)

  layout : Layout o.plan.blocksize (end_at (open_head o) size o.plan.planned) (terms_of o)
  layout = planned_layout o (block_kept is.good.bounds)

  all_reachable : AllReachable (terms_of o) s.book
  all_reachable task = (_, is.reachable task)

  module _ (qs : List Request) where
    run : RunSimulates (open_session o) size s.book s.state qs
    run = run_simulates is.follows qs

    as_tally : answers_to s qs ≡ answers (terms_of o) s.book (fed qs)
    as_tally = run.numbers_are ∙ ap (λ (p : Terms). answers p s.book (fed qs)) same

    -- what a task holds, and what it was given since the start, by its tally
    reached : (task : ℕ)
        → Reachable o.plan.planned ((terms_of o).c task) (book_after s qs task) (length (s.bytes task) + held task (fed qs) (answers_to s qs))
    reached task = rw as_tally (reachable_all (terms_of o) task (fed qs) s.book (length (s.bytes task)) (is.reachable task))

    shared : (task : ℕ)
        → ShareInvariant ((terms_of o).c task) (s.book task).u (book_after s qs task) (held task (fed qs) (answers_to s qs))
    shared task = rw as_tally (share_all (terms_of o) task (fed qs) s.book (is.reachable task).last)

    last : Simulates (open_session o) size (book_after s qs) (after s qs)
    last = rw same at run.follows

    next_number : (q : Request) → write_refusal (after s qs) q ≡ answer_to (outcome_in (terms_of o) (book_after s qs) (fed_of q))
    next_number q =
        (step_simulates run.follows q).number_is
        ∙ ap (λ (p : Terms). answer_to (outcome_in p (feed_all p s.book (fed qs)) (fed_of q))) same

    next_cells : (q : Request) → (i k : ℕ) → i < tasks o
        → (q.task ≡ i + 1 → k + 1 ≡ (feed (terms_of o) (book_after s qs) (fed_of q) (i + 1)).u → ⊥)
        → cell (after_write (after s qs) q).table (value_index (tasks o) k i) ≡ cell (after s qs).table (value_index (tasks o) k i)
    unfolding open_session open_head
    next_cells q i k l d =
        cells_kept last q i k l (λ e u. d e (u ∙ ap (λ (p : Terms). (feed p (book_after s qs) (fed_of q) (i + 1)).u) same))

    -- a byte that the tally puts nowhere for the next request is as it was
    pub next_others : (q : Request) → (at : ℕ) → ((task value : ℕ) → PlacedAt (terms_of o) task at value (book_after s qs) (q ∷ []) → ⊥)
        → get_or (after_write (after s qs) q).image at 0 ≡ get_or (after s qs).image at 0
    unfolding open_session open_head
    next_others q at none =
        ap (λ (l : List ℕ). get_or l at 0)
        ((step_simulates last q).image_is ∙ ap (λ (p : Terms). image_after p (book_after s qs) (after s qs).image (q ∷ [])) same)
        ∙ others _ _ (terms_of o) layout (q ∷ []) (book_after s qs) (after s qs).image at last.image_long (subst (λ (p : Terms). AllReachable p (book_after s qs)) same last.reachable) none

  -- ---- a request in the middle of a list

  module _ (before rest : List Request) (q : Request) where
    full_at : get_or (answers_to s (before ++ (q ∷ rest))) (length before) 0 ≡ 16
        → (o.plan.planned - (s.book q.task).u) * (terms_of o).c q.task
        < 2 * (held q.task (fed before) (answers_to s (before ++ (q ∷ rest))) + length q.bytes)
    full_at e =
        rw (held_before q.task s.state before (q ∷ rest))
        (refused_full (terms_of o) _ (fed_of q) _ _ (shared before q.task)
        (sym (next_number before q) ∙ sym (answer_at s.state before rest q) ∙ e))

    cells_at : (i k : ℕ) → i < tasks o → (q.task ≡ i + 1 → k + 1 ≡ count_after s (before ++ (q ∷ [])) i → ⊥)
        → cell (after s (before ++ (q ∷ []))).table (value_index (tasks o) k i) ≡ cell (after s before).table (value_index (tasks o) k i)
    cells_at i k l d =
        rw (after_last s.state before q)
        (next_cells before q i k l
        (λ e u.
        let same = u ∙ ap (λ (b : Tallies). (b (i + 1)).u) (sym (feed_last (terms_of o) s.book before q)) in
        d e (same ∙ sym (count_begun o.plan.format (book_after s (before ++ (q ∷ [])) (i + 1)) (omega arith)))))

  -- ---- the whole list

  module _ (qs : List Request) where
    answers_hold : Answers s qs
    answers_hold = record {
      as_tally = as_tally qs;
      alone = λ task. rw (as_tally qs) (alone (terms_of o) task (fed qs) s.book s.book refl);
      least_share = λ before rest q e.
          subst (λ (l : List Request).
          get_or (answers_to s l) (length before) 0 ≡ 16
          → (o.plan.planned - (s.book q.task).u) * (terms_of o).c q.task
          < 2 * (held q.task (fed before) (answers_to s l) + length q.bytes))
          (sym e) (full_at before rest q);
      most = λ task. at_most (reached qs task);
    }

    -- ---- the bytes

    image_is : (after s qs).image ≡ image_after (terms_of o) s.book s.state.image qs
    image_is = (run qs).image_is ∙ ap (λ (p : Terms). image_after p s.book s.state.image qs) same

    placed_hold : Placed s qs
    unfolding open_session open_head
    placed_hold = record {
      placed_at = λ l. rw image_is (placed _ _ (terms_of o) layout s.state.image is.follows.image_long all_reachable l);
      others = λ at none. rw image_is (others _ _ (terms_of o) layout qs s.book s.state.image at is.follows.image_long all_reachable none);
      as_long = rw image_is (length_after _ _ (terms_of o) layout qs s.book s.state.image is.follows.image_long all_reachable);
      own_blocks = λ l l' e. own_blocks _ _ (terms_of o) layout all_reachable l l' e;
    }

    -- ---- the record and the table

    kept_hold : Kept s qs
    unfolding open_session open_head
    kept_hold = record {
      session = (last qs).session_is ∙ sym is.follows.session_is;
      counts = λ i l. (last qs).counts_are i l;
      other_entries = (run qs).other_entries;
      lists_as_long = (last qs).as_many ∙ sym is.follows.as_many;
      last_cells = λ i k l e.
          let most = count_most o.plan.format (book_after s qs (i + 1)) is.good.planned_range.0 (reached qs (i + 1)).most in
          ((last qs).cells_are i k l (omega arith)).last e;
      later_cells = λ i k l e m. ((last qs).cells_are i k l m).none e;
      next_cells = λ before rest q e i k l d. cells_at before rest q i k l d;
      other_cells = (run qs).other_cells;
      as_many = (run qs).table_as_long;
    }

pub room : (s : Start) → IsStart s → (qs : List Request) → Claim s qs
room s is qs = record {
  answered = answers_hold s is qs;
  placed = placed_hold s is qs;
  kept = kept_hold s is qs;
  alive = passes (last s is qs);
}

pub alike : (s t : Start) → IsStart s → IsStart t → s.plan ≡ t.plan → s.book ≡ t.book → Alike s t
alike s t is it e d qs qs' task own =
    (answers_hold s is qs).alone task ∙ ap₃ answers (ap terms_of e) d own ∙ sym ((answers_hold t it qs').alone task)
  where
    ap₃ : (f : Terms → Tallies → List Fed → List ℕ) {p p' : Terms} {b b' : Tallies} {l l' : List Fed} → p ≡ p' → b ≡ b' → l ≡ l'
        → f p b l ≡ f p' b' l'
    ap₃ f x y z = cc (x, y, z)

-- a length that is enough for a plan is so for one of another version
long_in : (format bytes : ℕ) (o : Opening) {o' : Opening} → o' ≡ in_format format o
    → end_at (open_head o') (entry o'.sizes) o'.plan.planned ≤ bytes → end_at (open_head o) (entry o.sizes) o.plan.planned ≤ bytes
unfolding end_at open_head
long_in format bytes o e long =
    subst (λ (o : Opening). meta2_end o.plan.blocksize (tasks o) (entry o.sizes) o.plan.planned ≤ bytes) e long

-- the tally is fed the same of both
pub any_version : (s t : Start) → IsStart s → IsStart t → (format : ℕ) → t.plan ≡ in_format format s.plan → s.book ≡ t.book
    → (qs : List Request) → SameWrites s t qs
unfolding open_session
any_version s t is it format e d qs =
    let p : terms_of s.plan ≡ terms_of t.plan = ap terms_of (sym e) in
    record {
      answers = as_tally s is qs ∙ ap₂ (λ (p : Terms) (b : Tallies). answers p b (fed qs)) p d ∙ sym (as_tally t it qs);
      offsets = λ task at value.
          let puts = ap₂ (λ (p : Terms) (b : Tallies). PlacedAt p task at value b qs) p d in
          (subst (λ (P : Type 0). P) puts, subst (λ (P : Type 0). P) (sym puts));
      bytes = λ at same.
          rw (image_is s is qs, image_is t it qs, ← p, ← d)
          (same_after _ _ (terms_of s.plan) (layout s is) qs s.book s.state.image t.state.image at
          is.follows.image_long (long_in format _ s.plan e it.follows.image_long) (all_reachable s is) same);
    }
