-- What is found where power goes: an opening begun gives 1, a session 10, and a close 10, 12 or the complete container; a budget that is enough gives the call
-- itself, and a close that was cut can be made again.
use mathlib.Core.Path.{◌≡◌, refl, sym, ap, ap₂, subst, ◌∙◌}
use mathlib.Core.Bool.{Bool, true, false, false≢true}
use mathlib.Core.List.{List, [], ◌∷◌, ◌++◌, append-nil}
use mathlib.Core.Logic.{◌⊎◌, inl, inr, ⊎_elim}
use Prim.Native.Nat.{ℕ, ◌+◌, ◌*◌, ◌^◌, ◌≤◌, ◌<◌}
use native.Mathlib.Nat.{zero-add}
use native.Mathlib.Omega.{arith}
use lib.Dec.{leb}
use lib.IntN.{ℤ, pos}
use lib.ListN.{length, take, drop, get_or, replicate, take-append-drop, get_or-replicate}
use lib.Seq.{get_or-take, get_or-drop}
use borrow.Author.Tests.{leb-true, leb-false}
use Rattle.lists.specs.Logic.{Not}
use Rattle.lists.specs.Stores.{store, applied, found}
use Rattle.lists.proofs.Below.{part_cong}
use Rattle.lists.proofs.Splice.{part_front}
use Rattle.lists.proofs.Stores.{found_none, length_found, applied_again}
use Rattle.endian.specs.Number.{number}
use Rattle.endian.specs.Signed.{signed, sign_bit, same_z}
use Rattle.endian.proofs.Signed.{signed_pos, same_z_eq, same_z_refl}
use Rattle.format.specs.Layout.{meta1_end, data_start, meta2_length}
use Rattle.format.specs.Meta1.{last_at, start_at, last_fields, meta1_front, start_field}
use Rattle.format.specs.declared.head.Head.{Head}
use Rattle.format.specs.Meta2.{meta2}
use Rattle.format.specs.Record.{entry, cell, count_of, is_big, meta2_at, record_tests}
use Rattle.format.specs.Session.{State, session_tests}
use Rattle.format.specs.Open.{Opening, tasks, open_head, open_refusal, open_session, open_image, open_found}
use Rattle.format.specs.Write.{Request, after_write, write_found, accepted}
use Rattle.format.specs.Close.{maxchunks_used, closing_stores, close_refusal, close_answer, close_stores, close_image, close_found}
use Rattle.format.proofs.Chunks.{meta2_end_small}
use Rattle.format.proofs.Opening.{PlanHolds, plan_holds, plan_sound, plan_data, opening_holds}
use Rattle.format.proofs.Opens.{plan_passes}
use Rattle.format.proofs.Stored.{opening_start, length_meta2}
use Rattle.format.proofs.LastStores.{last_stores, last_long, front_stays, start_stays, maxchunks_said, all_there}
use Rattle.format.proofs.Storing.{opening_count, open_stores_hold, past_data, first_zero, open_few, open_whole, close_stores_are, closing_count, close_few, close_fit, close_whole, write_whole, write_either, write_found_long}
use Rattle.format.proofs.Unclosed.{refused_1, refused_10, refused_12}
use Rattle.format.specs.Tally.{terms_of, PlacedAt}
use Rattle.tally.proofs.Simulating.{RunSimulates}
use Rattle.tally.proofs.Steps.{run_simulates}
use Rattle.tally.proofs.Streams.{front_kept}
use Rattle.container.specs.WrittenBack.{LoadsAgain}
use Rattle.container.specs.Start.{Start, IsStart, VersionsFit, opened_start, after, answers_to, book_after}
use Rattle.container.specs.Cuts.{Gives, meta2_bytes, SessionCuts, Cuts, Enough, cut_close, ClosesAgain}
use Rattle.container.proofs.Refusing.{load_number}
use Rattle.container.proofs.Stores.{opened_bytes, opened_as_long}
use Rattle.container.proofs.Starts.{is_start, has_front}
use Rattle.container.proofs.Rooms.{room, next_others}
use Rattle.container.proofs.ClosedParts.{Closable, start_in, closing, apart, end_after, image_long, closed_as_long}
use Rattle.container.proofs.WrittenBack.{closable, written_back}

-- ---- META1 is there, and not closed

record Waiting (o : Opening) (image : List ℕ) : Type 0 where
  pub long : meta1_end (tasks o) ≤ length image
  pub front : take (last_at (tasks o)) image ≡ meta1_front (open_head o) (entry o.ranks) (entry o.sizes) o.prefix
  pub start : take 8 (drop (start_at (tasks o)) image) ≡ replicate 8 0

module _ (o : Opening) (p : PlanHolds o) where
  waiting_10 : (image : List ℕ) → Waiting o image → Gives o.file 10 image
  waiting_10 image w cells =
      load_number o.file image cells
      ∙ refused_10 o p image w.long w.front
      (ap (λ (l : List ℕ). signed (sign_bit 8) (number (is_big (open_head o)) l)) w.start ∙ none (is_big (open_head o))) (length cells)
    where
      none : (big : Bool) → signed (sign_bit 8) (number big (replicate 8 0)) ≡ pos 0
      none true = refl
      none false = refl

  -- so is an image that has the same bytes there
  waiting_kept : (xs ys : List ℕ) → Waiting o xs → length ys ≡ length xs
      → ((j : ℕ) → (j < last_at (tasks o)) ⊎ ((start_at (tasks o) ≤ j) × (j < meta1_end (tasks o))) → get_or ys j 0 ≡ get_or xs j 0) → Waiting o ys
  unfolding meta1_end
  waiting_kept xs ys w l same = record {
    long = omega (arith, w.long);
    front =
        part_cong (last_at (tasks o)) 0 ys xs 0 (omega (arith, w.long)) (omega (arith, w.long)) (λ j h. rw zero-add (same j (inl h))) ∙ w.front;
    start =
        part_cong 8 (start_at (tasks o)) ys xs 0 (omega (arith, w.long)) (omega (arith, w.long)) (λ j h. same (start_at (tasks o) + j) (inr (omega arith, omega arith)))
        ∙ w.start;
  }

  -- these bytes stand before D
  before_data : (j : ℕ) → (j < last_at (tasks o)) ⊎ ((start_at (tasks o) ≤ j) × (j < meta1_end (tasks o))) → j < data_start o.plan.blocksize (tasks o)
  unfolding meta1_end
  before_data j = ⊎_elim (λ k. omega (arith, plan_data o p)) (λ k. omega (arith, plan_data o p, k.1))

-- the same first bytes, one by one
first_same : (d : ℕ) (xs ys : List ℕ) → take d ys ≡ take d xs → (j : ℕ) → j < d → get_or ys j 0 ≡ get_or xs j 0
first_same d xs ys same j l = sym (get_or-take d ys j 0 l) ∙ ap (λ (l : List ℕ). get_or l j 0) same ∙ get_or-take d xs j 0 l

-- ---- the opening

module _ (o : Opening) (image : List ℕ) (table : List ℤ) (accepted : open_refusal o (length image) (length table) ≡ 0) where
  plan : PlanHolds o
  plan = (opening_holds o (length image) (length table) accepted).plan

  -- what it leaves waits to be closed
  opened_waits : Waiting o (open_image o image table)
  unfolding open_head meta1_end
  opened_waits =
      let d = data_start o.plan.blocksize (tasks o) in
      let image' = open_image o image table in
      let long = opened_as_long o image table accepted in
      let past = past_data o image table accepted in
      let inside = plan_data o plan in
      record {
        long = omega arith;
        front = has_front o image table accepted;
        start =
            sym (part_front (start_at (tasks o)) 8 d image' [] (omega arith) (omega arith))
            ∙ ap (λ (l : List ℕ). take 8 (drop (start_at (tasks o)) l)) (append-nil (take d image') ∙ opened_bytes o image table accepted)
            ∙ opening_start (open_head o) (entry o.ranks) (entry o.sizes) o.prefix plan.prefix_short;
      }

  nothing_yet : open_found o image table 0 ≡ image
  unfolding open_found
  nothing_yet = found_none image _

  opening_1 : (b : ℕ) → 1 ≤ b → b ≤ data_start o.plan.blocksize (tasks o) → Gives o.file 1 (open_found o image table b)
  opening_1 b some last cells =
      load_number o.file (open_found o image table b) cells ∙ refused_1 o.file (open_found o image table b) (first_zero o image table accepted b some last) (length cells)

  opening_done : (b : ℕ) → data_start o.plan.blocksize (tasks o) + 1 ≤ b → open_found o image table b ≡ open_image o image table
  opening_done b l =
      open_whole o image table b (rw (open_stores_hold o image table accepted, opening_count o plan) l)

-- ---- the session

module _ (s : Start) (is : IsStart s) (waits : Waiting s.plan s.state.image) where
  abbrev o : Opening
  o = s.plan

  plan_kept : PlanHolds o
  plan_kept = plan_holds o (plan_passes o is.good)

  module _ (qs : List Request) where
    abbrev st : State
    st = after s qs

    run : RunSimulates (open_session o) (entry o.sizes) s.book s.state qs
    run = run_simulates is.follows qs

    session_waits : Waiting o st.image
    unfolding open_session open_head
    session_waits =
        waiting_kept o plan_kept s.state.image st.image waits (room s is qs).placed.as_long
        (λ j h. first_same _ s.state.image st.image (front_kept is.follows qs) j (before_data o plan_kept j h))

    session_10 : Gives o.file 10 st.image
    session_10 = waiting_10 o plan_kept st.image session_waits

    module _ (q : Request) (b : ℕ) where
      abbrev cut : List ℕ
      cut = (write_found st q b).image

      -- a byte that the whole write leaves as it is
      unmoved : (j : ℕ) → get_or (after_write st q).image j 0 ≡ get_or st.image j 0 → get_or cut j 0 ≡ get_or st.image j 0
      unmoved j same = ⊎_elim (λ e. e) (λ e. e ∙ same) (write_either st q b j)

      write_10 : Gives o.file 10 cut
      unfolding open_session open_head
      write_10 =
          waiting_10 o plan_kept cut
          (waiting_kept o plan_kept st.image cut session_waits (write_found_long st q b)
          (λ j h. unmoved j
          (first_same _ st.image (after_write st q).image (front_kept run.follows (q ∷ [])) j (before_data o plan_kept j h))))

      write_place : (at : ℕ) → ((task value : ℕ) → PlacedAt (terms_of o) task at value (book_after s qs) (q ∷ []) → ⊥) → get_or cut at 0 ≡ get_or st.image at 0
      write_place at none = unmoved at (next_others s is qs q at none)

    -- ---- the close

    closable_here : Closable o st
    closable_here = closable s is waits.front qs

    abbrev m : ℕ
    m = maxchunks_used st

    abbrev at : ℕ
    at = start_in o st

    abbrev big : Bool
    big = is_big (open_head o)

    abbrev second : List ℕ
    second = meta2 big (tasks o) m (count_of st.lists) (cell st.table)

    second_long : length second ≡ meta2_bytes s qs
    second_long = length_meta2 big (tasks o) m (count_of st.lists) (cell st.table)

    far : last_at (tasks o) + 12 ≤ at
    unfolding meta1_end
    far = omega (arith, apart o st closable_here)

    inside : at + length second ≤ length st.image
    inside = omega (arith, second_long, end_after o st closable_here, image_long o st closable_here, closed_as_long o st closable_here)

    small : at < 2 ^ 63
    small =
        omega (arith, meta2_end_small (plan_sound o plan_kept) m (closing o st closable_here).few, end_after o st closable_here)

    -- what a close stores, by what the opening was given
    stores_are : close_stores st ≡ last_stores st.image (tasks o) m at big second at far inside
    unfolding closing_stores open_head meta2_at
    stores_are =
        close_stores_are st closable_here.passes
        ∙ ap₂ (λ (h : Head) (size : ℕ → ℕ).
        store (meta2_at h size m) (meta2 (is_big h) h.n m (count_of st.lists) (cell st.table))
        ∷ store (last_at h.n) (last_fields (is_big h) m (meta2_at h size m)) ∷ []) closable_here.head_is closable_here.sizes_are

    module _ (b : ℕ) where
      abbrev ys : List ℕ
      ys = found b st.image (last_stores st.image (tasks o) m at big second at far inside)

      cut_is : close_found st b ≡ ys
      unfolding close_found
      cut_is = ap (found b st.image) stores_are

      cut_long : length ys ≡ length st.image
      cut_long = last_long st.image (tasks o) m at big second at far inside b

      cut_front : take (last_at (tasks o)) ys ≡ meta1_front (open_head o) (entry o.ranks) (entry o.sizes) o.prefix
      unfolding meta1_end
      cut_front =
          part_cong (last_at (tasks o)) 0 ys st.image 0 (omega (arith, cut_long, session_waits.long)) (omega (arith, session_waits.long))
          (λ j h. rw zero-add (front_stays st.image (tasks o) m at big second at far inside b j h))
          ∙ session_waits.front

      -- no byte of start_of_varheader is stored yet
      early_10 : b ≤ meta2_bytes s qs + 4 → Gives o.file 10 (close_found st b)
      unfolding meta1_end
      early_10 early =
          rw cut_is
          (waiting_10 o plan_kept ys
          (waiting_kept o plan_kept st.image ys session_waits cut_long
          (λ j h. ⊎_elim (front_stays st.image (tasks o) m at big second at far inside b j)
          (λ k. start_stays st.image (tasks o) m at big second at far inside b (omega (arith, second_long)) j k.0 (omega (arith, k.1))) h)))

      -- by what it says then
      late : meta2_bytes s qs + 4 ≤ b
          → Gives o.file 10 (close_found st b) ⊎ (Gives o.file 12 (close_found st b) ⊎ (close_found st b ≡ close_image st))
      unfolding close_image
      late l = rw cut_is (go (same_z z (pos 0)) refl (same_z z (pos at)) refl)
        where
          z : ℤ
          z = start_field big ys (tasks o)

          long : meta1_end (tasks o) ≤ length ys
          long = omega (arith, cut_long, session_waits.long)

          stored : length second + 4 ≤ b
          stored = omega (arith, second_long)

          zero_before : (i : ℕ) → i < 8 → get_or st.image (start_at (tasks o) + i) 0 ≡ 0
          zero_before i h =
              sym (get_or-take 8 (drop (start_at (tasks o)) st.image) i 0 h ∙ get_or-drop (start_at (tasks o)) st.image i 0)
              ∙ ap (λ (l : List ℕ). get_or l i 0) session_waits.start ∙ get_or-replicate 8 i 0 0 h

          other : (v : ℕ) → same_z z (pos v) ≡ false → Not (z ≡ pos v)
          other v f e = false≢true (sym f ∙ ap (λ (x : ℤ). same_z x (pos v)) e ∙ same_z_refl (pos v))

          go : (t : Bool) → same_z z (pos 0) ≡ t → (u : Bool) → same_z z (pos at) ≡ u → Gives o.file 10 ys ⊎ (Gives o.file 12 ys ⊎ (ys ≡ applied st.image (close_stores st)))
          go true e u f = inl (λ cells. load_number o.file ys cells ∙ refused_10 o plan_kept ys long cut_front (same_z_eq z (pos 0) e) (length cells))
          go false e true f =
              inr (inr (all_there st.image (tasks o) m at big second at far inside b stored zero_before small
              (signed_pos (sign_bit 8) _ at (same_z_eq z (pos at) f)) ∙ ap (applied st.image) (sym stores_are)))
          go false e false f =
              inr (inl (λ cells. load_number o.file ys cells
              ∙ refused_12 o plan_kept ys long cut_front m (closing o st closable_here).few
              (maxchunks_said st.image (tasks o) m at big second at far inside b stored (omega (arith, (closing o st closable_here).few))) (other 0 e) (other at f) (length cells)))

      ways : Gives o.file 10 (close_found st b) ⊎ (Gives o.file 12 (close_found st b) ⊎ (close_found st b ≡ close_image st))
      ways = go (leb b (meta2_bytes s qs + 4)) refl
        where
          go : (t : Bool) → leb b (meta2_bytes s qs + 4) ≡ t → Gives o.file 10 (close_found st b) ⊎ (Gives o.file 12 (close_found st b) ⊎ (close_found st b ≡ close_image st))
          go true e = inl (early_10 (leb-true _ _ e))
          go false e = late (omega (arith, leb-false))

      close_done : meta2_bytes s qs + 12 ≤ b → close_found st b ≡ close_image st
      unfolding open_head
      close_done l =
          let count = closing_count st.session.head st.lists m st.table in
          let same = ap (λ (h : Head). meta2_length h.n m) closable_here.head_is in
          close_whole st b (rw (close_stores_are st closable_here.passes) (omega (arith, count, same)))

    whole_loads : VersionsFit o → (cells : List ℤ) → tasks o * m ≤ length cells
        → LoadsAgain o st (λ i. s.bytes (i + 1) ++ accepted (i + 1) qs (answers_to s qs)) (close_image st) cells
    whole_loads fit cells enough =
        let len = (close_answer st).length in
        subst (λ (l : List ℕ). LoadsAgain o st (λ i. s.bytes (i + 1) ++ accepted (i + 1) qs (answers_to s qs)) l cells)
        (take-append-drop len (close_image st)) ((written_back s is waits.front fit qs).loads (drop len (close_image st)) cells enough)

  session_cuts : SessionCuts s
  session_cuts = record {
    session = session_10;
    writing = write_10;
    place = write_place;
    before_start = early_10;
    closing = ways;
    closed = close_done;
    complete = λ fit qs cells. whole_loads qs fit cells;
  }

-- ---- all of it

pub cuts : (o : Opening) (image : List ℕ) (table : List ℤ) → open_refusal o (length image) (length table) ≡ 0 → Cuts o image table
cuts o image table accepted = record {
  before = nothing_yet o image table accepted;
  opening = opening_1 o image table accepted;
  opened = opening_done o image table accepted;
  session = session_cuts (opened_start o image table) (is_start o image table accepted) (opened_waits o image table accepted);
}

pub enough : Enough
enough = record {
  opens = λ o image table b l. open_whole o image table b (omega (arith, open_few o image table));
  writes = write_whole;
  closes = λ st b l. close_whole st b (omega (arith, close_few st));
}

-- the tests of a close look at the image's length only
module _ (st : State) (b : ℕ) where
  again : close_refusal (cut_close st b) ≡ close_refusal st
  unfolding close_refusal session_tests record_tests close_found
  again = rw (length_found b st.image (close_stores st) (close_fit st))

  stores_again : close_stores (cut_close st b) ≡ close_stores st
  unfolding close_stores
  stores_again = rw again

  pub closes_again : ClosesAgain st b
  unfolding close_answer close_image close_found
  closes_again = record {
    answer = rw again;
    image = rw stores_again (applied_again b st.image (close_stores st) (close_fit st));
  }
