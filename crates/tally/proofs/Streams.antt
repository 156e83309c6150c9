-- What a session's cells and image say of a task is what was accepted from it: each accepted write adds its bytes to the task's stream, and what
-- stands before the chunks stays.
use mathlib.Core.Path.{◌≡◌, refl, sym, ap, ap₂, ◌∙◌}
use mathlib.Core.Bool.{Bool, true, false, cond, ◌&&◌, and-false}
use mathlib.Core.List.{List, [], ◌∷◌, ◌++◌, append_assoc, append-nil}
use Prim.Native.Nat.{ℕ, ◌+◌, ◌-◌, ◌≤◌, ◌<◌}
use native.Mathlib.Nat.{add-zero, zero-add}
use native.Mathlib.Omega.{arith}
use lib.Dec.{eqb}
use lib.IntN.{ℤ}
use lib.ListN.{length, take, drop}
use lib.Seq.{take_all}
use borrow.Author.Tests.{eqb-true, eqb-false}
use Rattle.lists.specs.Below.{join_below}
use Rattle.endian.specs.Signed.{natural}
use Rattle.lists.specs.Splice.{splice}
use Rattle.lists.proofs.Below.{join_more, join_cong, part_cong}
use Rattle.endian.proofs.Signed.{within_natural}
use Rattle.lists.proofs.Splice.{splice_before, splice_grows}
use Rattle.format.specs.Layout.{data_start}
use Rattle.format.proofs.Chunks.{chunk_after_data}
use Rattle.format.specs.Meta2.{value_index}
use Rattle.format.specs.Record.{cell, holds, start_of}
use Rattle.format.proofs.Passing.{head_block}
use Rattle.format.specs.declared.session.Session.{Session}
use Rattle.format.specs.Session.{State}
use Rattle.format.specs.Write.{Request, write_refusal, after_write, writes, refusals, accepted}
use Rattle.format.proofs.Outcomes.{refused_keeps, empty_keeps}
use Rattle.format.specs.Tally.{Terms, Tally, Tallies, count_by, outcome, outcome_in, answer_to, afterwards, feed, fed_of, offset_in, Outcome, stays, moves}
use Rattle.tally.proofs.Cases.{View, is_refused, is_empty, is_stays, is_moves, refused_some, view, feed_same, feed_other}
use Rattle.tally.proofs.Counts.{count_begun, count_over, count_next, fresh_apart}
use Rattle.tally.proofs.Places.{Layout, InChunk, Taken, stored_ways, stored_in, fits_of, kept, length_after}
use Rattle.tally.specs.Simulates.{terms_in, Simulates, bytes_in, stream_in}
use Rattle.tally.proofs.Simulating.{named_task, layout_of, used_fits}
use Rattle.tally.proofs.Steps.{step_simulates, cells_kept}

-- how many bytes a chunk has, by n and the table
abbrev bytes_for : ℕ → List ℤ → ℕ → ℕ → ℕ
bytes_for n table i k = natural (cell table (value_index n k i))

-- one empty list is none
join_one : (f : ℕ → List ℕ) → f 0 ≡ [] → join_below 1 f ≡ join_below 0 f
unfolding join_below
join_one f e = e

module _ {s : Session} {size : ℕ → ℕ} {b : Tallies} {st : State} (f : Simulates s size b st) where
  bytes_are : (i k : ℕ) → bytes_in st i k ≡ take (bytes_for s.head.n st.table i k) (drop (start_of s.head size (i + 1) (k + 1)) st.image)
  unfolding bytes_in
  bytes_are i k =
      ap₂ (λ (x : Session) (size : ℕ → ℕ). take (bytes_for x.head.n st.table i k) (drop (start_of x.head size (i + 1) (k + 1)) st.image))
      f.session_is f.sizes_are

  counted : (i : ℕ) → i < s.head.n → stream_in st i ≡ join_below (count_by s.head.format (b (i + 1))) (bytes_in st i)
  unfolding stream_in
  counted i l = ap (λ (n : ℕ). join_below n (bytes_in st i)) (f.counts_are i l)

  -- a first chunk that is in use and not begun has no bytes
  idle_empty : (i : ℕ) → i < s.head.n → (b (i + 1)).u ≡ 0 → count_by s.head.format (b (i + 1)) ≡ 1 → bytes_in st i 0 ≡ []
  idle_empty i l none one =
      let empty : bytes_for s.head.n st.table i 0 ≡ 0 =
      ap natural ((f.cells_are i 0 l f.some).last (sym one)) ∙ ((f.reachable (i + 1)).1.fresh none).1 in
      bytes_are i 0 ∙ rw empty

  pub stream_is : (i : ℕ) → i < s.head.n → stream_in st i ≡ join_below (b (i + 1)).u (bytes_in st i)
  stream_is i l = counted i l ∙ go (eqb (b (i + 1)).u (count_by s.head.format (b (i + 1)))) refl
    where
      go : (v : Bool) → eqb (b (i + 1)).u (count_by s.head.format (b (i + 1))) ≡ v
          → join_below (count_by s.head.format (b (i + 1))) (bytes_in st i) ≡ join_below (b (i + 1)).u (bytes_in st i)
      go true e = ap (λ (n : ℕ). join_below n (bytes_in st i)) (sym (eqb-true _ _ e))
      go false e =
          let over = count_over s.head.format (b (i + 1)) in
          let next = count_next s.head.format (b (i + 1)) in
          let apart = eqb-false _ _ e in
          let none : (b (i + 1)).u ≡ 0 = fresh_apart s.head.format (b (i + 1)) apart in
          let one : count_by s.head.format (b (i + 1)) ≡ 1 = omega arith in
          rw (one, none) (join_one (bytes_in st i) (idle_empty i l none one))

  -- a chunk that has been begun
  module _ (i k : ℕ) (task : i < s.head.n) (begun : k < (b (i + 1)).u) where
    there : k < s.planned
    there = omega (arith, (f.reachable (i + 1)).1.most)

    size_last : k + 1 ≡ (b (i + 1)).u → bytes_for s.head.n st.table i k ≡ (b (i + 1)).w
    size_last e = ap natural ((f.cells_are i k task there).last (e ∙ sym (count_begun s.head.format (b (i + 1)) (omega arith))))

    size_fits : bytes_for s.head.n st.table i k ≤ holds s.head size i
    size_fits = (within_natural 0 (holds s.head size i) (cell st.table (value_index s.head.n k i)) (used_fits f i k task (omega (arith, count_over s.head.format (b (i + 1)))))).2

    -- each of its bytes is one that the plan has and that has been written
    in_chunk : (j : ℕ) → j < bytes_for s.head.n st.table i k → InChunk (terms_in s size) (i + 1) (k + 1) j
    in_chunk j l =
        let z : i + 1 - 1 ≡ i = omega arith in
        record {
          named = named_task s.head.n i task;
          one = omega arith;
          all = omega (arith, there);
          fits = rw z (omega (arith, size_fits));
        }

    taken : (j : ℕ) → j < bytes_for s.head.n st.table i k → Taken (b (i + 1)) (k + 1) j
    taken j l = record { begun = omega arith; full = λ e. omega (arith, size_last e) }

  -- the stream, where the last chunk begun is chunk m + 1
  stream_last : (i m : ℕ) → i < s.head.n → m + 1 ≡ (b (i + 1)).u
      → stream_in st i ≡ join_below m (bytes_in st i) ++ take (b (i + 1)).w (drop (start_of s.head size (i + 1) (m + 1)) st.image)
  stream_last i m l e =
      stream_is i l ∙ ap (λ (n : ℕ). join_below n (bytes_in st i)) (sym e)
      ∙ rw (join_more, bytes_are i m, size_last i m l (omega arith) e)

module _ (s : Session) (size : ℕ → ℕ) (M : ℕ) (lo : Layout s.head.blocksize M (terms_in s size)) where
  -- one write
  module _ {b : Tallies} {st : State} (f : Simulates s size b st) (long : M ≤ length st.image) (q : Request) where
    abbrev terms : Terms
    terms = terms_in s size

    next : Simulates s size (feed terms b (fed_of q)) (after_write st q)
    next = (step_simulates f q).follows

    as_long : length (stored_in terms b st.image q) ≡ length st.image
    as_long = length_after _ _ _ lo (q ∷ []) b st.image long f.reachable

    still_long : M ≤ length (after_write st q).image
    still_long = rw ((step_simulates f q).image_is, as_long) long

    -- a chunk that has been begun, where its cell is as it was
    chunk_same : (i k : ℕ) → i < s.head.n → k < (b (i + 1)).u
        → (q.task ≡ i + 1 → k + 1 ≡ (feed terms b (fed_of q) (i + 1)).u → ⊥) → bytes_in (after_write st q) i k ≡ bytes_in st i k
    chunk_same i k l u d =
        let z : i + 1 - 1 ≡ i = omega arith in
        let bytes : ℕ = bytes_for s.head.n st.table i k in
        let inside : start_of s.head size (i + 1) (k + 1) + holds s.head size i ≤ M =
        rw z at (lo.inside (i + 1) (k + 1) (named_task s.head.n i l) (omega arith) (omega (arith, there f i k l u))) in
        let fits : start_of s.head size (i + 1) (k + 1) + bytes ≤ length st.image = omega (arith, size_fits f i k l u) in
        bytes_are next i k
        ∙ rw (cells_kept f q i k l d, (step_simulates f q).image_is)
        (part_cong bytes (start_of s.head size (i + 1) (k + 1)) (stored_in terms b st.image q) st.image 0 (rw as_long fits) fits
        (λ j m. kept _ _ _ lo b q st.image long f.reachable (in_chunk f i k l u j m) (taken f i k l u j m)))
        ∙ sym (bytes_are f i k)

    -- a task whose last chunk afterwards is chunk m + 1, with the bytes put after the first `from` of it
    grows : (i m from : ℕ) → i < s.head.n → (feed terms b (fed_of q) (i + 1)).u ≡ m + 1
        → (feed terms b (fed_of q) (i + 1)).w ≡ from + length q.bytes → m ≤ (b (i + 1)).u
        → stored_in terms b st.image q ≡ splice st.image (start_of s.head size (i + 1) (m + 1) + from) q.bytes
        → start_of s.head size (i + 1) (m + 1) + from + length q.bytes ≤ length st.image
        → stream_in (after_write st q) i
        ≡ (join_below m (bytes_in st i) ++ take from (drop (start_of s.head size (i + 1) (m + 1)) st.image)) ++ q.bytes
    grows i m from l u w few stored_image fits =
        let rest : join_below m (bytes_in (after_write st q) i) ≡ join_below m (bytes_in st i) =
        join_cong _ _ m (λ k n. chunk_same i k l (omega arith) (λ e d. omega arith)) in
        stream_last next i m l (sym u)
        ∙ rw (rest, w, (step_simulates f q).image_is, stored_image, splice_grows st.image (start_of s.head size (i + 1) (m + 1)) from q.bytes fits)
        (sym (append_assoc (join_below m (bytes_in st i)) _ q.bytes))

    -- an accepted write that has bytes, of the task itself
    stream_own : (i : ℕ) → i < s.head.n → q.task ≡ i + 1 → write_refusal st q ≡ 0 → 0 < length q.bytes
        → stream_in (after_write st q) i ≡ stream_in st i ++ q.bytes
    stream_own i l e r some =
        go refl (view terms (fed_of q) (b q.task)) (sym (step_simulates f q).number_is ∙ r)
      where
        same_u : (b q.task).u ≡ (b (i + 1)).u
        same_u = ap (λ (t : ℕ). (b t).u) e

        same_w : (b q.task).w ≡ (b (i + 1)).w
        same_w = ap (λ (t : ℕ). (b t).w) e

        now : (z : Outcome) → outcome_in terms b (fed_of q) ≡ z → feed terms b (fed_of q) (i + 1) ≡ afterwards z (length q.bytes) (b (i + 1))
        now z d =
            feed_same terms b (fed_of q) (i + 1) e
            ∙ ap (λ (z : Outcome). afterwards z (length q.bytes) (b (i + 1))) (ap (λ (t : ℕ). outcome terms (fed_of q) (b t)) (sym e) ∙ d)

        inside : (k : ℕ) → 1 ≤ k → k ≤ s.planned → start_of s.head size (i + 1) k + holds s.head size (q.task - 1) ≤ M
        inside k k1 km = rw (ap (λ (t : ℕ). holds s.head size (t - 1)) e) (lo.inside (i + 1) k (named_task s.head.n i l) k1 km)

        go : {z : Outcome} → outcome_in terms b (fed_of q) ≡ z → View terms (fed_of q) (b q.task) z → answer_to z ≡ 0
            → stream_in (after_write st q) i ≡ stream_in st i ++ q.bytes
        go d (is_refused why) n = absurd (refused_some why n)
        go d (is_empty _ none) n = absurd (omega arith)
        go d (is_stays _ _ u fits) n =
            let m : ℕ = (b (i + 1)).u - 1 in
            let last : m + 1 ≡ (b (i + 1)).u = omega (arith, same_u) in
            let now = now stays d in
            let at : start_of s.head size q.task (b q.task).u + (b q.task).w ≡ start_of s.head size (i + 1) (m + 1) + (b (i + 1)).w =
            cc (e, same_u, same_w, last) in
            let inside-at = inside (m + 1) (omega arith) (omega (arith, (f.reachable (i + 1)).1.most)) in
            grows i m (b (i + 1)).w l (ap (λ (x : Tally). x.u) now ∙ sym last) (ap (λ (x : Tally). x.w) now) (omega arith)
            (rw d (ap (λ (x : ℕ). splice st.image x q.bytes) at)) (omega (arith, same_w))
            ∙ ap (λ (x : List ℕ). x ++ q.bytes) (sym (stream_last f i m l last))
        go d (is_moves _ _ fits u _) n =
            let m : ℕ = (b (i + 1)).u in
            let now = now moves d in
            let at : start_of s.head size q.task ((b q.task).u + 1) ≡ start_of s.head size (i + 1) (m + 1) + 0 =
            cc (e, same_u, add-zero (start_of s.head size (i + 1) (m + 1))) in
            let inside-at = inside (m + 1) (omega arith) (omega (arith, same_u)) in
            grows i m 0 l (ap (λ (x : Tally). x.u) now) (ap (λ (x : Tally). x.w) now ∙ sym (zero-add (length q.bytes))) (omega arith)
            (rw d (ap (λ (x : ℕ). splice st.image x q.bytes) at)) (omega arith)
            ∙ ap (λ (x : List ℕ). x ++ q.bytes) (append-nil _ ∙ sym (stream_is f i l))

    -- one of another task
    stream_other : (i : ℕ) → i < s.head.n → (q.task ≡ i + 1 → ⊥) → stream_in (after_write st q) i ≡ stream_in st i
    stream_other i l d =
        stream_is next i l
        ∙ rw (feed_other terms b (fed_of q) (i + 1) d) (join_cong _ _ (b (i + 1)).u (λ k m. chunk_same i k l m (λ e. absurd (d e))))
        ∙ sym (stream_is f i l)

    stream_step : (i : ℕ) → i < s.head.n
        → stream_in (after_write st q) i ≡ stream_in st i ++ cond (eqb q.task (i + 1) && eqb (write_refusal st q) 0) q.bytes []
    stream_step i l = go (eqb (write_refusal st q) 0) refl (eqb (length q.bytes) 0) refl (eqb q.task (i + 1)) refl
      where
        same : after_write st q ≡ st → stream_in (after_write st q) i ≡ stream_in st i ++ []
        same e = ap (λ (x : State). stream_in x i) e ∙ sym (append-nil (stream_in st i))

        none : (v : Bool) → length q.bytes ≡ 0 → cond v q.bytes [] ≡ []
        none true e = sym (take_all 0 q.bytes (omega arith))
        none false e = refl

        go : (r : Bool) → eqb (write_refusal st q) 0 ≡ r → (x : Bool) → eqb (length q.bytes) 0 ≡ x
            → (y : Bool) → eqb q.task (i + 1) ≡ y → stream_in (after_write st q) i ≡ stream_in st i ++ cond (y && r) q.bytes []
        go false e x c y d = rw (and-false y) (same (refused_keeps st q (omega (arith, eqb-false))))
        go true e true c y d =
            let z : length q.bytes ≡ 0 = eqb-true _ _ c in
            rw (none (y && true) z) (same (empty_keeps st q z))
        go true e false c true d = stream_own i l (eqb-true _ _ d) (eqb-true _ _ e) (omega (arith, eqb-false))
        go true e false c false d = rw append-nil (stream_other i l (eqb-false _ _ d))

  pub stream_all : {b : Tallies} {st : State} → Simulates s size b st → M ≤ length st.image → (qs : List Request) (i : ℕ) → i < s.head.n
      → stream_in (writes st qs) i ≡ stream_in st i ++ accepted (i + 1) qs (refusals st qs)
  stream_all f long [] i l = sym (append-nil _)
  stream_all {b = b} f long (q ∷ qs) i l =
      stream_all {b = feed (terms_in s size) b (fed_of q)} (step_simulates f q).follows (still_long f long q) qs i l
      ∙ rw (stream_step f long q i l, append_assoc)

-- writes leave what stands before the chunks
front_step : {s : Session} {size : ℕ → ℕ} {b : Tallies} {st : State} → Simulates s size b st → (q : Request)
    → take (data_start s.head.blocksize s.head.n) (after_write st q).image ≡ take (data_start s.head.blocksize s.head.n) st.image
unfolding start_of
front_step {s} {size} {b} {st} f q =
    let d : ℕ = data_start s.head.blocksize s.head.n in
    rw (step_simulates f q).image_is
    (stored_ways (terms_in s size) b q f.reachable (λ m. take d m ≡ take d st.image) st.image refl
    (λ z.
    let fits = fits_of _ _ _ (layout_of s size (head_block _ _ f.sound)) st.image f.image_long z in
    splice_before st.image (offset_in (terms_in s size) b q) q.bytes fits 0 d
    (omega (arith, z.is, chunk_after_data s.head.blocksize s.head.n size q.task z.k))))

pub front_kept : {s : Session} {size : ℕ → ℕ} {b : Tallies} {st : State} → Simulates s size b st → (qs : List Request)
    → take (data_start s.head.blocksize s.head.n) (writes st qs).image ≡ take (data_start s.head.blocksize s.head.n) st.image
front_kept f [] = refl
front_kept {s = s} {size = size} {b = b} f (q ∷ qs) =
    front_kept {b = feed (terms_in s size) b (fed_of q)} (step_simulates f q).follows qs ∙ front_step f q
