-- The stores of opening, closing and a write: how many bytes they are, that all of them lie in the image, and that a budget which is enough gives the call
-- itself.
use mathlib.Core.Path.{◌≡◌, refl, ap, ◌∙◌}
use mathlib.Core.Bool.{Bool, true, false, cond, not}
use mathlib.Core.Logic.{◌⊎◌, inl}
use mathlib.Core.List.{List, [], ◌∷◌}
use Prim.Native.Nat.{ℕ, zero, suc, ◌+◌, ◌-◌, ◌≤◌, ◌<◌}
use native.Mathlib.Omega.{arith}
use lib.IntN.{ℤ}
use lib.ListN.{length, take, drop, get_or, length-drop}
use lib.Seq.{take_all}
use lib.Dec.{eqb}
use borrow.Author.Tests.{ne_eqb, eqb-true, eqb-false, not-true}
use Rattle.lists.proofs.Below.{and_left, and_right}
use Rattle.lists.specs.Splice.{splice}
use Rattle.lists.specs.Stores.{Store, store, applied, byte_stores, first_stores, found}
use Rattle.lists.proofs.Splice.{length_splice}
use Rattle.lists.proofs.Stores.{Fit, length_take_of, found_all, run_either}
use Rattle.format.specs.Layout.{meta1_end, data_start, meta2_start, meta2_length, meta2_end}
use Rattle.format.specs.declared.head.Head.{Head}
use Rattle.format.specs.Meta1.{last_at, opening_bytes, opening_stores}
use Rattle.format.specs.Record.{entry, cell, size_of, count_of, is_big, meta2_at, end_at}
use Rattle.format.specs.Session.{State, state_of}
use Rattle.format.specs.Open.{Opening, tasks, open_refusal, opens, open_head, open_stores, open_image, open_found}
use Rattle.format.specs.Close.{maxchunks_used, close_refusal, closing_stores, close_stores, close_image, close_found}
use Rattle.format.specs.Write.{Request, takes_bytes, capacity_of, spot, target, stored, write_refusal, after_write, write_stores, write_found}
use Rattle.format.specs.Passed.{Passed}
use Rattle.format.proofs.Refusals.{when_accepted, when_refused}
use Rattle.format.proofs.Power.{blocksize_facts}
use Rattle.format.proofs.Chunks.{meta1_before_data, meta2_parts}
use Rattle.format.proofs.Fields.{tasks_facts}
use Rattle.format.proofs.Stored.{length_last, length_opening, length_meta2}
use Rattle.format.proofs.Opening.{PlanHolds, OpeningHolds, plan_data, opening_holds}
use Rattle.format.proofs.Passing.{head_block, passed_used, chunk_inside}
use Rattle.format.proofs.Writable as writable
use Rattle.format.proofs.Sessions.{session_passed}

-- ---- opening

module _ (o : Opening) where
  abbrev front : List ℕ
  front = opening_bytes (open_head o) (entry o.ranks) (entry o.sizes) o.prefix

  abbrev stores : List Store
  stores = opening_stores (open_head o) (entry o.ranks) (entry o.sizes) o.prefix

  module _ (p : PlanHolds o) where
    front_long : length front ≡ data_start o.plan.blocksize (tasks o)
    unfolding open_head
    front_long = length_opening (open_head o) (entry o.ranks) (entry o.sizes) o.prefix p.prefix_short (plan_data o p)

    -- one more than D
    pub opening_count : byte_stores stores ≡ data_start o.plan.blocksize (tasks o) + 1
    unfolding opening_stores byte_stores meta1_end
    opening_count = simp length-drop (omega (arith, front_long, plan_data o p))

  module _ (image : List ℕ) (table : List ℤ) where
    module _ (accepted : open_refusal o (length image) (length table) ≡ 0) where
      known : OpeningHolds o (length image) (length table)
      known = opening_holds o (length image) (length table) accepted

      pub open_stores_hold : open_stores o image table ≡ stores
      unfolding open_stores opens
      open_stores_hold = when_accepted _ _ _ accepted

      -- the image is longer than D
      pub past_data : data_start o.plan.blocksize (tasks o) + 1 ≤ length image
      unfolding open_head end_at meta2_end meta2_start
      past_data =
          omega (arith, known.image_long, meta2_parts (tasks o) o.plan.planned, (tasks_facts (tasks o) known.plan.task_rule).0)

      accepted_few : byte_stores (open_stores o image table) ≤ length image
      accepted_few = rw (open_stores_hold, opening_count known.plan) past_data

    refused_none : 0 < open_refusal o (length image) (length table) → open_stores o image table ≡ []
    unfolding open_stores opens
    refused_none l = when_refused _ _ _ l

    -- what is found of an accepted one, and of a refused one
    pub opened_found : open_refusal o (length image) (length table) ≡ 0 → (b : ℕ) → open_found o image table b ≡ found b image stores
    unfolding open_found
    opened_found accepted b = ap (found b image) (open_stores_hold accepted)

    pub refused_found : 0 < open_refusal o (length image) (length table) → (b : ℕ) → open_found o image table b ≡ image
    unfolding open_found found first_stores applied
    refused_found l b = ap (found b image) (refused_none l)

    -- from the first store up to the last but one the first byte is 0
    pub first_zero : open_refusal o (length image) (length table) ≡ 0 → (b : ℕ) → 1 ≤ b → b ≤ data_start o.plan.blocksize (tasks o)
        → get_or (open_found o image table b) 0 0 ≡ 0
    unfolding found first_stores applied opening_stores splice
    first_zero accepted b some last =
        let k = (known accepted).plan in
        let cut : b - 1 - length (drop 1 front) ≡ 0 = rw length-drop (omega (arith, front_long k, plan_data o k)) in
        let zero : List ℕ = 0 ∷ [] in
        let all : take b zero ≡ zero = take_all b zero some in
        ap (λ (l : List ℕ). get_or l 0 0) (opened_found accepted b) ∙ rw (cut, all)

    pub open_few : byte_stores (open_stores o image table) ≤ length image
    unfolding byte_stores
    open_few = go (open_refusal o (length image) (length table)) refl
      where
        go : (r : ℕ) → open_refusal o (length image) (length table) ≡ r → byte_stores (open_stores o image table) ≤ length image
        go zero e = accepted_few e
        go (suc r) e = rw (refused_none (omega arith)) (omega arith)

    pub open_whole : (b : ℕ) → byte_stores (open_stores o image table) ≤ b → open_found o image table b ≡ open_image o image table
    unfolding open_found open_image
    open_whole b l = found_all b image (open_stores o image table) l

-- ---- closing

-- META2, and 12 bytes for the last two fields
pub closing_count : (h : Head) (lists : List ℕ) (m : ℕ) (table : List ℤ) → byte_stores (closing_stores h lists m table) ≡ meta2_length h.n m + 12
unfolding closing_stores byte_stores
closing_count h lists m table =
    omega (arith, length_meta2 (is_big h) h.n m (count_of lists) (cell table), length_last (is_big h) m (meta2_at h (size_of lists) m))

module _ (st : State) where
  abbrev h : Head
  h = st.session.head

  abbrev m : ℕ
  m = maxchunks_used st

  module _ (accepted : close_refusal st ≡ 0) where
    pub close_passed : Passed h st.lists m st.image st.table
    unfolding close_refusal
    close_passed = passed_used (session_passed st accepted)

    pub close_stores_are : close_stores st ≡ closing_stores h st.lists m st.table
    unfolding close_stores
    close_stores_are = when_accepted _ _ _ accepted

    -- META1 ends before META2 starts
    pub fields_before : last_at h.n + 12 ≤ meta2_at h (size_of st.lists) m
    unfolding meta2_at meta2_start meta1_end
    fields_before =
        let f = blocksize_facts h.blocksize (head_block h st.lists close_passed.head) in
        omega (arith, meta1_before_data h.blocksize h.n (omega arith))

    meta2_inside : meta2_at h (size_of st.lists) m + meta2_length h.n m ≤ length st.image
    unfolding end_at meta2_at meta2_end
    meta2_inside = close_passed.image_long

    accepted_close_fit : Fit (length st.image) (closing_stores h st.lists m st.table)
    unfolding closing_stores
    accepted_close_fit =
        let second = length_meta2 (is_big h) h.n m (count_of st.lists) (cell st.table) in
        let fields = length_last (is_big h) m (meta2_at h (size_of st.lists) m) in
        (omega (arith, meta2_inside, second), (omega (arith, meta2_inside, fields_before, fields), tt))

    pub accepted_close_few : byte_stores (closing_stores h st.lists m st.table) ≤ length st.image
    accepted_close_few = omega (arith, closing_count h st.lists m st.table, fields_before, meta2_inside)

  refused_close_holds : 0 < close_refusal st → close_stores st ≡ []
  unfolding close_stores
  refused_close_holds l = when_refused _ _ _ l

  -- what is found of an accepted one, and of a refused one
  pub closed_found : close_refusal st ≡ 0 → (b : ℕ) → close_found st b ≡ found b st.image (closing_stores h st.lists m st.table)
  unfolding close_found
  closed_found accepted b = ap (found b st.image) (close_stores_are accepted)

  pub refused_close_found : 0 < close_refusal st → (b : ℕ) → close_found st b ≡ st.image
  unfolding close_found found first_stores applied
  refused_close_found l b = ap (found b st.image) (refused_close_holds l)

  pub close_few : byte_stores (close_stores st) ≤ length st.image
  unfolding byte_stores
  close_few = go (close_refusal st) refl
    where
      go : (r : ℕ) → close_refusal st ≡ r → byte_stores (close_stores st) ≤ length st.image
      go zero e = rw (close_stores_are e) (accepted_close_few e)
      go (suc r) e = rw (refused_close_holds (omega arith)) (omega arith)

  pub close_fit : Fit (length st.image) (close_stores st)
  close_fit = go (close_refusal st) refl
    where
      go : (r : ℕ) → close_refusal st ≡ r → Fit (length st.image) (close_stores st)
      go zero e = rw (close_stores_are e) (accepted_close_fit e)
      go (suc r) e = rw (refused_close_holds (omega arith)) tt

  pub close_whole : (b : ℕ) → byte_stores (close_stores st) ≤ b → close_found st b ≡ close_image st
  unfolding close_found close_image
  close_whole b l = found_all b st.image (close_stores st) l

-- ---- a write

module _ (st : State) (q : Request) where
  -- refused or empty, and else
  pub found_kept : (b : ℕ) → takes_bytes st q ≡ false → write_found st q b ≡ st
  unfolding write_found write_stores after_write found first_stores applied
  found_kept b e = rw e

  pub refused_write_found : (b : ℕ) → 0 < write_refusal st q → write_found st q b ≡ st
  refused_write_found b l = found_kept b (rw (ne_eqb (write_refusal st q) 0 (λ e. omega arith)))

  pub found_stored : (b : ℕ) → takes_bytes st q ≡ true
      → write_found st q b
      ≡ state_of st.file st.session (stored st q).lists (found b st.image (store (target st q) q.bytes ∷ [])) (stored st q).table
  unfolding write_found write_stores after_write stored
  found_stored b e = rw e

  -- what is stored into the image is what the write leaves there
  -- the bytes fit where they go
  write_fits : takes_bytes st q ≡ true → target st q + length q.bytes ≤ length st.image
  unfolding target capacity_of
  write_fits e =
      let zero : write_refusal st q ≡ 0 = eqb-true _ _ (and_left (eqb (write_refusal st q) 0) _ e) in
      let some : 0 < length q.bytes = nonempty (and_right (eqb (write_refusal st q) 0) _ e) in
      let (p, first, last, chunk-last, fits) = writable.stores st q some zero in
      omega (arith, fits, chunk_inside p q.task first last (spot st q).chunk (writable.spot_first st q) chunk-last)
    where
      nonempty : not (eqb (length q.bytes) 0) ≡ true → 0 < length q.bytes
      nonempty e = omega (arith, eqb-false (length q.bytes) 0 (not-true _ e))

  -- each place is as it was, or as the whole write leaves it
  pub write_either : (b j : ℕ)
      → (get_or (write_found st q b).image j 0 ≡ get_or st.image j 0) ⊎ (get_or (write_found st q b).image j 0 ≡ get_or (after_write st q).image j 0)
  unfolding found first_stores applied after_write stored
  write_either b j = go (takes_bytes st q) refl
    where
      go : (t : Bool) → takes_bytes st q ≡ t
          → (get_or (write_found st q b).image j 0 ≡ get_or st.image j 0) ⊎ (get_or (write_found st q b).image j 0 ≡ get_or (after_write st q).image j 0)
      go true e =
          rw (found_stored b e, e) (run_either b st.image (target st q) q.bytes (write_fits e) j)
      go false e = inl (ap (λ (s : State). get_or s.image j 0) (found_kept b e))

  pub write_found_long : (b : ℕ) → length (write_found st q b).image ≡ length st.image
  unfolding found first_stores applied
  write_found_long b = go (takes_bytes st q) refl
    where
      go : (t : Bool) → takes_bytes st q ≡ t → length (write_found st q b).image ≡ length st.image
      go true e = rw (found_stored b e) (length_splice st.image (target st q) (take b q.bytes) (omega (arith, write_fits e, length_take_of b q.bytes)))
      go false e = ap (λ (s : State). length s.image) (found_kept b e)

  pub write_whole : (b : ℕ) → length q.bytes ≤ b → write_found st q b ≡ after_write st q
  unfolding write_found write_stores after_write stored found first_stores applied
  write_whole b l = go (takes_bytes st q)
    where
      go : (t : Bool)
          → state_of st.file (cond t (stored st q) st).session (cond t (stored st q) st).lists (found b st.image (cond t (store (target st q) q.bytes ∷ []) []))
          (cond t (stored st q) st).table
          ≡ cond t (stored st q) st
      go true = ap (λ (bytes : List ℕ). state_of st.file (stored st q).session (stored st q).lists (splice st.image (target st q) bytes) (stored st q).table) (take_all b q.bytes l)
      go false = refl
