-- Closing a pair: what is known where its tests pass, what an accepted and a refused close leave, by each file's own close too, and budgets that are
-- enough.
use mathlib.Core.Path.{◌≡◌, refl, sym, ap, ◌∙◌}
use mathlib.Core.Bool.{true}
use mathlib.Core.List.{List}
use Prim.Native.Nat.{ℕ, zero, suc, ◌+◌, ◌≤◌, ◌<◌}
use native.Mathlib.Nat.{le_trans}
use native.Mathlib.Omega.{arith}
use lib.ListN.{length}
use Rattle.lists.specs.Splice.{splice}
use Rattle.lists.proofs.Splice.{length_splice, splice_swap}
use Rattle.lists.specs.Stores.{applied, found, byte_stores}
use Rattle.lists.proofs.Stores.{found_all}
use Rattle.lists.proofs.Below.{greatest_le}
use Rattle.format.specs.Layout.{meta2_length, meta2_end}
use Rattle.format.specs.Meta1.{last_at, last_fields}
use Rattle.format.specs.Meta2.{meta2}
use Rattle.format.specs.Record.{cell, size_of, count_of, is_big, meta2_at, end_at}
use Rattle.format.specs.Session.{State, as_closed, session_tests}
use Rattle.format.specs.Refusals.{first_failing}
use Rattle.format.specs.Passed.{Passed}
use Rattle.format.specs.Close.{maxchunks_of, maxchunks_used, close_refusal, closing_stores, close_image}
use Rattle.format.proofs.Chunks.{meta2_end_mono}
use Rattle.format.proofs.Refusals.{when_accepted, when_refused}
use Rattle.format.proofs.Sessions.{session_passed}
use Rattle.format.proofs.Passing.{passed_used}
use Rattle.format.proofs.Stored.{length_last, length_meta2}
use Rattle.format.proofs.Storing.{closing_count, close_stores_are, fields_before, accepted_close_few}
use Rattle.pairs.specs.Ranks.{none_lacking}
use Rattle.pairs.specs.Mapping.{mapping_length, mapping}
use Rattle.pairs.specs.Sessions.{Pair, tasks₀, tasks₁, ranks₀, ranks₁, room_end, end₀, end₁, mapping_store, first_stores, second_stores}
use Rattle.pairs.specs.Sessions.{pair_close_refusal, pair_closed, pair_close_found, pair_close_images}
use Rattle.pairs.proofs.Records.{pair_passed}
use Rattle.mapping.proofs.Entries.{length_mapping}

-- the end of META2 of the chunks in use is not past that of the planned ones
used_before : (st : State) → first_failing (session_tests st) ≡ 0
    → end_at st.session.head (size_of st.lists) (maxchunks_used st) ≤ end_at st.session.head (size_of st.lists) st.session.planned
unfolding maxchunks_of end_at
used_before st e =
    let p = session_passed st e in
    meta2_end_mono _ _ _ _ _ (greatest_le (count_of st.lists) st.session.head.n st.session.planned (λ i l. (p.counts i l).1))

module _ (p : Pair) where
  abbrev pub mapping_bytes : List ℕ
  mapping_bytes = mapping (tasks₀ p) (tasks₁ p) (ranks₀ p) (ranks₁ p) (is_big p.first.session.head)

  module _ (zero : pair_close_refusal p ≡ 0) where
    facts : (first_failing (session_tests p.first) ≡ 0)
        × (first_failing (session_tests p.second) ≡ 0)
        × (none_lacking (tasks₀ p) (tasks₁ p) (ranks₀ p) (ranks₁ p) ≡ true)
        × (room_end p ≤ length p.first.image)
    unfolding pair_close_refusal
    facts = pair_passed p zero

    pub used₀ : Passed p.first.session.head p.first.lists (maxchunks_used p.first) p.first.image p.first.table
    used₀ = passed_used (session_passed p.first facts.0)

    pub used₁ : Passed p.second.session.head p.second.lists (maxchunks_used p.second) p.second.image p.second.table
    used₁ = passed_used (session_passed p.second facts.1)

    pub all_there : none_lacking (tasks₀ p) (tasks₁ p) (ranks₀ p) (ranks₁ p) ≡ true
    all_there = facts.2

    pub mapping_inside : end₀ p + mapping_length (tasks₀ p) (tasks₁ p) ≤ length p.first.image
    mapping_inside = omega (arith, used_before p.first facts.0, facts.3)

    pub accepted_closed : pair_closed p
        ≡ record {
          refusal = 0;
          session0 = as_closed p.first.session;
          session1 = as_closed p.second.session;
          length0 = end₀ p + mapping_length (tasks₀ p) (tasks₁ p);
          length1 = end₁ p;
        }
    unfolding pair_closed
    accepted_closed = when_accepted (pair_close_refusal p) _ _ zero

    pub accepted_found : (b b' : ℕ)
        → pair_close_found p b b' ≡ (found b p.first.image (first_stores p), found b' p.second.image (second_stores p))
    unfolding pair_close_found
    accepted_found b b' = when_accepted (pair_close_refusal p) _ _ zero

    accepted_images : pair_close_images p ≡ (applied p.first.image (first_stores p), applied p.second.image (second_stores p))
    unfolding pair_close_images
    accepted_images = when_accepted (pair_close_refusal p) _ _ zero

    -- ---- by each file's own close

    pub own_passes : (close_refusal p.first ≡ 0) × (close_refusal p.second ≡ 0)
    unfolding close_refusal
    own_passes = (facts.0, facts.1)

    mapping_fits : end₀ p + length mapping_bytes ≤ length p.first.image
    mapping_fits = omega (arith, mapping_inside, length_mapping (tasks₀ p) (tasks₁ p) (ranks₀ p) (ranks₁ p) (is_big p.first.session.head))

    -- the mapping lies after META1's last two fields, so file 0 is as if it were stored last
    stored_last : applied p.first.image (first_stores p) ≡ splice (close_image p.first) (end₀ p) mapping_bytes
    unfolding first_stores mapping_store close_image closing_stores applied end_at meta2_at meta2_end
    stored_last =
        let st = p.first in
        let h = st.session.head in
        let m = maxchunks_used st in
        let at = meta2_at h (size_of st.lists) m in
        let second = meta2 (is_big h) h.n m (count_of st.lists) (cell st.table) in
        let long : length second ≡ meta2_length h.n m = length_meta2 (is_big h) h.n m (count_of st.lists) (cell st.table) in
        let same : length (splice st.image at second) ≡ length st.image =
        length_splice st.image at second (omega (arith, mapping_inside)) in
        splice_swap (splice st.image at second) (last_at h.n) (last_fields (is_big h) m at) (end₀ p) mapping_bytes
        (omega (arith, length_last (is_big h) m at, fields_before st own_passes.0)) (omega (arith, mapping_fits))
        ∙ ap (λ (xs : List ℕ). splice xs (end₀ p) mapping_bytes) (sym (ap (applied st.image) (close_stores_are st own_passes.0)))

    pub closed_images : pair_close_images p ≡ (splice (close_image p.first) (end₀ p) mapping_bytes, close_image p.second)
    unfolding second_stores close_image
    closed_images =
        let second = ap (applied p.second.image) (close_stores_are p.second own_passes.1) in
        accepted_images ∙ (λ i. (stored_last i, sym second i))

    first_few : byte_stores (first_stores p) ≤ length p.first.image
    unfolding first_stores mapping_store closing_stores close_refusal byte_stores end_at meta2_at meta2_end
    first_few =
        let st = p.first in
        let h = st.session.head in
        omega (
          arith,
          closing_count h st.lists (maxchunks_used st) st.table,
          fields_before st facts.0,
          mapping_inside,
          length_mapping (tasks₀ p) (tasks₁ p) (ranks₀ p) (ranks₁ p) (is_big h),
        )

    second_few : byte_stores (second_stores p) ≤ length p.second.image
    unfolding second_stores close_refusal
    second_few = accepted_close_few p.second facts.1

  module _ (some : 0 < pair_close_refusal p) where
    pub refused_closed : pair_closed p
        ≡ record { refusal = pair_close_refusal p; session0 = p.first.session; session1 = p.second.session; length0 = 0; length1 = 0 }
    unfolding pair_closed
    refused_closed = when_refused (pair_close_refusal p) _ _ some

    pub refused_found : (b b' : ℕ) → pair_close_found p b b' ≡ (p.first.image, p.second.image)
    unfolding pair_close_found
    refused_found b b' = when_refused (pair_close_refusal p) _ _ some

    pub refused_images : pair_close_images p ≡ (p.first.image, p.second.image)
    unfolding pair_close_images
    refused_images = when_refused (pair_close_refusal p) _ _ some

  -- budgets that are enough
  pub close_whole : (b b' : ℕ) → length p.first.image ≤ b → length p.second.image ≤ b' → pair_close_found p b b' ≡ pair_close_images p
  close_whole b b' l l' = go (pair_close_refusal p) refl
    where
      go : (r : ℕ) → pair_close_refusal p ≡ r → pair_close_found p b b' ≡ pair_close_images p
      go zero e =
          let one = found_all b p.first.image (first_stores p) (le_trans (first_few e) l) in
          let two = found_all b' p.second.image (second_stores p) (le_trans (second_few e) l') in
          accepted_found e b b' ∙ (λ i. (one i, two i)) ∙ rw (accepted_images e) refl
      go (suc r) e =
          let some : 0 < pair_close_refusal p = omega arith in
          refused_found some b b' ∙ rw (refused_images some) refl
