-- The bytes of a finished container: those of the two metadata blocks and the zeros between, each accepted byte where the tally puts it, and
-- every other byte as it was lent.
use mathlib.Core.Path.{◌≡◌, sym, ap, subst, ◌∙◌}
use mathlib.Core.List.{List, ◌++◌}
use mathlib.Core.Logic.{◌⊎◌, inl, inr}
use Prim.Native.Nat.{ℕ, ◌+◌, ◌-◌, ◌*◌, ◌≤◌, ◌<◌}
use native.Mathlib.Omega.{arith}
use lib.IntN.{ℤ, pos}
use lib.ListN.{length, get_or, replicate, get_or-replicate}
use lib.Seq.{get_or-take, get_or-drop, get_or-append-add}
use Rattle.lists.specs.Below.{greatest_below, join_below}
use Rattle.endian.specs.Signed.{signed_digits}
use Rattle.lists.proofs.Below.{greatest_ge, greatest_cong, join_cong}
use Rattle.endian.proofs.Signed.{within_facts}
use Rattle.format.specs.Layout.{meta1_end, data_start, meta2_start, meta2_end}
use Rattle.format.proofs.Chunks.{meta1_before_data, chunk_after_data, chunk_before_meta2}
use Rattle.format.proofs.Power.{blocksize_facts}
use Rattle.format.specs.declared.head.Head.{Head}
use Rattle.format.specs.Meta1.{meta1, opening_bytes}
use Rattle.format.specs.Meta2.{meta2}
use Rattle.format.specs.Record.{entry, cell, count_of, is_big}
use Rattle.format.proofs.Stored.{length_meta1}
use Rattle.format.specs.Session.{State}
use Rattle.format.specs.Open.{Opening, tasks, open_refusal, open_head, open_session, open_image}
use Rattle.format.specs.Write.{Request}
use Rattle.format.specs.Close
use Rattle.format.specs.Close.{maxchunks_of, close_image}
use Rattle.format.specs.Tally.{count_by, terms_of}
use Rattle.tally.proofs.Counts.{count_over}
use Rattle.tally.proofs.Places.{reachable_blank, placed_in}
use Rattle.tally.proofs.Opened.{opened_simulates, planned_layout}
use Rattle.tally.proofs.Streams.{front_kept}
use Rattle.container.specs.Start.{count_after, greatest_count, Start, after, Puts, opened_start, book_after}
use Rattle.container.specs.WrittenBack.{Finished}
use Rattle.container.specs.Room.{Claim}
use Rattle.container.proofs.Refusing.{open_number}
use Rattle.container.proofs.Stores.{opened_bytes, opened_as_long, opening_stores_hold}
use Rattle.container.proofs.ClosedParts.{Closable, closed_as_long, first_there, second_there, between_kept, after_kept, length_said}
use Rattle.container.proofs.WrittenBack.{closable}
use Rattle.container.proofs.Rooms.{room}
use Rattle.container.proofs.Starts.{is_start, has_front}

module _ (o : Opening) (image : List ℕ) (table : List ℤ) (qs : List Request)
    (zero : open_refusal o (length image) (length table) ≡ 0) where
  abbrev s : Start
  s = opened_start o image table

  abbrev st : State
  st = after s qs

  abbrev m : ℕ
  m = greatest_count s qs

  claim : Claim s qs
  claim = room s (is_start o image table zero) qs

  c : Closable o st
  c = closable s (is_start o image table zero) (has_front o image table zero) qs

  some_block : 0 < o.plan.blocksize
  some_block = let f = blocksize_facts o.plan.blocksize c.plan.block in omega arith

  tasks_are : st.session.head.n ≡ tasks o
  unfolding open_head
  tasks_are = ap (λ (h : Head). h.n) c.head_is

  -- maxchunks by the tally is that of the counts
  used_is : Close.maxchunks_used st ≡ m
  unfolding maxchunks_of
  used_is =
      ap (λ (n : ℕ). greatest_below n (count_of st.lists)) tasks_are
      ∙ greatest_cong (count_of st.lists) (count_after s qs) (tasks o) claim.kept.counts

  -- ---- between META1 and D

  before_data : meta1_end (tasks o) ≤ data_start o.plan.blocksize (tasks o)
  before_data = meta1_before_data o.plan.blocksize (tasks o) some_block

  data_before : data_start o.plan.blocksize (tasks o) ≤ meta2_start o.plan.blocksize (tasks o) (entry o.sizes) (Close.maxchunks_used st)
  unfolding meta2_start
  data_before = omega arith

  zeros : (at : ℕ) → meta1_end (tasks o) ≤ at → at < data_start o.plan.blocksize (tasks o) → get_or (close_image st) at 0 ≡ 0
  unfolding open_session open_head opening_bytes
  zeros at l h =
      let d : ℕ = data_start o.plan.blocksize (tasks o) in
      let e : ℕ = meta1_end (tasks o) in
      let first : List ℕ = meta1 (open_head o) (entry o.ranks) (entry o.sizes) o.prefix 0 0 in
      let long : length first ≡ e = length_meta1 (open_head o) (entry o.ranks) (entry o.sizes) o.prefix 0 0 c.plan.prefix_short in
      let place : at ≡ length first + (at - e) = omega arith in
      between_kept o st c at l (omega (arith, data_before))
      ∙ sym (get_or-take d st.image at 0 h)
      ∙ ap (λ (bytes : List ℕ). get_or bytes at 0) (front_kept (opened_simulates o image table zero) qs ∙ opened_bytes o image table zero)
      ∙ ap (λ (k : ℕ). get_or (first ++ replicate (d - e) 0) k 0) place
      ∙ get_or-append-add first (replicate (d - e) 0) (at - e) 0
      ∙ get_or-replicate (d - e) (at - e) 0 0 (omega arith)

  -- ---- the accepted bytes, which stand between D and META2

  placed_at : {task at value : ℕ} → Puts s qs task at value → get_or (close_image st) at 0 ≡ value
  placed_at {task} {at} landed =
      let layout = planned_layout o c.plan.block in
      let (k, i, e, there, taken) = placed_in _ _ (terms_of o) layout (reachable_blank (terms_of o)) landed in
      let (low, top) = within_facts 1 (tasks o) task there.named in
      let back : task - 1 + 1 ≡ task = omega arith in
      let begun : k ≤ count_after s qs (task - 1) =
      subst (λ (t : ℕ). k ≤ count_by o.plan.format (book_after s qs t)) (sym back)
      (omega (arith, taken.begun, count_over o.plan.format (book_after s qs task))) in
      let most = greatest_ge (count_after s qs) (tasks o) (task - 1) (omega arith) in
      let start = chunk_after_data o.plan.blocksize (tasks o) (entry o.sizes) task k in
      let end =
      chunk_before_meta2 o.plan.blocksize (tasks o) (entry o.sizes) task k (Close.maxchunks_used st) low top there.one
      (omega (arith, used_is)) in
      between_kept o st c at (omega (arith, before_data)) (omega (arith, there.fits)) ∙ claim.placed.placed_at landed

  -- ---- all others

  as_lent : (at : ℕ) → data_start o.plan.blocksize (tasks o) ≤ at → ((task value : ℕ) → Puts s qs task at value → ⊥)
      → get_or st.image at 0 ≡ get_or image at 0
  as_lent at l none =
      let d : ℕ = data_start o.plan.blocksize (tasks o) in
      let place : at ≡ d + (at - d) = omega arith in
      let same = (opening_stores_hold o image table (open_number o image table ∙ zero)).other_bytes in
      claim.placed.others at none
      ∙ ap (λ (k : ℕ). get_or (open_image o image table) k 0) place
      ∙ sym (get_or-drop d (open_image o image table) (at - d) 0)
      ∙ ap (λ (bytes : List ℕ). get_or bytes (at - d) 0) same
      ∙ get_or-drop d image (at - d) 0
      ∙ ap (λ (k : ℕ). get_or image k 0) (sym place)

  others : (at : ℕ) → data_start o.plan.blocksize (tasks o) ≤ at
      → (at < meta2_start o.plan.blocksize (tasks o) (entry o.sizes) (Close.maxchunks_used st))
      ⊎ (meta2_end o.plan.blocksize (tasks o) (entry o.sizes) (Close.maxchunks_used st) ≤ at)
      → ((task value : ℕ) → Puts s qs task at value → ⊥) → get_or (close_image st) at 0 ≡ get_or image at 0
  others at l (inl h) none = between_kept o st c at (omega (arith, before_data)) h ∙ as_lent at l none
  others at l (inr h) none = after_kept o st c at h ∙ as_lent at l none

  -- META2's counts are the tally's
  counts_are : meta2 (is_big (open_head o)) (tasks o) (Close.maxchunks_used st) (count_of st.lists) (cell st.table)
      ≡ meta2 (is_big (open_head o)) (tasks o) (Close.maxchunks_used st) (count_after s qs) (cell st.table)
  unfolding meta2
  counts_are =
      ap (λ (counts : List ℕ). counts ++ join_below (tasks o * Close.maxchunks_used st) (λ j. signed_digits (is_big (open_head o)) 8 (cell st.table j)))
      (join_cong _ _ (tasks o) (λ i l. ap (λ (n : ℕ). signed_digits (is_big (open_head o)) 8 (pos n)) (claim.kept.counts i l)))

  pub finished : Finished o image table qs st m
  unfolding open_head
  finished =
      subst (λ (m : ℕ). Finished o image table qs st m) used_is
      (record {
        first = first_there o st c;
        zeros = zeros;
        second = second_there o st c ∙ counts_are;
        placed_at = placed_at;
        others = others;
        as_long = closed_as_long o st c ∙ claim.placed.as_long ∙ opened_as_long o image table zero;
        length_is = length_said o st c;
      })
