-- What any accepted opening and any accepted close store is what the format asks for, and no other byte or cell moves.
use mathlib.Core.Path.{◌≡◌, refl, sym, ap, ◌∙◌}
use mathlib.Core.List.{List, ◌++◌}
use mathlib.Core.Logic.{◌⊎◌, inl, inr, ⊎_elim}
use Prim.Native.Nat.{ℕ, ◌+◌, ◌-◌, ◌*◌, ◌≤◌, ◌<◌}
use native.Mathlib.Nat.{zero-add}
use native.Mathlib.Omega.{arith}
use lib.IntN.{ℤ}
use lib.ListN.{length, take, drop, get_or, replicate}
use Rattle.lists.specs.Splice.{splice}
use Rattle.lists.specs.Stores.{applied}
use Rattle.lists.proofs.Below.{greatest_at}
use Rattle.lists.proofs.Splice.{length_splice, splice_here, splice_after, splice_first, splice_rest, get_or_splice_out}
use Rattle.format.specs.Layout.{meta1_end, data_start, meta2_length, meta2_end}
use Rattle.format.proofs.Chunks.{meta1_before_data}
use Rattle.format.proofs.Power.{blocksize_facts}
use Rattle.format.specs.declared.head.Head.{Head}
use Rattle.format.specs.Meta1.{last_at, last_fields, meta1, opening_bytes}
use Rattle.format.specs.Meta2.{least_count, meta2}
use Rattle.format.specs.Record.{entry, cell, size_of, count_of, is_big, meta2_at, end_at}
use Rattle.format.proofs.Refusals.{when_accepted}
use Rattle.format.proofs.Passing.{head_tasks}
use Rattle.format.proofs.Stored.{length_last, length_opening, length_meta2}
use Rattle.format.proofs.Storing.{close_passed, close_stores_are, fields_before}
use Rattle.format.specs.declared.session.Session.{Session}
use Rattle.format.specs.declared.session.Closed.{Closed}
use Rattle.format.specs.Session.{State, as_closed}
use Rattle.format.specs.Open.{Opening, tasks, blank_cells, open_refusal, open_head, open_session, open_lists, open_answer, open_image}
use Rattle.format.specs.Close.{maxchunks_of, maxchunks_used, close_refusal, closing_stores, close_answer, close_image}
use Rattle.format.proofs.Opening.{OpeningHolds, opening_holds, opening_data, opened_session, opened_lists, opened_image, opened_table}
use Rattle.format.specs.Passed.{Passed}
use Rattle.container.specs.Format.{Begun, OpeningStores, CloseStores}
use Rattle.container.specs.Refusing.{Ended, after_close}
use Rattle.container.proofs.Refusing.{open_number, close_number, flag_ends}
use Rattle.format.proofs.Formats.{least_one}
use Rattle.format.proofs.Blank.{length_blank}
use Rattle.format.proofs.Every.{lists_hold, head_says}

-- ---- opening

module _ (o : Opening) (image : List ℕ) (table : List ℤ) where
  module _ (zero : open_refusal o (length image) (length table) ≡ 0) where
    facts : OpeningHolds o (length image) (length table)
    facts = opening_holds o (length image) (length table) zero

    begun : Begun o (open_answer o image table).session (open_answer o image table).lists
    unfolding open_session open_head open_lists
    begun =
        let e = opened_session o image table zero in
        let few = facts.plan.few_tasks in
        record {
          head = head_says (ap (λ (s : Session). s.head) e);
          planned = ap (λ (s : Session). s.planned) e;
          not_closed = ap (λ (s : Session). s.closed) e;
          listed = lists_hold (tasks o) (entry o.ranks) (entry o.sizes) (λ i. least_count o.plan.format) few (opened_lists o image table zero);
        }

    abbrev stored : List ℕ
    stored = opening_bytes (open_head o) (entry o.ranks) (entry o.sizes) o.prefix

    abbrev fresh : List ℤ
    fresh = blank_cells (least_count o.plan.format) (tasks o) o.plan.planned

    stored_long : length stored ≡ data_start o.plan.blocksize (tasks o)
    unfolding open_head
    stored_long =
        let f = blocksize_facts o.plan.blocksize facts.plan.block in
        length_opening (open_head o) (entry o.ranks) (entry o.sizes) o.prefix facts.plan.prefix_short (meta1_before_data o.plan.blocksize (tasks o) (omega arith))

    stored_fits : 0 + length stored ≤ length image
    stored_fits = rw (zero-add, stored_long) (opening_data o facts)

    fresh_long : length fresh ≡ tasks o * o.plan.planned
    fresh_long =
        length_blank (least_count o.plan.format) (tasks o) o.plan.planned (omega (arith, least_one o.plan.format, facts.plan.some))

    fresh_fits : 0 + length fresh ≤ length table
    fresh_fits = rw (zero-add, fresh_long) facts.table_long

    -- what stands before D then
    pub opened_bytes : take (data_start o.plan.blocksize (tasks o)) (open_image o image table) ≡ stored
    opened_bytes =
        ap (take (data_start o.plan.blocksize (tasks o))) (opened_image o image table zero)
        ∙ splice_first image stored _ stored_long stored_fits

    pub opened_as_long : length (open_image o image table) ≡ length image
    opened_as_long = ap length (opened_image o image table zero) ∙ length_splice image 0 stored stored_fits

    opened_stores : OpeningStores o image table
    unfolding opening_bytes open_session open_head blank_cells
    opened_stores =
        let d : ℕ = data_start o.plan.blocksize (tasks o) in
        let session = opened_session o image table zero in
        let table_is = opened_table o image table zero in
        record {
          begun = begun;
          bytes =
              opened_bytes
              ∙ ap (λ (s : Session). meta1 s.head (entry o.ranks) (entry o.sizes) o.prefix 0 0 ++ replicate (d - meta1_end (tasks o)) 0) (sym session);
          other_bytes = ap (drop d) (opened_image o image table zero) ∙ splice_rest image stored d stored_long stored_fits;
          cells = ap (take (tasks o * o.plan.planned)) table_is ∙ splice_first table fresh _ fresh_long fresh_fits;
          other_cells = ap (drop (tasks o * o.plan.planned)) table_is ∙ splice_rest table fresh _ fresh_long fresh_fits;
        }

  pub opening_stores_hold : (open_answer o image table).refusal ≡ 0 → OpeningStores o image table
  opening_stores_hold e = opened_stores (sym (open_number o image table) ∙ e)

-- ---- closing

module _ (st : State) where
  module _ (zero : close_refusal st ≡ 0) where
    abbrev head : Head
    head = st.session.head

    abbrev m : ℕ
    m = maxchunks_used st

    abbrev size : ℕ → ℕ
    size = size_of st.lists

    closing : Passed head st.lists m st.image st.table
    closing = close_passed st zero

    answer_is : close_answer st ≡ record { refusal = 0; session = as_closed st.session; length = end_at head size m }
    unfolding close_answer
    answer_is = when_accepted _ _ _ zero

    -- META2 and the last two fields of META1, where they are put
    abbrev second : List ℕ
    second = meta2 (is_big head) head.n m (count_of st.lists) (cell st.table)

    abbrev last : List ℕ
    last = last_fields (is_big head) m (meta2_at head size m)

    abbrev between : List ℕ
    between = splice st.image (meta2_at head size m) second

    image_is : close_image st ≡ splice between (last_at head.n) last
    unfolding close_image applied closing_stores
    image_is = ap (applied st.image) (close_stores_are st zero)

    second_long : length second ≡ meta2_length head.n m
    second_long = length_meta2 (is_big head) head.n m (count_of st.lists) (cell st.table)

    last_long : length last ≡ 12
    last_long = length_last (is_big head) m (meta2_at head size m)

    end_is : end_at head size m ≡ meta2_at head size m + meta2_length head.n m
    unfolding end_at meta2_at meta2_end
    end_is = refl

    apart : last_at head.n + 12 ≤ meta2_at head size m
    apart = fields_before st zero

    second_fits : meta2_at head size m + length second ≤ length st.image
    second_fits = omega (arith, second_long, end_is, closing.image_long)

    between_long : length between ≡ length st.image
    between_long = length_splice st.image (meta2_at head size m) second second_fits

    last_fits : last_at head.n + length last ≤ length between
    last_fits = omega (arith, last_long, between_long, apart, second_fits)

    second_there : take (end_at head size m - meta2_at head size m) (drop (meta2_at head size m) (close_image st)) ≡ second
    second_there =
        let bytes : end_at head size m - meta2_at head size m ≡ length second = omega (arith, second_long, end_is) in
        rw (image_is, bytes)
        (ap (take (length second))
        (splice_after between (last_at head.n) last last_fits (meta2_at head size m) (omega (arith, last_long, apart)))
        ∙ splice_here st.image (meta2_at head size m) second second_fits)

    last_there : take 12 (drop (last_at head.n) (close_image st)) ≡ last
    last_there =
        rw (image_is, ← last_long) (splice_here between (last_at head.n) last last_fits)

    outside : (j : ℕ)
        → (j < last_at head.n) ⊎ (((meta1_end head.n ≤ j) × (j < meta2_at head size m)) ⊎ (end_at head size m ≤ j))
        → get_or (close_image st) j 0 ≡ get_or st.image j 0
    unfolding meta1_end
    outside j ways =
        rw image_is
        (get_or_splice_out between (last_at head.n) last last_fits j 0
        (⊎_elim inl (λ w. inr (⊎_elim (λ b. omega (arith, b.0, last_long)) (λ b. omega (arith, apart, last_long, end_is)) w)) ways)
        ∙ get_or_splice_out st.image (meta2_at head size m) second second_fits j 0
        (⊎_elim (λ b. inl (omega (arith, apart))) (λ w. ⊎_elim (λ b. inl b.1) (λ b. inr (omega (arith, second_long, end_is))) w) ways))

    close_as_long : length (close_image st) ≡ length st.image
    close_as_long = rw image_is (length_splice between (last_at head.n) last last_fits ∙ between_long)

    count_reached : (i : ℕ) × (i < head.n) × (count_of st.lists i ≡ m)
    unfolding maxchunks_of
    count_reached = greatest_at (count_of st.lists) head.n (head_tasks head st.lists closing.head).0

    closed_stores : CloseStores st m
    closed_stores = record {
      most = λ i l. (closing.counts i l).1;
      reached = count_reached;
      second = second_there;
      fields = last_there;
      others = outside;
      as_long = close_as_long;
      session = ap (λ (a : Closed). a.session) answer_is;
      length_is = ap (λ (a : Closed). a.length) answer_is;
    }

  pub close_stores_hold : (close_answer st).refusal ≡ 0 → CloseStores st (maxchunks_used st)
  close_stores_hold e = closed_stores (sym (close_number st) ∙ e)

  -- and its mark is set then
  pub closed_ends : (close_answer st).refusal ≡ 0 → Ended (after_close st)
  closed_ends e =
      let set : (close_answer st).session.closed ≡ 1 = ap (λ (s : Session). s.closed) (close_stores_hold e).session in
      flag_ends (after_close st) (λ none. omega (arith, set))
