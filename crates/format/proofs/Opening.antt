-- The tests of an opening as facts: what holds of its arguments where they pass, that its head is then sound, and what it leaves.
use mathlib.Core.Path.{◌≡◌, refl, sym, ap, subst, ◌∙◌}
use mathlib.Core.Bool.{Bool, true, false, not, ◌||◌}
use mathlib.Core.List.{List, [], ◌∷◌, flatten}
use mathlib.Core.Logic.{◌⊎◌, inl, inr}
use Prim.Native.Nat.{ℕ, ◌*◌, ◌≤◌, ◌<◌}
use native.Mathlib.Omega.{arith}
use lib.Dec.{ltb}
use lib.IntN.{ℤ, pos}
use lib.ListN.{length}
use borrow.Author.Tests.{lt-ltb, le-ltb, ltb-false, eqb-true, not-false}
use Rattle.lists.specs.Splice.{splice}
use Rattle.lists.specs.Stores.{applied}
use Rattle.lists.proofs.Below.{or_left, or_right}
use Rattle.lists.proofs.Stores.{applied_around}
use Rattle.endian.proofs.Signed.{within_facts}
use Rattle.format.specs.Limits.{max_tasks, max_blocks, Sound, format_rule, blocksize_rule, tasks_rule, ranks_rule, sizes_rule, planned_rule}
use Rattle.format.specs.Layout.{meta1_end, data_start, meta2_start, meta2_end}
use Rattle.format.specs.Refusals.{Test, test, first_failing}
use Rattle.format.specs.Meta1.{prefix_length, meta1_front, meta1, opening_bytes, opening_stores}
use Rattle.format.specs.Meta2.{least_count}
use Rattle.format.specs.Record.{entry, rank_of, size_of, no_lists, is_order, head_sound, too_short, end_at}
use Rattle.format.proofs.Refusals.{Numbered, first_passes, first_fails, both_pass, none_fails, when_accepted, when_refused, number_is}
use Rattle.format.proofs.Chunks.{meta1_before_data}
use Rattle.format.proofs.Fields.{tasks_facts}
use Rattle.format.proofs.Power.{blocksize_facts}
use Rattle.format.proofs.Filled.{filled_list}
use Rattle.format.proofs.Stripes.{ranks_made, sizes_made}
use Rattle.format.specs.declared.session.Needed.{Needed}
use Rattle.format.specs.Open.{Opening, tasks, shape_tests, number_tests, plan_tests, needs_answer, open_refusal, open_head, open_session, open_lists, blank_cells, opens, open_answer, open_stores, open_image, open_table}
use Rattle.format.specs.Session.{no_session}

-- the first of them alone: as many sizes as ranks
pub shape_listed : (order format blocksize ranks sizes prefix : ℕ) → first_failing (shape_tests order format blocksize ranks sizes prefix) ≡ 0
    → ranks ≡ sizes
unfolding shape_tests
shape_listed order format blocksize ranks sizes prefix e =
    let (first, (known, (block, (count, rest)))) = none_fails (shape_tests order format blocksize ranks sizes prefix) (omega arith) e in
    eqb-true _ _ (not-false _ (or_right (not (tasks_rule (pos ranks))) _ count))

-- what the tests of the plan ask of an opening's arguments
pub record PlanHolds (o : Opening) : Type 0 where
  pub order : is_order o.plan.order ≡ true
  pub format : format_rule (pos o.plan.format) ≡ true
  pub block : blocksize_rule (pos o.plan.blocksize) ≡ true
  pub task_rule : tasks_rule (pos (tasks o)) ≡ true
  pub few_tasks : tasks o ≤ max_tasks
  pub listed : length o.sizes ≡ tasks o
  pub prefix_short : length o.prefix ≤ prefix_length
  pub ranked : ranks_rule (tasks o) (λ i. pos (entry o.ranks i)) ≡ true
  pub sized : sizes_rule (tasks o) (λ i. pos (entry o.sizes i)) ≡ true
  pub some : 1 ≤ o.plan.planned
  pub few : o.plan.planned ≤ max_blocks

-- what all its tests ask, of the lengths of the image and of the table too
pub record OpeningHolds (o : Opening) (imageLength cells : ℕ) : Type 0 where
  pub plan : PlanHolds o
  pub image_long : end_at (open_head o) (entry o.sizes) o.plan.planned ≤ imageLength
  pub table_long : tasks o * o.plan.planned ≤ cells

module _ (o : Opening) where
  plan_numbered : Numbered (plan_tests o)
  unfolding plan_tests shape_tests number_tests
  plan_numbered = omega arith

  pub plan_holds : first_failing (plan_tests o) ≡ 0 → PlanHolds o
  unfolding plan_tests shape_tests number_tests planned_rule
  plan_holds e =
      let (order, (format, (block, (count, (prefix, (rank, (size, (planned, end)))))))) = none_fails (plan_tests o) plan_numbered e in
      let rule = not-false _ (or_left (not (tasks_rule (pos (tasks o)))) _ count) in
      let range = within_facts 1 max_blocks o.plan.planned (not-false _ planned) in
      record {
        order = not-false _ order;
        format = not-false _ format;
        block = not-false _ block;
        task_rule = rule;
        few_tasks = (tasks_facts (tasks o) rule).1;
        listed = sym (eqb-true _ _ (not-false _ (or_right (not (tasks_rule (pos (tasks o)))) _ count)));
        prefix_short = ltb-false _ _ prefix;
        ranked = not-false _ rank;
        sized = not-false _ size;
        some = range.0;
        few = range.1;
      }

  -- the head says what the opening was given
  module _ (p : PlanHolds o) where
    pub ranks_kept : rank_of (open_lists o) ≡ entry o.ranks
    unfolding open_lists
    ranks_kept = ap entry (ranks_made (tasks o) _ (entry o.sizes) (λ i. least_count o.plan.format)) ∙ filled_list (tasks o) o.ranks refl p.few_tasks

    pub sizes_kept : size_of (open_lists o) ≡ entry o.sizes
    unfolding open_lists
    sizes_kept = ap entry (sizes_made (tasks o) (entry o.ranks) _ (λ i. least_count o.plan.format)) ∙ filled_list (tasks o) o.sizes p.listed p.few_tasks

    ranks_sound : ranks_rule (tasks o) (λ i. pos (rank_of (open_lists o) i)) ≡ true
    ranks_sound = subst (λ (r : ℕ → ℕ). ranks_rule (tasks o) (λ i. pos (r i)) ≡ true) (sym ranks_kept) p.ranked

    sizes_sound : sizes_rule (tasks o) (λ i. pos (size_of (open_lists o) i)) ≡ true
    sizes_sound = subst (λ (s : ℕ → ℕ). sizes_rule (tasks o) (λ i. pos (s i)) ≡ true) (sym sizes_kept) p.sized

    pub opened_sound : head_sound (open_head o) (open_lists o) ≡ true
    unfolding head_sound open_head
    opened_sound = rw (p.order, p.format, p.block, p.task_rule, ranks_sound, sizes_sound)

  -- the numbers that the layout's functions ask for
  pub plan_sound : PlanHolds o → Sound o.plan.blocksize (tasks o) o.sizes
  plan_sound p = record { block = p.block; tasks = p.few_tasks; listed = omega (arith, p.listed); sized = p.sized }

  -- META1 ends before D
  pub plan_data : PlanHolds o → meta1_end (tasks o) ≤ data_start o.plan.blocksize (tasks o)
  plan_data p = let f = blocksize_facts o.plan.blocksize p.block in meta1_before_data o.plan.blocksize (tasks o) (omega arith)

  pub opening_holds : (imageLength cells : ℕ) → open_refusal o imageLength cells ≡ 0 → OpeningHolds o imageLength cells
  unfolding open_refusal open_head end_at too_short
  opening_holds imageLength cells e =
      let (front, back) =
      both_pass (plan_tests o)
      (test 18 (too_short o.plan.blocksize (tasks o) (entry o.sizes) o.plan.planned imageLength cells) ∷ [])
      plan_numbered e in
      let p = plan_holds front in
      let (short, end) =
      none_fails (test 18 (too_short o.plan.blocksize (tasks o) (entry o.sizes) o.plan.planned imageLength cells) ∷ []) (omega arith) back in
      let last : ℕ = meta2_end o.plan.blocksize (tasks o) (entry o.sizes) o.plan.planned in
      record {
        plan = p;
        image_long = ltb-false _ _ (or_left (ltb imageLength last) _ short);
        table_long = ltb-false _ _ (or_right (ltb imageLength last) _ short);
      }

  -- the image has room for all up to D
  pub opening_data : {imageLength cells : ℕ} → OpeningHolds o imageLength cells → data_start o.plan.blocksize (tasks o) ≤ imageLength
  unfolding open_head end_at meta2_end meta2_start
  opening_data h = omega (arith, h.image_long)

  -- the plan's number, by the tests that led there
  abbrev shape : List Test
  shape = shape_tests o.plan.order o.plan.format o.plan.blocksize (tasks o) (length o.sizes) (length o.prefix)

  abbrev number : List Test
  number = number_tests o.ranks o.sizes o.plan.planned

  pub plan_shape : 0 < first_failing shape → first_failing (plan_tests o) ≡ first_failing shape
  unfolding plan_tests
  plan_shape = first_fails shape number

  pub plan_number : first_failing shape ≡ 0 → first_failing (plan_tests o) ≡ first_failing number
  unfolding plan_tests shape_tests
  plan_number = first_passes shape number (omega arith)

  -- what an opening needs, by that number
  pub needs_refused : 0 < first_failing (plan_tests o) → needs_answer o ≡ record { refusal = first_failing (plan_tests o); image = 0; cells = 0 }
  unfolding needs_answer
  needs_refused = when_refused _ _ _

  pub needs_lengths : first_failing (plan_tests o) ≡ 0
      → needs_answer o
      ≡ record { refusal = 0; image = meta2_end o.plan.blocksize (tasks o) (entry o.sizes) o.plan.planned; cells = tasks o * o.plan.planned }
  unfolding needs_answer
  needs_lengths = when_accepted _ _ _

  pub needs_number : (needs_answer o).refusal ≡ first_failing (plan_tests o)
  unfolding needs_answer
  needs_number = number_is (first_failing (plan_tests o)) _ _ (λ (a : Needed). a.refusal) refl refl

  -- and what is then answered for an image and a table of these lengths
  module _ (imageLength cells : ℕ) where
    pub open_plan : 0 < (needs_answer o).refusal → open_refusal o imageLength cells ≡ (needs_answer o).refusal
    unfolding open_refusal
    open_plan some = first_fails (plan_tests o) _ (rw needs_number at some) ∙ sym needs_number

    module _ (none : (needs_answer o).refusal ≡ 0) where
      open_lengths : open_refusal o imageLength cells
          ≡ first_failing (test 18 (ltb imageLength (needs_answer o).image || ltb cells (needs_answer o).cells) ∷ [])
      unfolding open_refusal too_short
      open_lengths =
          let e = sym needs_number ∙ none in
          first_passes (plan_tests o) _ plan_numbered e
          ∙ ap (λ (a : Needed). first_failing (test 18 (ltb imageLength a.image || ltb cells a.cells) ∷ [])) (sym (needs_lengths e))

      pub open_short : (imageLength < (needs_answer o).image) ⊎ (cells < (needs_answer o).cells) → open_refusal o imageLength cells ≡ 18
      unfolding first_failing
      open_short (inl l) = open_lengths ∙ rw (lt-ltb imageLength (needs_answer o).image l)
      open_short (inr l) = open_lengths ∙ rw (lt-ltb cells (needs_answer o).cells l) (go (ltb imageLength (needs_answer o).image))
        where
          go : (b : Bool) → first_failing (test 18 (b || true) ∷ []) ≡ 18
          go true = refl
          go false = refl

      pub open_enough : (needs_answer o).image ≤ imageLength → (needs_answer o).cells ≤ cells → open_refusal o imageLength cells ≡ 0
      unfolding first_failing
      open_enough i t = open_lengths ∙ rw (le-ltb imageLength (needs_answer o).image i, le-ltb cells (needs_answer o).cells t)

  -- what an accepted opening leaves
  module _ (image : List ℕ) (table : List ℤ) (accepted : open_refusal o (length image) (length table) ≡ 0) where
    pub opened_answer : open_answer o image table ≡ record { session = open_session o; lists = open_lists o; refusal = 0 }
    unfolding open_answer opens
    opened_answer = when_accepted _ _ _ accepted

    pub opened_session : (open_answer o image table).session ≡ open_session o
    opened_session = rw opened_answer

    pub opened_lists : (open_answer o image table).lists ≡ open_lists o
    opened_lists = rw opened_answer

    pub opened_image : open_image o image table ≡ splice image 0 (opening_bytes (open_head o) (entry o.ranks) (entry o.sizes) o.prefix)
    unfolding open_image open_stores opens opening_stores opening_bytes meta1 meta1_front flatten
    opened_image = rw accepted (applied_around image 0 _ _)

    pub opened_table : open_table o image table ≡ splice table 0 (blank_cells (least_count o.plan.format) (tasks o) o.plan.planned)
    unfolding open_table opens
    opened_table = rw accepted

  -- what a refused one leaves
  module _ (image : List ℕ) (table : List ℤ) (refused : 0 < open_refusal o (length image) (length table)) where
    pub refused_answer : open_answer o image table
        ≡ record { session = no_session; lists = no_lists; refusal = open_refusal o (length image) (length table) }
    unfolding open_answer opens
    refused_answer = when_refused _ _ _ refused

    pub refused_image : open_image o image table ≡ image
    unfolding open_image open_stores opens applied
    refused_image = ap (applied image) (when_refused _ _ _ refused)

    pub refused_table : open_table o image table ≡ table
    unfolding open_table opens
    refused_table = when_refused _ _ _ refused
