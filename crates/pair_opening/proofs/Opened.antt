-- A pair's opening by what it needs: its tests, that each file's own tests pass where they do, and what an accepted and a refused one leave.
use mathlib.Core.Path.{◌≡◌, refl, sym, ◌∙◌}
use mathlib.Core.Bool.{Bool, true, false, cond, ◌||◌}
use mathlib.Core.List.{List, [], ◌∷◌}
use Prim.Native.Nat.{ℕ, ◌+◌, ◌*◌, ◌≤◌, ◌<◌}
use native.Mathlib.Omega.{arith}
use lib.Dec.{ltb, eqb}
use lib.IntN.{ℤ}
use lib.ListN.{length}
use borrow.Author.Tests.{le-ltb, ltb-false, eqb-true, eqb-false}
use Rattle.lists.proofs.Below.{or_left, or_right}
use Rattle.format.specs.Refusals.{Test, test, first_failing}
use Rattle.format.specs.Record.{entry, no_lists, too_short}
use Rattle.format.specs.Session.{no_session}
use Rattle.format.specs.Open.{Opening, tasks, plan_tests, open_refusal, open_session, open_lists, open_stores, open_found, open_table}
use Rattle.format.proofs.Verdicts.{each_append}
use Rattle.format.proofs.Refusals.{Numbered, first_passes, first_fails, both_pass, next_passes, when_accepted, when_refused}
use Rattle.lists.specs.Stores.{byte_stores}
use Rattle.format.proofs.Storing.{open_whole}
use Rattle.pairs.specs.Open.{needed, mapping_room, pair_plan_tests, pair_needs, pair_open_refusal, pair_opens, pair_opened, pair_found, pair_images, pair_tables}
use Rattle.pairs.proofs.Opening.{plan_numbered}
use Rattle.pair_opening.specs.Short.{short_of}

module _ (o o' : Opening) where
  pub pair_numbered : Numbered (pair_plan_tests o o')
  unfolding pair_plan_tests
  pair_numbered =
      each_append _ (plan_tests o) _ (plan_numbered o) (each_append _ (plan_tests o') _ (plan_numbered o') (omega arith, tt))

  module _ (image cells image' cells' : ℕ) where
    -- the tests by what is needed are the opening's
    pub short_is : short_of (pair_needs o o') image cells image' cells' ≡ pair_open_refusal o o' image cells image' cells'
    unfolding short_of pair_needs pair_open_refusal too_short
    short_is = go (eqb (first_failing (pair_plan_tests o o')) 0) refl
      where
        go : (b : Bool) → eqb (first_failing (pair_plan_tests o o')) 0 ≡ b
            → short_of (pair_needs o o') image cells image' cells' ≡ pair_open_refusal o o' image cells image' cells'
        go true e = rw e (sym (first_passes (pair_plan_tests o o') _ pair_numbered (eqb-true _ 0 e)))
        go false e =
            let some : 0 < first_failing (pair_plan_tests o o') = omega (arith, eqb-false (first_failing (pair_plan_tests o o')) 0 e) in
            rw (e, e) (sym (first_fails (pair_plan_tests o o') _ some))

    -- 18 of each file
    abbrev short₀ : Test
    short₀ = test 18 (ltb image (needed o + mapping_room o o') || ltb cells (tasks o * o.plan.planned))

    abbrev short₁ : Test
    short₁ = test 18 (too_short o'.plan.blocksize (tasks o') (entry o'.sizes) o'.plan.planned image' cells')

    -- where they pass, each file's own do
    module _ (zero : pair_open_refusal o o' image cells image' cells' ≡ 0) where
      plans_pass : (first_failing (plan_tests o) ≡ 0) × (first_failing (plan_tests o') ≡ 0)
      unfolding pair_open_refusal pair_plan_tests
      plans_pass =
          let (plans, lent) = both_pass (pair_plan_tests o o') _ pair_numbered zero in
          let (one, rest) = both_pass (plan_tests o) _ (plan_numbered o) plans in
          (one, (both_pass (plan_tests o') _ (plan_numbered o') rest).0)

      pub first_opens : open_refusal o image cells ≡ 0
      unfolding pair_open_refusal open_refusal too_short first_failing
      first_opens =
          let (plans, lent) = both_pass (pair_plan_tests o o') _ pair_numbered zero in
          let short = (next_passes short₀ (short₁ ∷ []) (omega arith) lent).0 in
          let long : needed o + mapping_room o o' ≤ image = ltb-false _ _ (or_left (ltb image (needed o + mapping_room o o')) _ short) in
          let wide : tasks o * o.plan.planned ≤ cells = ltb-false _ _ (or_right (ltb image (needed o + mapping_room o o')) _ short) in
          first_passes (plan_tests o) _ (plan_numbered o) plans_pass.0
          ∙ rw (le-ltb image (needed o) (omega arith), le-ltb cells (tasks o * o.plan.planned) wide)

      pub second_opens : open_refusal o' image' cells' ≡ 0
      unfolding pair_open_refusal open_refusal first_failing
      second_opens =
          let (plans, lent) = both_pass (pair_plan_tests o o') _ pair_numbered zero in
          let short = (next_passes short₁ [] (omega arith) (next_passes short₀ (short₁ ∷ []) (omega arith) lent).1).0 in
          first_passes (plan_tests o') _ (plan_numbered o') plans_pass.1 ∙ rw short

  -- ---- what is left

  module _ (image : List ℕ) (table : List ℤ) (image' : List ℕ) (table' : List ℤ) where
    abbrev number : ℕ
    number = pair_open_refusal o o' (length image) (length table) (length image') (length table')

    module _ (zero : number ≡ 0) where
      pub accepted_pair : pair_opened o o' image table image' table'
          ≡ record { session0 = open_session o; lists0 = open_lists o; session1 = open_session o'; lists1 = open_lists o'; refusal = 0 }
      unfolding pair_opened pair_opens
      accepted_pair = when_accepted number _ _ zero

      pub accepted_found : (b b' : ℕ) → pair_found o o' image table image' table' b b' ≡ (open_found o image table b, open_found o' image' table' b')
      unfolding pair_found pair_opens
      accepted_found b b' = when_accepted number _ _ zero

      pub accepted_tables : pair_tables o o' image table image' table' ≡ (open_table o image table, open_table o' image' table')
      unfolding pair_tables pair_opens
      accepted_tables = when_accepted number _ _ zero

    -- budgets that are enough
    pub pair_whole : (b b' : ℕ) → byte_stores (open_stores o image table) ≤ b → byte_stores (open_stores o' image' table') ≤ b'
        → pair_found o o' image table image' table' b b' ≡ pair_images o o' image table image' table'
    unfolding pair_found pair_images
    pair_whole b b' l l' = λ i.
        cond (pair_opens o o' image table image' table') (open_whole o image table b l i, open_whole o' image' table' b' l' i) (image, image')

    module _ (some : 0 < number) where
      pub refused_pair : pair_opened o o' image table image' table'
          ≡ record { session0 = no_session; lists0 = no_lists; session1 = no_session; lists1 = no_lists; refusal = number }
      unfolding pair_opened pair_opens
      refused_pair = when_refused number _ _ some

      pub refused_found : (b b' : ℕ) → pair_found o o' image table image' table' b b' ≡ (image, image')
      unfolding pair_found pair_opens
      refused_found b b' = when_refused number _ _ some

      pub refused_images : pair_images o o' image table image' table' ≡ (image, image')
      unfolding pair_images pair_opens
      refused_images = when_refused number _ _ some

      pub refused_tables : pair_tables o o' image table image' table' ≡ (table, table')
      unfolding pair_tables pair_opens
      refused_tables = when_refused number _ _ some
