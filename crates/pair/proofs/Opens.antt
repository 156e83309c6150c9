-- Which openings of a pair are accepted, and that each file is then as its own opening leaves it.
use mathlib.Core.Path.{◌≡◌, refl, sym, ap, ◌∙◌}
use mathlib.Core.Bool.{Bool, true, false, cond}
use mathlib.Core.List.{List, []}
use Prim.Native.Nat.{ℕ, ◌+◌, ◌*◌, ◌≤◌, ◌<◌}
use native.Mathlib.Omega.{arith}
use lib.Dec.{ltb}
use lib.IntN.{ℤ}
use lib.ListN.{length}
use borrow.Author.Tests.{ltb-false, le-ltb, not-false}
use Rattle.lists.proofs.Below.{all_of, or_left, or_right}
use Rattle.format.specs.declared.session.Needed.{Needed}
use Rattle.format.specs.Refusals.{first_failing}
use Rattle.format.specs.Record.{entry, too_short}
use Rattle.format.specs.Open.{Opening, tasks, plan_tests, open_image}
use Rattle.format.specs.Accepted.{GoodPlan, bytes_for}
use Rattle.format.proofs.Refusals.{first_passes, both_pass, next_passes, when_accepted, number_is}
use Rattle.format.proofs.Opening.{plan_holds, needs_number, needs_lengths, opened_answer}
use Rattle.format.proofs.Opens.{plan_good}
use Rattle.format.proofs.Opens as opens
use Rattle.pairs.specs.declared.PairNeeded.{PairNeeded}
use Rattle.pairs.specs.declared.PairOpened.{PairOpened}
use Rattle.pairs.specs.Ranks.{comes, none_lacking, in_second, local_rank}
use Rattle.pairs.specs.Mapping.{mapping_length}
use Rattle.pairs.specs.Open.{needed, pair_plan_tests, pair_needs, pair_open_refusal, pair_opens, pair_opened, pair_images}
use Rattle.pairs.proofs.Opening.{plan_numbered}
use Rattle.pairs.proofs.Ranks.{found_there, carried, comes_there, lacking_once}
use Rattle.pair_opening.proofs.Opened.{pair_numbered, first_opens, second_opens, accepted_pair, accepted_tables}
use Rattle.container.proofs.Refusing.{open_number}
use Rattle.pair.specs.Stores.{Carries, GoodPair, PairNeedsExactly, GoodPairOpening, PairOpensExactly}

-- ---- a plan

plan_passes : (o : Opening) → GoodPlan o → first_failing (plan_tests o) ≡ 0
plan_passes o g = sym (needs_number o) ∙ ap (λ (a : Needed). a.refusal) (opens.needed o g)

-- the bytes that it needs, as the paper counts them
pub bytes_are : (o : Opening) → GoodPlan o → needed o ≡ bytes_for o.plan.blocksize (tasks o) (entry o.sizes) o.plan.planned
bytes_are o g = ap (λ (a : Needed). a.image) (sym (needs_lengths o (plan_passes o g)) ∙ opens.needed o g)

module _ (o o' : Opening) where
  abbrev n : ℕ
  n = tasks o

  abbrev m : ℕ
  m = tasks o'

  abbrev rank : ℕ → ℕ
  rank = entry o.ranks

  abbrev rank' : ℕ → ℕ
  rank' = entry o'.ranks

  -- ---- each rank once

  module _ (none : none_lacking n m rank rank' ≡ true) where
    some_carries : (r : ℕ) → r < n + m → (second : Bool) × (i : ℕ) × Carries o o' r second i
    some_carries r l = go (in_second n m rank rank' r) (carried n m rank rank' none r l)
      where
        go : (second : Bool) → (local_rank n m rank rank' r < cond second m n) × (cond second rank' rank (local_rank n m rank rank' r) ≡ r)
            → (second : Bool) × (i : ℕ) × Carries o o' r second i
        go true f = (true, local_rank n m rank rank' r, f)
        go false f = (false, local_rank n m rank rank' r, f)

    found : (r : ℕ) (second : Bool) (i : ℕ) → Carries o o' r second i → (in_second n m rank rank' r ≡ second) × (local_rank n m rank rank' r ≡ i)
    found r true i (l, e) = found_there n m rank rank' none true r i l e
    found r false i (l, e) = found_there n m rank rank' none false r i l e

  carries_some : (r : ℕ) → (second : Bool) × (i : ℕ) × Carries o o' r second i → ltb 0 (comes n m rank rank' r) ≡ true
  carries_some r (true, i, (l, e)) = comes_there n m rank rank' true r i l e
  carries_some r (false, i, (l, e)) = comes_there n m rank rank' false r i l e

  -- ---- both plans

  good_pair : first_failing (pair_plan_tests o o') ≡ 0 → GoodPair o o'
  unfolding pair_plan_tests
  good_pair e =
      let (one, rest) = both_pass (plan_tests o) _ (plan_numbered o) e in
      let (two, last) = both_pass (plan_tests o') _ (plan_numbered o') rest in
      let once = not-false _ (next_passes _ [] (omega arith) last).0 in
      let none = lacking_once n m rank rank' ∙ once in
      record {
        first = plan_good o (plan_holds o one);
        second = plan_good o' (plan_holds o' two);
        comes = some_carries none;
        once = λ r second second' i i' c c'.
            let (a, b) = found none r second i c in
            let (a', b') = found none r second' i' c' in
            (sym a ∙ a', sym b ∙ b');
      }

  pub none_lacking_there : GoodPair o o' → none_lacking n m rank rank' ≡ true
  unfolding none_lacking
  none_lacking_there g = all_of _ (n + m) (λ r l. carries_some r (g.comes r l))

  pair_good : GoodPair o o' → first_failing (pair_plan_tests o o') ≡ 0
  unfolding pair_plan_tests first_failing
  pair_good g =
      first_passes (plan_tests o) _ (plan_numbered o) (plan_passes o g.first)
      ∙ first_passes (plan_tests o') _ (plan_numbered o') (plan_passes o' g.second)
      ∙ rw (sym (lacking_once n m rank rank') ∙ none_lacking_there g)

  -- ---- what is needed

  pub needs_number_is : (pair_needs o o').refusal ≡ first_failing (pair_plan_tests o o')
  unfolding pair_needs
  needs_number_is = number_is _ _ _ (λ (a : PairNeeded). a.refusal) refl refl

  needs_are : first_failing (pair_plan_tests o o') ≡ 0
      → pair_needs o o'
      ≡ record {
        refusal = 0;
        image0 = needed o + mapping_length n m;
        cells0 = n * o.plan.planned;
        image1 = needed o';
        cells1 = m * o'.plan.planned;
      }
  unfolding pair_needs
  needs_are e = when_accepted _ _ _ e

  pub needs_exactly : PairNeedsExactly o o'
  unfolding mapping_length
  needs_exactly = record {
    plans = (λ e. good_pair (sym needs_number_is ∙ e), λ g. needs_number_is ∙ pair_good g);
    needed = λ g.
        let is = needs_are (pair_good g) in
        let bytes = bytes_are o g.first in
        let bytes' = bytes_are o' g.second in
        rw is (omega (arith, bytes), refl, bytes', refl);
  }

  -- ---- what is lent

  module _ (image : List ℕ) (table : List ℤ) (image' : List ℕ) (table' : List ℤ) where
    abbrev number : ℕ
    number = pair_open_refusal o o' (length image) (length table) (length image') (length table')

    pub open_number_is : (pair_opened o o' image table image' table').refusal ≡ number
    unfolding pair_opened pair_opens
    open_number_is = number_is number _ _ (λ (a : PairOpened). a.refusal) refl refl

    pub lent_enough : number ≡ 0 → GoodPairOpening o o' image table image' table'
    unfolding pair_open_refusal too_short mapping_length
    lent_enough e =
        let (plans, lent) = both_pass (pair_plan_tests o o') _ (pair_numbered o o') e in
        let g = good_pair plans in
        let (short, rest) = next_passes _ _ (omega arith) lent in
        let short' = (next_passes _ [] (omega arith) rest).0 in
        let long : needed o + mapping_length n m ≤ length image = ltb-false _ _ (or_left (ltb (length image) (needed o + mapping_length n m)) _ short) in
        let long' : needed o' ≤ length image' = ltb-false _ _ (or_left (ltb (length image') (needed o')) _ short') in
        record {
          plans = g;
          image_long = omega (arith, long, bytes_are o g.first);
          table_long = ltb-false _ _ (or_right (ltb (length image) (needed o + mapping_length n m)) _ short);
          image_long' = omega (arith, long', bytes_are o' g.second);
          table_long' = ltb-false _ _ (or_right (ltb (length image') (needed o')) _ short');
        }

    enough_lent : GoodPairOpening o o' image table image' table' → number ≡ 0
    unfolding pair_open_refusal too_short mapping_length first_failing
    enough_lent g =
        let long : needed o + (4 + 8 * (n + m)) ≤ length image = omega (arith, g.image_long, bytes_are o g.plans.first) in
        let long' : needed o' ≤ length image' = omega (arith, g.image_long', bytes_are o' g.plans.second) in
        first_passes (pair_plan_tests o o') _ (pair_numbered o o') (pair_good g.plans)
        ∙ rw (le-ltb _ _ long, le-ltb _ _ g.table_long, le-ltb _ _ long', le-ltb _ _ g.table_long')

    accepted_images : number ≡ 0 → pair_images o o' image table image' table' ≡ (open_image o image table, open_image o' image' table')
    unfolding pair_images pair_opens
    accepted_images e = when_accepted number _ _ e

    pub pair_opens_exactly : PairOpensExactly o o' image table image' table'
    pair_opens_exactly = record {
      opens = (λ e. lent_enough (sym open_number_is ∙ e), λ g. open_number_is ∙ enough_lent g);
      own_opens = λ g. (
        open_number o image table ∙ first_opens o o' _ _ _ _ (enough_lent g),
        open_number o' image' table' ∙ second_opens o o' _ _ _ _ (enough_lent g),
      );
      own_answers_hold = λ g.
          let e = enough_lent g in
          rw (opened_answer o image table (first_opens o o' _ _ _ _ e), opened_answer o' image' table' (second_opens o o' _ _ _ _ e))
          (accepted_pair o o' image table image' table' e);
      own_images = λ g. accepted_images (enough_lent g);
      own_tables = λ g. accepted_tables o o' image table image' table' (enough_lent g);
    }
