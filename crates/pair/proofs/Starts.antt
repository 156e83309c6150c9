-- An accepted opening of a pair gives a pair's start, with META1's first fields in both images.
use mathlib.Core.Path.{◌≡◌, sym, ap, ap₂, ◌∙◌}
use mathlib.Core.Bool.{cond}
use mathlib.Core.List.{List}
use Prim.Native.Nat.{ℕ, ◌+◌, ◌<◌}
use native.Mathlib.Omega.{arith}
use lib.Dec.{ltb, eqb}
use lib.IntN.{ℤ}
use Rattle.lists.proofs.Below.{all_cong, sum_cong}
use Rattle.format.specs.declared.head.File.TheVariants.{First, Second}
use Rattle.format.specs.Record.{entry, rank_of, size_of, end_at}
use Rattle.format.specs.Open.{Opening, tasks, open_head, open_session, open_lists}
use Rattle.format.specs.Accepted.{GoodPlan}
use Rattle.format.proofs.Opening.{opened_session, opened_lists}
use Rattle.format.proofs.Record.{end_at_agree}
use Rattle.format.proofs.Stripes.{rank_made, size_made}
use Rattle.pairs.specs.Ranks.{times, none_lacking}
use Rattle.pairs.specs.Mapping.{mapping_length}
use Rattle.pairs.specs.Open.{pair_opened}
use Rattle.pair_opening.proofs.Opened.{first_opens, second_opens}
use Rattle.container.proofs.Starts.{is_start, has_front}
use Rattle.container.proofs.Stores.{opened_as_long}
use Rattle.pair.specs.Start.{IsPairStart, opened_pair}
use Rattle.pair.specs.WrittenBack.{HasFronts}
use Rattle.pair.proofs.Opens.{bytes_are, none_lacking_there, lent_enough, open_number_is}

-- whether a rank is lacking is a matter of the tasks that there are
lacking_agree : (n m : ℕ) (rank rank' other other' : ℕ → ℕ) → ((i : ℕ) → i < n → rank i ≡ other i) → ((i : ℕ) → i < m → rank' i ≡ other' i)
    → none_lacking n m rank rank' ≡ none_lacking n m other other'
unfolding none_lacking times
lacking_agree n m rank rank' other other' same same' =
    all_cong _ _ (n + m)
    (λ r l.
    ap (ltb 0)
    (ap₂ (λ (x y : ℕ). x + y) (sum_cong _ _ n (λ i k. ap (λ (x : ℕ). cond (eqb x r) 1 0) (same i k)))
    (sum_cong _ _ m (λ i k. ap (λ (x : ℕ). cond (eqb x r) 1 0) (same' i k)))))

-- the ranks and the sizes of an opened session's lists are those that it was given
module _ (o : Opening) (g : GoodPlan o) where
  ranks_given : (i : ℕ) → i < tasks o → rank_of (open_lists o) i ≡ entry o.ranks i
  unfolding open_lists
  ranks_given i l = rank_made (tasks o) (entry o.ranks) (entry o.sizes) _ g.bounds.tasks_range.1 i l

  sizes_given : (i : ℕ) → i < tasks o → size_of (open_lists o) i ≡ entry o.sizes i
  unfolding open_lists
  sizes_given i l = size_made (tasks o) (entry o.ranks) (entry o.sizes) _ g.bounds.tasks_range.1 i l

module _ (o o' : Opening) (image : List ℕ) (table : List ℤ) (image' : List ℕ) (table' : List ℤ) (first : o.file ≡ First) (second : o'.file ≡ Second)
    (opens : (pair_opened o o' image table image' table').refusal ≡ 0) where
  pub pair_starts : IsPairStart (opened_pair o o' image table image' table')
  unfolding open_session open_head end_at mapping_length
  pair_starts =
      let passed = sym (open_number_is o o' image table image' table') ∙ opens in
      let one = first_opens o o' _ _ _ _ passed in
      let two = second_opens o o' _ _ _ _ passed in
      let g = lent_enough o o' image table image' table' passed in
      let given = ranks_given o g.plans.first in
      let given' = ranks_given o' g.plans.second in
      let there = lacking_agree (tasks o) (tasks o') _ _ _ _ given given' ∙ none_lacking_there o o' g.plans in
      let end = end_at_agree (open_head o) (size_of (open_lists o)) (entry o.sizes) (sizes_given o g.plans.first) o.plan.planned in
      record {
        first = is_start o image table one;
        second = is_start o' image' table' two;
        in_first = first;
        in_second_file = second;
        ranks_first = λ i l. rw (opened_lists o image table one) (given i l);
        ranks_second = λ i l. rw (opened_lists o' image' table' two) (given' i l);
        there =
            rw (opened_session o image table one, opened_lists o image table one)
            (rw (opened_session o' image' table' two, opened_lists o' image' table' two) there);
        room =
            rw (opened_session o image table one, opened_lists o image table one, opened_session o' image' table' two)
            (omega (arith, end, bytes_are o g.plans.first, g.image_long, opened_as_long o image table one));
      }

  pub has_fronts : HasFronts (opened_pair o o' image table image' table')
  has_fronts =
      let passed = sym (open_number_is o o' image table image' table') ∙ opens in
      (has_front o image table (first_opens o o' _ _ _ _ passed), has_front o' image' table' (second_opens o o' _ _ _ _ passed))
