-- Demand 3 over both files of a pair: from every start of a pair a task, named by global rank, can count on its room, over every list of writes.
use mathlib.Core.Path.{◌≡◌, refl, sym, ap, ap₂, subst, ◌∙◌}
use mathlib.Core.Bool.{Bool, true, false}
use mathlib.Core.List.{List, ◌∷◌, ◌++◌}
use Prim.Native.Nat.{ℕ, ◌+◌, ◌-◌, ◌*◌, ◌<◌}
use lib.Dec.{ltb}
use lib.ListN.{length, get_or}
use Rattle.format.specs.Session.{State}
use Rattle.format.specs.Open.{Opening, tasks}
use Rattle.format.specs.Write.{Request, writes}
use Rattle.format.specs.Tally.{Terms, terms_of, Tallies, Fed, fed_of, fed, answers, held, PlacedAt}
use Rattle.tally.specs.Simulates.{Reachable}
use Rattle.tally.proofs.Share.{reachable_all, share_all, refused_full, at_most, alone}
use Rattle.tally.proofs.Middle.{answer_in, held_in}
use Rattle.pairs.specs.Sessions.{pair_of, size, second?}
use Rattle.container.specs.Room.{Claim}
use Rattle.container.proofs.Rooms.{room}
use Rattle.pair.specs.Start.{PairStart, IsPairStart, pair, task, start_of_rank, pair_terms, pair_book, pair_bytes}
use Rattle.pair.specs.Start.{pair_after, pair_book_after, PairPuts}
use Rattle.pair.specs.Room.{file_of, PairAnswered, PairPlaced, in_file, PairClaim, PairAlike}
use Rattle.pair.proofs.Names.{start_in, state_in, is_start, task_once, second_by, task_by, size_planned, second_planned, task_planned}
use Rattle.pair.proofs.Books.{terms_in, Agrees}
use Rattle.pair.proofs.Runs.{PairRun, start_follows, pair_run}
use Rattle.pair.proofs.Placing.{placed_there, placed_back}

module _ (s : PairStart) (is : IsPairStart s) where
  reachable : (rank : ℕ) → Reachable ((pair_terms s).K rank) ((pair_terms s).c rank) (pair_book s rank) (length (pair_bytes s rank))
  reachable rank = (is_start s is (second? (pair s) rank)).reachable (task s rank)

  full_at : (before rest : List Request) (q : Request)
      → get_or (answers (pair_terms s) (pair_book s) (fed (before ++ (q ∷ rest)))) (length before) 0 ≡ 16
      → ((pair_terms s).K q.task - (pair_book s q.task).u) * (pair_terms s).c q.task
      < 2 * (held q.task (fed before) (answers (pair_terms s) (pair_book s) (fed (before ++ (q ∷ rest)))) + length q.bytes)
  full_at before rest q e =
      rw (held_in q.task (pair_terms s) (pair_book s) before (q ∷ rest))
      (refused_full (pair_terms s) (pair_book s q.task).u (fed_of q) (pair_book_after s before q.task) _
      (share_all (pair_terms s) q.task (fed before) (pair_book s) (reachable q.task).last)
      (sym (answer_in (pair_terms s) (pair_book s) before rest q) ∙ e))

  module _ (qs : List Request) where
    run : PairRun s (pair s) (pair_book s) qs
    run = pair_run s is qs (start_follows s is)

    answered : PairAnswered s qs
    answered = record {
      as_tally = run.numbers_are;
      alone = λ rank. rw run.numbers_are (alone (pair_terms s) rank (fed qs) (pair_book s) (pair_book s) refl);
      least_share = λ before rest q e.
          rw run.numbers_are
          (subst (λ (l : List Request).
          get_or (answers (pair_terms s) (pair_book s) (fed l)) (length before) 0 ≡ 16
          → ((pair_terms s).K q.task - (pair_book s q.task).u) * (pair_terms s).c q.task
          < 2 * (held q.task (fed before) (answers (pair_terms s) (pair_book s) (fed l)) + length q.bytes))
          (sym e) (full_at before rest q));
      most = λ rank.
          rw run.numbers_are (at_most (reachable_all (pair_terms s) rank (fed qs) (pair_book s) (length (pair_bytes s rank)) (reachable rank)));
    }

    -- ---- each file, by its own requests

    pub after_is : (second : Bool) → file_of (pair_after s qs) second ≡ writes (start_in s second).state (in_file s second qs)
    after_is second = run.file_is second ∙ ap (λ (st : State). writes st (in_file s second qs)) (state_in s second)

    claim : (second : Bool) → Claim (start_in s second) (in_file s second qs)
    claim second = room (start_in s second) (is_start s is second) (in_file s second qs)

    -- ---- the bytes

    abbrev books : Bool → Tallies
    books second = (start_in s second).book

    agrees : Agrees s (pair_book s) books
    agrees r l = refl

    there : {rank at value : ℕ} → PairPuts s qs rank at value
        → (rank < size (pair s))
        × PlacedAt (terms_in s (second? (pair s) rank)) (task s rank) at value (start_of_rank s rank).book (in_file s (second? (pair s) rank) qs)
    there m = placed_there s is books agrees m

    placed : PairPlaced s qs
    placed = record {
      placed_at = λ {rank} m. rw (after_is (second? (pair s) rank)) ((claim (second? (pair s) rank)).placed.placed_at (there m).1);
      others = λ second at none.
          rw (after_is second, state_in s second)
          ((claim second).placed.others at (λ t value m. let (rank, e, n) = placed_back s is qs books agrees second m in none rank value e n));
      as_long = λ second. rw (after_is second, state_in s second) (claim second).placed.as_long;
      own_blocks = λ {rank} {rank'} {at} {at'} {value} {value'} m m' e same.
          let (l, n) = there m in
          let (l', n') = there m' in
          let here =
          subst (λ (second : Bool). PlacedAt (terms_in s second) (task s rank') at' value' (start_in s second).book (in_file s second qs)) (sym e) n' in
          task_once s is rank rank' l l' e ((claim (second? (pair s) rank)).placed.own_blocks n here same);
    }

pub pair_room : (s : PairStart) → IsPairStart s → (qs : List Request) → PairClaim s qs
pair_room s is qs = record {
  answered = answered s is qs;
  placed = placed s is qs;
  files = λ i. pair_of ((run s is qs).file_is false i) ((run s is qs).file_is true i);
  first = claim s is qs false;
  second = claim s is qs true;
  alive = (run s is qs).alive;
}

pub pair_alike : (s t : PairStart) → IsPairStart s → IsPairStart t → pair_terms s ≡ pair_terms t → pair_book s ≡ pair_book t → PairAlike s t
pair_alike s t is it e d qs qs' rank own =
    (answered s is qs).alone rank ∙ ap₃ answers e d own ∙ sym ((answered t it qs').alone rank)
  where
    ap₃ : (f : Terms → Tallies → List Fed → List ℕ) {p p' : Terms} {b b' : Tallies} {l l' : List Fed} → p ≡ p' → b ≡ b' → l ≡ l'
        → f p b l ≡ f p' b' l'
    ap₃ f x y z = cc (x, y, z)

-- ---- starts with the same plans and the same books

module _ (s t : PairStart) (is : IsPairStart s) (it : IsPairStart t) (plans : s.first.plan ≡ t.first.plan)
    (plans' : s.second.plan ≡ t.second.plan) (books : s.first.book ≡ t.first.book) (books' : s.second.book ≡ t.second.book) where
  plan_same : (second : Bool) → (start_in s second).plan ≡ (start_in t second).plan
  plan_same true = plans'
  plan_same false = plans

  book_same : (second : Bool) → (start_in s second).book ≡ (start_in t second).book
  book_same true = books'
  book_same false = books

  size_same : size (pair s) ≡ size (pair t)
  size_same =
      size_planned s is ∙ ap₂ (λ (o o' : Opening). tasks o + tasks o') plans plans' ∙ sym (size_planned t it)

  module _ (r : ℕ) where
    second_same : second? (pair s) r ≡ second? (pair t) r
    second_same = second_planned s is r ∙ ap₂ (λ (o o' : Opening). second_by o o' r) plans plans' ∙ sym (second_planned t it r)

    task_same : task s r ≡ task t r
    task_same = task_planned s is r ∙ ap₂ (λ (o o' : Opening). task_by o o' r) plans plans' ∙ sym (task_planned t it r)

    plan_there : (start_of_rank s r).plan ≡ (start_of_rank t r).plan
    plan_there = ap (λ (second : Bool). (start_in s second).plan) second_same ∙ plan_same (second? (pair t) r)

    book_there : (start_of_rank s r).book ≡ (start_of_rank t r).book
    book_there = ap (λ (second : Bool). (start_in s second).book) second_same ∙ book_same (second? (pair t) r)

  terms_same : pair_terms s ≡ pair_terms t
  terms_same =
      λ i.
      record {
        named = λ r. ltb r (size_same i);
        K = λ r. (plan_there r i).plan.planned;
        c = λ r. (terms_of (plan_there r i)).c (task_same r i);
        start = λ r. (terms_of (plan_there r i)).start (task_same r i);
      }

  pub plans_alike : PairAlike s t
  plans_alike = pair_alike s t is it terms_same (λ i r. book_there r i (task_same r i))
