-- What a list of writes to a pair does: its answers are the tally's over both files, each file is as its own requests leave it, and the tests pass.
use mathlib.Core.Path.{◌≡◌, refl, sym, ap, ap₂, subst, ◌∙◌}
use mathlib.Core.Bool.{Bool, true, false, cond, not, ◌&&◌}
use mathlib.Core.List.{List, [], ◌∷◌}
use Prim.Native.Nat.{ℕ, ◌<◌}
use native.Mathlib.Omega.{arith}
use lib.Dec.{ltb}
use lib.ListN.{length}
use borrow.Author.Tests.{ltb-true, ltb-false}
use Rattle.format.specs.Refusals.{first_failing}
use Rattle.format.specs.Record.{entry, ranks_of, size_of}
use Rattle.format.specs.Session.{State}
use Rattle.format.specs.Open.{open_session}
use Rattle.format.specs.Write.{Request, request_of, write_refusal, after_write, writes}
use Rattle.format.specs.Tally.{Terms, Tallies, outcome_in, answer_to, fed_of, fed, feed, feed_all, answers}
use Rattle.tally.specs.Simulates.{Simulates}
use Rattle.tally.proofs.Effects.{ranks_written}
use Rattle.tally.proofs.Steps.{passes, step_simulates, run_simulates, image_as_long}
use Rattle.tally.proofs.Opened.{terms_are}
use Rattle.pairs.specs.Ranks.{none_lacking}
use Rattle.pairs.specs.Sessions.{Pair, pair_of, tasks₀, tasks₁, ranks₀, ranks₁, size, pair_tests, second?, task_of_rank, pair_write_refusal, pair_after_write, pair_writes, pair_refusals}
use Rattle.pairs.proofs.Records.{pair_passes}
use Rattle.pair_writing.proofs.Written.{rank_refused, refused_left, its_number, its_write}
use Rattle.pair.specs.Start.{PairStart, IsPairStart, pair, task, pair_terms, pair_book}
use Rattle.pair.specs.Room.{file_of, takes, in_file}
use Rattle.pair.proofs.Names.{start_in, state_in, is_start}
use Rattle.pair.proofs.Books.{own_request, Agrees, books_after, in_none, unnamed, outcome_same, agrees_after}

-- ---- a pair that follows a book by rank, and its files' books

pub record Follows (s : PairStart) (p : Pair) (b : Tallies) (books : Bool → Tallies) : Type 0 where
  pub each : (second : Bool)
      → Simulates (open_session (start_in s second).plan) (entry (start_in s second).plan.sizes) (books second) (file_of p second)
  pub ranks : (second : Bool) → ranks_of (file_of p second).lists ≡ ranks_of (start_in s second).state.lists
  pub long : length p.first.image ≡ length s.first.state.image
  pub book : Agrees s b books

pub start_follows : (s : PairStart) → IsPairStart s → Follows s (pair s) (pair_book s) (λ second. (start_in s second).book)
start_follows s is = record {
  each = λ second.
      subst (λ (st : State). Simulates (open_session (start_in s second).plan) (entry (start_in s second).plan.sizes) (start_in s second).book st)
      (sym (state_in s second)) (is_start s is second).follows;
  ranks = λ second. ap (λ (st : State). ranks_of st.lists) (state_in s second);
  long = refl;
  book = λ r l. refl;
}

module _ (s : PairStart) (is : IsPairStart s) {p : Pair} {b : Tallies} {books : Bool → Tallies} (h : Follows s p b books) where
  -- ---- its names are the start's, and its tests pass

  same_session : (second : Bool) → (file_of p second).session ≡ (start_in s second).state.session
  same_session second = (h.each second).session_is ∙ sym (is_start s is second).follows.session_is

  same_sizes : (second : Bool) → size_of (file_of p second).lists ≡ size_of (start_in s second).state.lists
  same_sizes second = (h.each second).sizes_are ∙ sym (is_start s is second).follows.sizes_are

  named_same : (P : (n m : ℕ) → (rank rank' : ℕ → ℕ) → Type 0)
      → P (tasks₀ (pair s)) (tasks₁ (pair s)) (ranks₀ (pair s)) (ranks₁ (pair s)) → P (tasks₀ p) (tasks₁ p) (ranks₀ p) (ranks₁ p)
  named_same P x = rw (same_session false, same_session true, h.ranks false, h.ranks true) x

  size_same : size p ≡ size (pair s)
  size_same = rw (same_session false, same_session true)

  second_same : (r : ℕ) → second? p r ≡ second? (pair s) r
  second_same r = rw (same_session false, same_session true, h.ranks false, h.ranks true)

  task_same : (r : ℕ) → task_of_rank p r ≡ task s r
  task_same r = rw (same_session false, same_session true, h.ranks false, h.ranks true)

  pub passed : first_failing (pair_tests p) ≡ 0
  passed =
      pair_passes p (passes (h.each false)) (passes (h.each true))
      (named_same (λ n m rank rank'. none_lacking n m rank rank' ≡ true) is.there)
      (rw (h.long, same_session false, same_session true, same_sizes false) is.room)

  -- ---- one request

  module _ (q : Request) where
    refused_there : ltb q.task (size (pair s)) ≡ false → pair_write_refusal p q ≡ 14
    refused_there e = rank_refused p q passed (rw size_same (ltb-false q.task (size (pair s)) e))

    below : ltb q.task (size (pair s)) ≡ true → q.task < size p
    below e = rw size_same (ltb-true q.task (size (pair s)) e)

    number_is : pair_write_refusal p q ≡ answer_to (outcome_in (pair_terms s) b (fed_of q))
    number_is = go (ltb q.task (size (pair s))) refl
      where
        go : (v : Bool) → ltb q.task (size (pair s)) ≡ v → pair_write_refusal p q ≡ answer_to (outcome_in (pair_terms s) b (fed_of q))
        go false e = refused_there e ∙ sym (ap answer_to (unnamed s q (b q.task) e))
        go true e =
            let second = second? (pair s) q.task in
            its_number p q passed (below e)
            ∙ ap₂ (λ (second : Bool) (t : ℕ). write_refusal (file_of p second) (request_of t q.bytes)) (second_same q.task) (task_same q.task)
            ∙ (step_simulates (h.each second) (own_request s q)).number_is
            ∙ ap (λ (t : Terms). answer_to (outcome_in t (books second) (fed_of (own_request s q)))) (sym (terms_are (start_in s second).plan))
            ∙ ap answer_to (sym (outcome_same s is books h.book q (ltb-true _ _ e)))

    -- the pair after the request of this task of that file
    abbrev written : Bool → ℕ → Pair
    written it t =
        let st = after_write (file_of p it) (request_of t q.bytes) in
        cond it (pair_of p.first st) (pair_of st p.second)

    put_in : (it second : Bool)
        → file_of (written it (task s q.task)) second ≡ writes (file_of p second) (cond (cond second it (not it)) (own_request s q ∷ []) [])
    put_in true true = refl
    put_in true false = refl
    put_in false true = refl
    put_in false false = refl

    file_is : (second : Bool) → file_of (pair_after_write p q) second ≡ writes (file_of p second) (in_file s second (q ∷ []))
    file_is second = go (ltb q.task (size (pair s))) refl
      where
        go : (v : Bool) → ltb q.task (size (pair s)) ≡ v
            → file_of (pair_after_write p q) second ≡ writes (file_of p second) (in_file s second (q ∷ []))
        go false e =
            ap (λ (p : Pair). file_of p second) (refused_left p q (omega (arith, refused_there e)))
            ∙ sym (ap (writes (file_of p second)) (in_none s second q [] e))
        go true e =
            ap (λ (p : Pair). file_of p second) (its_write p q passed (below e) ∙ ap₂ written (second_same q.task) (task_same q.task))
            ∙ put_in (second? (pair s) q.task) second
            ∙ ap (λ (v : Bool).
            writes (file_of p second)
            (cond (v && cond second (second? (pair s) q.task) (not (second? (pair s) q.task))) (own_request s q ∷ []) [])) (sym e)

    next : Follows s (pair_after_write p q) (feed (pair_terms s) b (fed_of q)) (books_after s books q)
    next = record {
      each = λ second.
          let own = in_file s second (q ∷ []) in
          let o = (start_in s second).plan in
          subst (λ (st : State). Simulates (open_session o) (entry o.sizes) (books_after s books q second) st) (sym (file_is second))
          (subst (λ (t : Terms). Simulates (open_session o) (entry o.sizes) (feed_all t (books second) (fed own)) (writes (file_of p second) own))
          (sym (terms_are o)) (run_simulates (h.each second) own).follows);
      ranks = λ second.
          ap (λ (st : State). ranks_of st.lists) (file_is second) ∙ ranks_written (in_file s second (q ∷ [])) (file_of p second) ∙ h.ranks second;
      long =
          ap (λ (st : State). length st.image) (file_is false) ∙ image_as_long (h.each false) (in_file s false (q ∷ [])) ∙ h.long;
      book = agrees_after s is books h.book q;
    }

-- ---- a list of requests

-- the first of them, and then the others
rejoined : (s : PairStart) (second : Bool) (q : Request) (qs : List Request) (st : State)
    → writes (writes st (in_file s second (q ∷ []))) (in_file s second qs) ≡ writes st (in_file s second (q ∷ qs))
rejoined s second q qs st = go (takes s second q.task)
  where
    go : (v : Bool)
        → writes (writes st (cond v (own_request s q ∷ []) [])) (in_file s second qs)
        ≡ writes st (cond v (own_request s q ∷ in_file s second qs) (in_file s second qs))
    go true = refl
    go false = refl

pub record PairRun (s : PairStart) (p : Pair) (b : Tallies) (qs : List Request) : Type 0 where
  pub numbers_are : pair_refusals p qs ≡ answers (pair_terms s) b (fed qs)
  pub file_is : (second : Bool) → file_of (pair_writes p qs) second ≡ writes (file_of p second) (in_file s second qs)
  pub alive : first_failing (pair_tests (pair_writes p qs)) ≡ 0

pub pair_run : (s : PairStart) (is : IsPairStart s) (qs : List Request) {p : Pair} {b : Tallies} {books : Bool → Tallies}
    → Follows s p b books → PairRun s p b qs
pair_run s is [] h = record { numbers_are = refl; file_is = λ second. refl; alive = passed s is h }
pair_run s is (q ∷ qs) {p = p} h =
    let rest = pair_run s is qs (next s is h q) in
    record {
      numbers_are = ap₂ ◌∷◌ (number_is s is h q) rest.numbers_are;
      file_is = λ second.
          rest.file_is second
          ∙ ap (λ (st : State). writes st (in_file s second qs)) (file_is s is h q second)
          ∙ rejoined s second q qs (file_of p second);
      alive = rest.alive;
    }
