-- A write to a pair: what its tests answer, and that one which passes them is its file's own write, with the other file as it was.
use mathlib.Core.Path.{◌≡◌, refl, sym, ap, ◌∙◌}
use mathlib.Core.Bool.{Bool, true, false, cond}
use Prim.Native.Nat.{ℕ, zero, suc, ◌≤◌, ◌<◌}
use native.Mathlib.Omega.{arith}
use lib.Dec.{eqb}
use lib.ListN.{length}
use borrow.Author.Tests.{lt-ltb, le-ltb}
use Rattle.format.specs.Refusals.{first_failing}
use Rattle.format.specs.Session.{State, session_tests}
use Rattle.format.specs.Write.{Request, request_of, request_tests, write_refusal, after_write, write_found}
use Rattle.format.proofs.Refusals.{first_passes, first_fails, when_accepted, when_refused}
use Rattle.format.proofs.Sessions.{session_numbered}
use Rattle.format.proofs.Outcomes.{refused_keeps}
use Rattle.format.proofs.Storing.{refused_write_found, write_whole}
use Rattle.pairs.specs.Sessions.{Pair, pair_of, size, pair_tests, second?, state_of_rank, task_of_rank, with_state, file_request, pair_write_refusal, pair_after_write, pair_write_found}
use Rattle.pairs.proofs.Records.{pair_numbered, pair_passed}

-- where a session's tests pass, a write is refused by its request's
request_number : (st : State) (q : Request) → first_failing (session_tests st) ≡ 0 → first_failing (request_tests st q) ≡ write_refusal st q
unfolding write_refusal
request_number st q e = sym (first_passes (session_tests st) (request_tests st q) (session_numbered st) e)

-- a file's state put back where it came from
pub put_back : (p : Pair) (second : Bool)
    → cond second (pair_of p.first (cond second p.second p.first)) (pair_of (cond second p.second p.first) p.second) ≡ p
put_back p true = refl
put_back p false = refl

module _ (p : Pair) (q : Request) where
  -- ---- the tests

  pub tests_refuse : 0 < first_failing (pair_tests p) → pair_write_refusal p q ≡ first_failing (pair_tests p)
  unfolding pair_write_refusal
  tests_refuse some = first_fails (pair_tests p) _ some

  pub refused_left : 0 < pair_write_refusal p q → pair_after_write p q ≡ p
  unfolding pair_after_write
  refused_left some = when_refused (pair_write_refusal p q) _ _ some

  pub write_refused : (b b' : ℕ) → 0 < pair_write_refusal p q → pair_write_found p q b b' ≡ p
  unfolding pair_write_found
  write_refused b b' some = when_refused (pair_write_refusal p q) _ _ some

  module _ (passed : first_failing (pair_tests p) ≡ 0) where
    pub rank_refused : size p ≤ q.task → pair_write_refusal p q ≡ 14
    unfolding pair_write_refusal first_failing
    rank_refused past = first_passes (pair_tests p) _ (pair_numbered p) passed ∙ rw (le-ltb q.task (size p) past)

    module _ (below : q.task < size p) where
      both_pass : (second : Bool) → first_failing (session_tests (cond second p.second p.first)) ≡ 0
      both_pass true = (pair_passed p passed).1
      both_pass false = (pair_passed p passed).0

      pub its_number : pair_write_refusal p q ≡ write_refusal (state_of_rank p q.task) (file_request p q)
      unfolding pair_write_refusal first_failing
      its_number =
          first_passes (pair_tests p) _ (pair_numbered p) passed
          ∙ rw (lt-ltb q.task (size p) below) (request_number (state_of_rank p q.task) (file_request p q) (both_pass (second? p q.task)))

      -- ---- what is left: its file's own write, whatever the request's tests answer

      pub its_write : pair_after_write p q ≡ with_state p q.task (after_write (state_of_rank p q.task) (file_request p q))
      unfolding pair_after_write
      its_write = go (pair_write_refusal p q) refl
        where
          go : (r : ℕ) → pair_write_refusal p q ≡ r
              → pair_after_write p q ≡ with_state p q.task (after_write (state_of_rank p q.task) (file_request p q))
          go zero e = when_accepted (pair_write_refusal p q) _ _ e
          go (suc r) e =
              let kept = refused_keeps (state_of_rank p q.task) (file_request p q) (omega (arith, e, its_number)) in
              when_refused (pair_write_refusal p q) _ _ (omega arith) ∙ sym (ap (with_state p q.task) kept ∙ put_back p (second? p q.task))

      its_found : (b b' : ℕ)
          → pair_write_found p q b b'
          ≡ with_state p q.task (write_found (state_of_rank p q.task) (file_request p q) (cond (second? p q.task) b' b))
      unfolding pair_write_found
      its_found b b' = go (pair_write_refusal p q) refl
        where
          go : (r : ℕ) → pair_write_refusal p q ≡ r
              → pair_write_found p q b b'
              ≡ with_state p q.task (write_found (state_of_rank p q.task) (file_request p q) (cond (second? p q.task) b' b))
          go zero e = when_accepted (pair_write_refusal p q) _ _ e
          go (suc r) e =
              let kept = refused_write_found (state_of_rank p q.task) (file_request p q) (cond (second? p q.task) b' b) (omega (arith, e, its_number)) in
              write_refused b b' (omega arith) ∙ sym (ap (with_state p q.task) kept ∙ put_back p (second? p q.task))

      module _ {task : ℕ} where
        pub in_first : second? p q.task ≡ false → task_of_rank p q.task ≡ task
            → (pair_write_refusal p q ≡ write_refusal p.first (request_of task q.bytes))
            × ((b b' : ℕ) → pair_write_found p q b b' ≡ pair_of (write_found p.first (request_of task q.bytes) b) p.second)
        in_first e f = (rw (e, f) at its_number, λ b b'. rw (e, f) at (its_found b b'))

        pub in_second_file : second? p q.task ≡ true → task_of_rank p q.task ≡ task
            → (pair_write_refusal p q ≡ write_refusal p.second (request_of task q.bytes))
            × ((b b' : ℕ) → pair_write_found p q b b' ≡ pair_of p.first (write_found p.second (request_of task q.bytes) b'))
        in_second_file e f = (rw (e, f) at its_number, λ b b'. rw (e, f) at (its_found b b'))

  -- budgets that are enough
  pub write_all : (b b' : ℕ) → length q.bytes ≤ b → length q.bytes ≤ b' → pair_write_found p q b b' ≡ pair_after_write p q
  unfolding pair_write_found pair_after_write
  write_all b b' l l' =
      ap (λ (st : State). cond (eqb (pair_write_refusal p q) 0) (with_state p q.task st) p)
      (write_whole (state_of_rank p q.task) (file_request p q) _ (go (second? p q.task)))
    where
      go : (second : Bool) → length q.bytes ≤ cond second b' b
      go true = l'
      go false = l
