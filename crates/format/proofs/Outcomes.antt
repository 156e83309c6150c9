-- What a write leaves: the state as it was, where it is refused or has no bytes, and else what it stores; and the numbers that its request may get.
use mathlib.Core.Path.{◌≡◌}
use mathlib.Core.Bool.{Bool, true, false, cond, not, and-false}
use mathlib.Core.List.{[], ◌∷◌}
use Prim.Native.Nat.{ℕ, ◌<◌}
use native.Mathlib.Omega.{arith}
use lib.Dec.{ltb, eqb}
use lib.ListN.{length}
use borrow.Author.Tests.{eq-eqb, ne_eqb}
use Rattle.format.specs.Refusals.{test}
use Rattle.format.specs.Record.{is_task}
use Rattle.format.specs.Session.{State}
use Rattle.format.proofs.Refusals.{Each}
use Rattle.format.specs.Write.{Request, capacity_of, spot, request_tests, write_refusal, stored, after_write}

module _ (st : State) (q : Request) where
  pub refused_keeps : 0 < write_refusal st q → after_write st q ≡ st
  unfolding after_write
  refused_keeps l = rw (ne_eqb (write_refusal st q) 0 (λ e. omega arith))

  pub empty_keeps : length q.bytes ≡ 0 → after_write st q ≡ st
  unfolding after_write
  empty_keeps e = rw (eq-eqb (length q.bytes) 0 e, and-false (eqb (write_refusal st q) 0))

  pub accepted_stores : write_refusal st q ≡ 0 → 0 < length q.bytes → after_write st q ≡ stored st q
  unfolding after_write
  accepted_stores e some = rw (e, ne_eqb (length q.bytes) 0 (λ z. omega arith))

  -- with bytes and without
  pub request_numbers : (P : ℕ → Type 0) → P 14 → P 15 → P 16 → Each (λ t. P t.number) (request_tests st q)
  unfolding request_tests
  request_numbers P task size room = go (eqb (length q.bytes) 0)
    where
      go : (b : Bool)
          → Each (λ t. P t.number)
          (test 14 (not (is_task st.session.head.n q.task))
          ∷ cond b [] (test 15 (ltb (capacity_of st q) (length q.bytes)) ∷ test 16 (ltb st.session.planned (spot st q).chunk) ∷ []))
      go true = (task, tt)
      go false = (task, (size, (room, tt)))
