-- What is decided of a write, by the tests that led there, and what a decision says of it.
use mathlib.Core.Path.{◌≡◌, refl, sym, ap, ◌∙◌}
use mathlib.Core.Bool.{Bool, true, false, cond, ◌&&◌}
use Rattle.std.specs.Prelude.{Option, Some, None}
use Prim.Native.Nat.{ℕ, ◌+◌, ◌-◌, ◌≤◌, ◌<◌}
use native.Mathlib.Omega.{arith}
use lib.Dec.{ltb, leb}
use lib.ListN.{length}
use borrow.Author.Tests.{lt-ltb, le-ltb, le-leb, leb-true, leb-false, eq-eqb, ne_eqb}
use Rattle.endian.proofs.Signed.{within_holds}
use Rattle.format.specs.Refusals.{first_failing}
use Rattle.format.specs.Record.{is_task}
use Rattle.format.specs.Session.{State, session_tests}
use Rattle.format.specs.Write.{Spot, Request, begun, in_last, capacity_of, spot, write_refusal, takes_bytes}
use Rattle.writing.specs.Writing.{Decision, to, nothing, next_chunk, decision}
use Rattle.format.proofs.Answers.{answer_no_task, answer_empty, answer_long, answer_chunk}

module _ (st : State) (q : Request) where
  -- the next chunk, and the last one in use
  spot_next : (ltb 0 (begun st q) && leb (length q.bytes) (capacity_of st q - in_last st q)) ≡ false
      → spot st q ≡ record { chunk = begun st q + 1; from = 0 }
  unfolding spot
  spot_next e = rw e

  pub spot_stays : 0 < begun st q → length q.bytes ≤ capacity_of st q - in_last st q
      → spot st q ≡ record { chunk = begun st q; from = in_last st q }
  unfolding spot
  spot_stays u l = rw (lt-ltb _ _ u, le-leb _ _ l)

  none : (r : ℕ) → 0 < r → write_refusal st q ≡ r → nothing r ≡ decision st q
  unfolding decision
  none r some e = rw (e, ne_eqb r 0 (λ z. omega arith))

  some : 0 < length q.bytes → write_refusal st q ≡ 0 → to (spot st q) ≡ decision st q
  unfolding decision
  some l e = rw (e, ne_eqb (length q.bytes) 0 (λ z. omega arith))

  module _ (passes : first_failing (session_tests st) ≡ 0) where
    pub decide_no_task : is_task st.session.head.n q.task ≡ false → nothing 14 ≡ decision st q
    decide_no_task e = none 14 (omega arith) (answer_no_task st q passes e)

    module _ (first : 1 ≤ q.task) (last : q.task ≤ st.session.head.n) where
      task : is_task st.session.head.n q.task ≡ true
      task = within_holds 1 st.session.head.n q.task first last

      pub decide_empty : length q.bytes ≡ 0 → nothing 0 ≡ decision st q
      unfolding decision
      decide_empty e = rw (answer_empty st q passes task e, eq-eqb (length q.bytes) 0 e)

      module _ (bytes : 0 < length q.bytes) where
        pub decide_long : capacity_of st q < length q.bytes → nothing 15 ≡ decision st q
        decide_long l = none 15 (omega arith) (answer_long st q passes task l)

        module _ (short : length q.bytes ≤ capacity_of st q) where
          answer : write_refusal st q ≡ cond (ltb st.session.planned (spot st q).chunk) 16 0
          answer = answer_chunk st q passes task bytes short

          pub decide_next : (ltb 0 (begun st q) && leb (length q.bytes) (capacity_of st q - in_last st q)) ≡ false
              → next_chunk st.session.planned (begun st q) ≡ decision st q
          unfolding next_chunk
          decide_next e = go (leb (begun st q + 1) st.session.planned) refl
            where
              go : (b : Bool) → leb (begun st q + 1) st.session.planned ≡ b
                  → cond b (to (record { chunk = begun st q + 1; from = 0 })) (nothing 16) ≡ decision st q
              go true f = ap to (sym (spot_next e)) ∙ some bytes (answer ∙ rw (spot_next e, le-ltb _ _ (leb-true _ _ f)))
              go false f = none 16 (omega arith) (answer ∙ rw (spot_next e, lt-ltb _ _ (leb-false _ _ f)))

          pub decide_stays : 0 < begun st q → begun st q ≤ st.session.planned → length q.bytes ≤ capacity_of st q - in_last st q
              → to (record { chunk = begun st q; from = in_last st q }) ≡ decision st q
          decide_stays u f l = ap to (sym (spot_stays u l)) ∙ some bytes (answer ∙ rw (spot_stays u l, le-ltb _ _ f))

-- ---- what a decision says

module _ (st : State) (q : Request) where
  -- refused, or nothing to store
  pub not_stored : (r : ℕ) → nothing r ≡ decision st q → (r ≡ write_refusal st q) × (takes_bytes st q ≡ false)
  unfolding decision
  not_stored r e = (ap (λ (d : Decision). d.refusal) e, go (takes_bytes st q) (ap (λ (d : Decision). d.goes) e))
    where
      go : (b : Bool) → ◌≡◌ {A = Option Spot} None (cond b (Some (spot st q)) None) → b ≡ false
      go true e = cc
      go false e = refl

  -- an accepted request that has bytes
  pub is_stored : (d : Spot) → to d ≡ decision st q → (write_refusal st q ≡ 0) × (takes_bytes st q ≡ true) × (d ≡ spot st q)
  unfolding decision
  is_stored d e =
      let (takes, there) = go (takes_bytes st q) (ap (λ (x : Decision). x.goes) e) in
      (sym (ap (λ (x : Decision). x.refusal) e), takes, there)
    where
      go : (b : Bool) → ◌≡◌ {A = Option Spot} (Some d) (cond b (Some (spot st q)) None) → (b ≡ true) × (d ≡ spot st q)
      go true e = (refl, cc)
      go false e = cc
