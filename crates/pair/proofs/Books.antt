-- One request by rank in the tally over both files: its outcome and its place are those of its file's own request, and the books go on agreeing.
use mathlib.Core.Path.{◌≡◌, refl, sym, ap, ap₂, subst, ◌∙◌}
use mathlib.Core.Bool.{Bool, true, false, cond, not, ◌&&◌}
use mathlib.Core.List.{List, [], ◌∷◌}
use Prim.Native.Nat.{ℕ, ◌<◌}
use lib.Dec.{ltb, eqb}
use lib.ListN.{length}
use borrow.Author.Tests.{ltb-true, lt-ltb, eqb-true, eqb-false, not-true}
use Rattle.lists.proofs.Below.{and_left, and_right}
use Rattle.endian.proofs.Signed.{within_holds}
use Rattle.format.specs.Open.{tasks}
use Rattle.format.specs.Write.{Request, request_of}
use Rattle.format.specs.Tally.{Terms, terms_of, Tally, Tallies, Outcome, refused, empty, stays, moves, outcome, afterwards, offset, fed_of, fed, feed, feed_all}
use Rattle.tally.proofs.Cases.{feed_same, feed_other}
use Rattle.pairs.specs.Sessions.{size, second?}
use Rattle.pair.specs.Start.{PairStart, IsPairStart, pair, task, start_of_rank, pair_terms}
use Rattle.pair.specs.Room.{takes, in_file}
use Rattle.pair.proofs.Names.{start_in, named, task_once}

module _ (s : PairStart) where
  -- what the tally of one file is fed, and a request as that file gets it
  abbrev pub terms_in : Bool → Terms
  terms_in second = terms_of (start_in s second).plan

  abbrev pub own_request : Request → Request
  own_request q = request_of (task s q.task) q.bytes

  -- a book by rank and the books of both files say the same
  abbrev pub Agrees : Tallies → (Bool → Tallies) → Type 0
  Agrees b books = (r : ℕ) → r < size (pair s) → b r ≡ books (second? (pair s) r) (task s r)

  abbrev pub books_after : (Bool → Tallies) → Request → Bool → Tallies
  books_after books q second = feed_all (terms_in second) (books second) (fed (in_file s second (q ∷ [])))

  -- ---- which file takes a request

  pub takes_own : (r : ℕ) → r < size (pair s) → takes s (second? (pair s) r) r ≡ true
  takes_own r l =
      let second = second? (pair s) r in
      ap (λ (b : Bool). b && cond second second (not second)) (lt-ltb r (size (pair s)) l) ∙ go second
    where
      go : (second : Bool) → cond second second (not second) ≡ true
      go true = refl
      go false = refl

  pub takes_only : (second : Bool) (r : ℕ) → takes s second r ≡ true → (r < size (pair s)) × (second? (pair s) r ≡ second)
  takes_only second r e =
      (ltb-true r (size (pair s)) (and_left (ltb r (size (pair s))) _ e), go second (second? (pair s) r) (and_right (ltb r (size (pair s))) _ e))
    where
      go : (second it : Bool) → cond second it (not it) ≡ true → it ≡ second
      go true it e = e
      go false it e = not-true it e

  pub in_own : (q : Request) (qs : List Request) → q.task < size (pair s)
      → in_file s (second? (pair s) q.task) (q ∷ qs) ≡ own_request q ∷ in_file s (second? (pair s) q.task) qs
  in_own q qs l =
      let rest = in_file s (second? (pair s) q.task) qs in
      ap (λ (b : Bool). cond b (own_request q ∷ rest) rest) (takes_own q.task l)

  pub in_none : (second : Bool) (q : Request) (qs : List Request) → ltb q.task (size (pair s)) ≡ false
      → in_file s second (q ∷ qs) ≡ in_file s second qs
  in_none second q qs e =
      let it = second? (pair s) q.task in
      let rest = in_file s second qs in
      ap (λ (b : Bool). cond (b && cond second it (not it)) (own_request q ∷ rest) rest) e

  -- ---- its outcome and its place

  pub unnamed : (q : Request) (x : Tally) → ltb q.task (size (pair s)) ≡ false → outcome (pair_terms s) (fed_of q) x ≡ refused 14
  unfolding outcome
  unnamed q x e = rw e

  pub offset_same : (r : ℕ) (z : Outcome) (x : Tally) → offset (pair_terms s) r z x ≡ offset (terms_in (second? (pair s) r)) (task s r) z x
  offset_same r (refused number) x = refl
  offset_same r empty x = refl
  offset_same r stays x = refl
  offset_same r moves x = refl

  module _ (is : IsPairStart s) where
    named_in : (r : ℕ) → r < size (pair s) → (terms_in (second? (pair s) r)).named (task s r) ≡ true
    named_in r l = let c = (named s is).carries r l in within_holds 1 (tasks (start_of_rank s r).plan) (task s r) c.0 c.1

    module _ {b : Tallies} (books : Bool → Tallies) (agrees : Agrees b books) (q : Request) where
      pub outcome_same : q.task < size (pair s)
          → outcome (pair_terms s) (fed_of q) (b q.task)
          ≡ outcome (terms_in (second? (pair s) q.task)) (fed_of (own_request q)) (books (second? (pair s) q.task) (task s q.task))
      unfolding outcome
      outcome_same l =
          same (b q.task) ∙ ap (outcome (terms_in (second? (pair s) q.task)) (fed_of (own_request q))) (agrees q.task l)
        where
          same : (x : Tally) → outcome (pair_terms s) (fed_of q) x ≡ outcome (terms_in (second? (pair s) q.task)) (fed_of (own_request q)) x
          same x = rw (lt-ltb q.task (size (pair s)) l, named_in q.task l)

      -- ---- the books after it

      own_fed : q.task < size (pair s)
          → feed (pair_terms s) b (fed_of q) q.task ≡ books_after books q (second? (pair s) q.task) (task s q.task)
      own_fed l =
          let second = second? (pair s) q.task in
          feed_same (pair_terms s) b (fed_of q) q.task refl
          ∙ ap₂ (λ (z : Outcome) (x : Tally). afterwards z (length q.bytes) x) (outcome_same l) (agrees q.task l)
          ∙ sym (feed_same (terms_in second) (books second) (fed_of (own_request q)) (task s q.task) refl)
          ∙ ap (λ (l : List Request). feed_all (terms_in second) (books second) (fed l) (task s q.task)) (sym (in_own q [] l))

      other_fed : (r : ℕ) → r < size (pair s) → (q.task ≡ r → ⊥)
          → books_after books q (second? (pair s) r) (task s r) ≡ books (second? (pair s) r) (task s r)
      other_fed r l other = go (takes s (second? (pair s) r) q.task) refl
        where
          go : (v : Bool) → takes s (second? (pair s) r) q.task ≡ v
              → feed_all (terms_in (second? (pair s) r)) (books (second? (pair s) r)) (fed (cond v (own_request q ∷ []) [])) (task s r)
              ≡ books (second? (pair s) r) (task s r)
          go false e = refl
          go true e =
              let (k, same) = takes_only (second? (pair s) r) q.task e in
              feed_other (terms_in (second? (pair s) r)) (books (second? (pair s) r)) (fed_of (own_request q)) (task s r)
              (λ d. other (task_once s is q.task r k l same d))

      pub agrees_after : Agrees (feed (pair_terms s) b (fed_of q)) (books_after books q)
      agrees_after r l = go (eqb q.task r) refl
        where
          go : (v : Bool) → eqb q.task r ≡ v → feed (pair_terms s) b (fed_of q) r ≡ books_after books q (second? (pair s) r) (task s r)
          go true e =
              let same : q.task ≡ r = eqb-true _ _ e in
              subst (λ (r : ℕ). feed (pair_terms s) b (fed_of q) r ≡ books_after books q (second? (pair s) r) (task s r)) same
              (own_fed (subst (λ (r : ℕ). r < size (pair s)) (sym same) l))
          go false e =
              let other = eqb-false q.task r e in
              feed_other (pair_terms s) b (fed_of q) r other ∙ agrees r l ∙ sym (other_fed r l other)
