-- The bytes accepted from a rank are those that its file accepts from its task.
use mathlib.Core.Path.{◌≡◌, refl, sym, ap, ap₂, ◌∙◌}
use mathlib.Core.Bool.{Bool, true, false, cond, ◌&&◌, false≢true}
use mathlib.Core.List.{List, [], ◌∷◌, ◌++◌}
use Prim.Native.Nat.{ℕ, ◌<◌}
use lib.Dec.{eqb}
use borrow.Author.Tests.{eqb-true, eqb-false, eq-eqb, ne_eqb}
use Rattle.format.specs.Write.{Request, accepted}
use Rattle.format.specs.Tally.{Tallies, outcome_in, answer_to, fed_of, fed, feed_all, answers}
use Rattle.pairs.specs.Sessions.{size, second?}
use Rattle.pair.specs.Start.{PairStart, IsPairStart, pair, task, pair_terms}
use Rattle.pair.specs.Room.{takes, in_file}
use Rattle.pair.proofs.Names.{task_once}
use Rattle.pair.proofs.Books.{terms_in, own_request, Agrees, books_after, takes_own, takes_only, outcome_same, agrees_after}

module _ (s : PairStart) (is : IsPairStart s) (r : ℕ) (l : r < size (pair s)) where
  abbrev second : Bool
  second = second? (pair s) r

  -- ---- one request: it gives the rank its bytes where it gives them to the task

  module _ {b : Tallies} (books : Bool → Tallies) (agrees : Agrees s b books) (q : Request) where
    abbrev given : List ℕ
    given = cond (eqb q.task r && eqb (answer_to (outcome_in (pair_terms s) b (fed_of q))) 0) q.bytes []

    abbrev given_there : List ℕ
    given_there =
        cond
        (eqb (task s q.task) (task s r)
        && eqb (answer_to (outcome_in (terms_in s second) (books second) (fed_of (own_request s q)))) 0)
        q.bytes []

    same_name : q.task < size (pair s) → second? (pair s) q.task ≡ second → eqb q.task r ≡ eqb (task s q.task) (task s r)
    same_name k same = go (eqb q.task r) refl
      where
        go : (v : Bool) → eqb q.task r ≡ v → v ≡ eqb (task s q.task) (task s r)
        go true e = sym (eq-eqb _ _ (ap (task s) (eqb-true _ _ e)))
        go false e = sym (ne_eqb _ _ (λ d. eqb-false q.task r e (task_once s is q.task r k l same d)))

    taken : takes s second q.task ≡ true → given ≡ given_there
    taken e =
        let (k, same) = takes_only s second q.task e in
        ap₂ (λ (v : Bool) (x : ℕ). cond (v && eqb x 0) q.bytes []) (same_name k same)
        (ap answer_to (outcome_same s is books agrees q k)
        ∙ ap (λ (it : Bool). answer_to (outcome_in (terms_in s it) (books it) (fed_of (own_request s q)))) same)

    not_taken : takes s second q.task ≡ false → given ≡ []
    not_taken e =
        ap (λ (v : Bool). cond (v && eqb (answer_to (outcome_in (pair_terms s) b (fed_of q))) 0) q.bytes [])
        (ne_eqb q.task r (λ d. false≢true (sym e ∙ ap (takes s second) d ∙ takes_own s r l)))

  -- ---- a list of requests

  pub accepted_there : (qs : List Request) {b : Tallies} (books : Bool → Tallies) → Agrees s b books
      → accepted r qs (answers (pair_terms s) b (fed qs))
      ≡ accepted (task s r) (in_file s second qs) (answers (terms_in s second) (books second) (fed (in_file s second qs)))
  accepted_there [] books agrees = refl
  accepted_there (q ∷ qs) books agrees =
      ap (λ (rest : List ℕ). given books agrees q ++ rest) (accepted_there qs (books_after s books q) (agrees_after s is books agrees q))
      ∙ go (takes s second q.task) refl
    where
      -- what the requests after it give, where it goes to that file or not
      later : Bool → List ℕ
      later v =
          accepted (task s r) (in_file s second qs)
          (answers (terms_in s second) (feed_all (terms_in s second) (books second) (fed (cond v (own_request s q ∷ []) []))) (fed (in_file s second qs)))

      go : (v : Bool) → takes s second q.task ≡ v
          → given books agrees q ++ later v
          ≡ accepted (task s r) (cond v (own_request s q ∷ in_file s second qs) (in_file s second qs))
          (answers (terms_in s second) (books second) (fed (cond v (own_request s q ∷ in_file s second qs) (in_file s second qs))))
      go true e = ap (λ (bytes : List ℕ). bytes ++ later true) (taken books agrees q e)
      go false e = ap (λ (bytes : List ℕ). bytes ++ later false) (not_taken books agrees q e)
