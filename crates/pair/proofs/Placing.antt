-- Where the tally over both files puts a byte: where its file's own tally puts it, and the way back.
use mathlib.Core.Path.{◌≡◌, refl, sym, ap, ap₂, subst, ◌∙◌}
use mathlib.Core.Bool.{Bool, true, false, cond}
use mathlib.Core.List.{List, [], ◌∷◌}
use Prim.Native.Nat.{ℕ, ◌+◌, ◌<◌}
use native.Mathlib.Omega.{arith}
use lib.Dec.{ltb}
use lib.ListN.{length, get_or}
use borrow.Author.Tests.{ltb-true}
use Rattle.format.specs.Write.{Request}
use Rattle.format.specs.Tally.{Terms, Tallies, outcome_in, answer_to, offset, offset_in, fed_of, fed, feed_all, PlacedAt, here, later}
use Rattle.pairs.specs.Sessions.{size, second?}
use Rattle.pair.specs.Start.{PairStart, IsPairStart, pair, task, pair_terms}
use Rattle.pair.specs.Room.{takes, in_file}
use Rattle.pair.proofs.Books.{terms_in, own_request, Agrees, books_after, takes_only, in_own, unnamed, offset_same, outcome_same, agrees_after}

-- nothing is put by no requests
none_placed : {p : Terms} {t at value : ℕ} {b : Tallies} → PlacedAt p t at value b [] → ⊥
none_placed = elim [ ]

module _ (s : PairStart) (is : IsPairStart s) where
  -- a request that is accepted has a rank below mapping_size
  accepted_below : (b : Tallies) (q : Request) → answer_to (outcome_in (pair_terms s) b (fed_of q)) ≡ 0 → q.task < size (pair s)
  accepted_below b q r = go (ltb q.task (size (pair s))) refl
    where
      go : (v : Bool) → ltb q.task (size (pair s)) ≡ v → q.task < size (pair s)
      go true e = ltb-true _ _ e
      go false e = absurd (omega (arith, r, ap answer_to (unnamed s q (b q.task) e)))

  module _ {b : Tallies} (books : Bool → Tallies) (agrees : Agrees s b books) (q : Request) (l : q.task < size (pair s)) where
    offset_there : offset_in (pair_terms s) b q
        ≡ offset_in (terms_in s (second? (pair s) q.task)) (books (second? (pair s) q.task)) (own_request s q)
    offset_there =
        offset_same s q.task (outcome_in (pair_terms s) b (fed_of q)) (b q.task)
        ∙ ap₂ (offset (terms_in s (second? (pair s) q.task)) (task s q.task)) (outcome_same s is books agrees q l) (agrees q.task l)

  -- a byte put by rank is put in its file
  pub placed_there : {rank at value : ℕ} {b : Tallies} {qs : List Request} (books : Bool → Tallies) → Agrees s b books
      → PlacedAt (pair_terms s) rank at value b qs
      → (rank < size (pair s))
      × PlacedAt (terms_in s (second? (pair s) rank)) (task s rank) at value (books (second? (pair s) rank)) (in_file s (second? (pair s) rank) qs)
  placed_there {at = at} {value = value} books agrees (here {book = b} {q = q} {qs = qs} e r j m y v) =
      let l = accepted_below b q r in
      let second = second? (pair s) q.task in
      let accepted = ap answer_to (sym (outcome_same s is books agrees q l)) ∙ r in
      let put = here refl accepted j m (y ∙ ap (λ (x : ℕ). x + j) (offset_there books agrees q l)) v in
      subst (λ (rank : ℕ).
      (rank < size (pair s))
      × PlacedAt (terms_in s (second? (pair s) rank)) (task s rank) at value (books (second? (pair s) rank)) (in_file s (second? (pair s) rank) (q ∷ qs))) e
      (l, subst (λ (qs : List Request). PlacedAt (terms_in s second) (task s q.task) at value (books second) qs) (sym (in_own s q qs l)) put)
  placed_there {rank = rank} {at = at} {value = value} books agrees (later {book = b} {q = q} {qs = qs} m) =
      let rest = placed_there (books_after s books q) (agrees_after s is books agrees q) m in
      (rest.0, go (takes s (second? (pair s) rank) q.task) rest.1)
    where
      go : (v : Bool)
          → PlacedAt (terms_in s (second? (pair s) rank)) (task s rank) at value
          (feed_all (terms_in s (second? (pair s) rank)) (books (second? (pair s) rank)) (fed (cond v (own_request s q ∷ []) [])))
          (in_file s (second? (pair s) rank) qs)
          → PlacedAt (terms_in s (second? (pair s) rank)) (task s rank) at value (books (second? (pair s) rank))
          (cond v (own_request s q ∷ in_file s (second? (pair s) rank) qs) (in_file s (second? (pair s) rank) qs))
      go true m = later m
      go false m = m

  -- a byte put in a file is put by a rank of that file
  abbrev pub ByRank : Bool → ℕ → ℕ → Tallies → List Request → Type 0
  ByRank second at value b qs = (rank : ℕ) × (second? (pair s) rank ≡ second) × PlacedAt (pair_terms s) rank at value b qs

  pub placed_back : (qs : List Request) {t at value : ℕ} {b : Tallies} (books : Bool → Tallies) → Agrees s b books → (second : Bool)
      → PlacedAt (terms_in s second) t at value (books second) (in_file s second qs) → ByRank second at value b qs
  placed_back [] books agrees second m = absurd (none_placed m)
  placed_back (q ∷ qs) {t} {at} {value} {b} books agrees second m =
      go (takes s second q.task) refl
      (λ m. let (rank, e, n) = placed_back qs (books_after s books q) (agrees_after s is books agrees q) second m in (rank, e, later n)) m
    where
      put : (l : q.task < size (pair s)) → (second : Bool) → second? (pair s) q.task ≡ second → (j : ℕ) → j < length q.bytes
          → value ≡ get_or q.bytes j 0
          → answer_to (outcome_in (terms_in s second) (books second) (fed_of (own_request s q))) ≡ 0
          → at ≡ offset_in (terms_in s second) (books second) (own_request s q) + j
          → PlacedAt (pair_terms s) q.task at value b (q ∷ qs)
      put l second e j k v =
          subst (λ (second : Bool).
          answer_to (outcome_in (terms_in s second) (books second) (fed_of (own_request s q))) ≡ 0
          → at ≡ offset_in (terms_in s second) (books second) (own_request s q) + j
          → PlacedAt (pair_terms s) q.task at value b (q ∷ qs)) e
          (λ r y.
          let accepted = ap answer_to (outcome_same s is books agrees q l) ∙ r in
          here refl accepted j k (y ∙ ap (λ (x : ℕ). x + j) (sym (offset_there books agrees q l))) v)

      go : (w : Bool) → takes s second q.task ≡ w
          → (PlacedAt (terms_in s second) t at value (feed_all (terms_in s second) (books second) (fed (cond w (own_request s q ∷ []) []))) (in_file s second qs)
          → ByRank second at value b (q ∷ qs))
          → PlacedAt (terms_in s second) t at value (books second) (cond w (own_request s q ∷ in_file s second qs) (in_file s second qs))
          → ByRank second at value b (q ∷ qs)
      go true e rest (here d r j k y v) =
          let (l, same) = takes_only s second q.task e in
          (q.task, same, put l second same j k v r y)
      go true e rest (later m) = rest m
      go false e rest m = rest m
