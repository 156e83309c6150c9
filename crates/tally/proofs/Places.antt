-- Where the bytes of a list of writes stand in the end: each accepted byte where the tally puts it, every other byte as it was, and no block with
-- bytes of two tasks.
use mathlib.Core.Path.{◌≡◌, refl, sym, ap, ◌∙◌}
use mathlib.Core.Bool.{Bool, true, false}
use mathlib.Core.List.{List, [], ◌∷◌}
use Prim.Native.Nat.{ℕ, ◌+◌, ◌/◌, ◌≤◌, ◌<◌}
use native.Mathlib.Omega.{arith}
use lib.Dec.{eqb}
use lib.ListN.{length, get_or}
use borrow.Author.Tests.{eqb-true, eqb-false}
use Rattle.lists.specs.Splice.{splice}
use Rattle.lists.proofs.Splice.{length_splice, get_or_splice_in, splice_other, splice_agree}
use Rattle.format.specs.Write.{Request}
use Rattle.format.specs.Tally.{Terms, Fed, Tally, Tallies, initial, outcome, outcome_in, answer_to, afterwards, feed, feed_all, fed_of, fed, offset_in, Outcome, refused, empty, stays, moves, PlacedAt, here, later}
use Rattle.tally.specs.Simulates.{Reachable, AllReachable}
use Rattle.tally.proofs.Cases.{View, is_refused, is_empty, is_stays, is_moves, refused_some, view, feed_same, feed_other}
use Rattle.tally.proofs.Share.{feed_keeps, reachable_initial, reachable_own}

-- the law of a layout: bytes of two chunks never share a block, and every chunk is inside the first M bytes
pub record Layout (B M : ℕ) (p : Terms) : Type 0 where
  pub apart : (s t k l i j : ℕ) → p.named s ≡ true → p.named t ≡ true → 1 ≤ k → k ≤ p.K s → 1 ≤ l → l ≤ p.K t → i < p.c s → j < p.c t
      → (p.start s k + i) / B ≡ (p.start t l + j) / B → (s ≡ t) × (k ≡ l)
  pub inside : (t k : ℕ) → p.named t ≡ true → 1 ≤ k → k ≤ p.K t → p.start t k + p.c t ≤ M

pub reachable_blank : (p : Terms) → AllReachable p initial
reachable_blank p t = (0, reachable_initial (p.K t) (p.c t))

pub reachable_feed : (p : Terms) (b : Tallies) (a : Fed) → AllReachable p b → AllReachable p (feed p b a)
reachable_feed p b a s t =
    (_, feed_keeps p t (Reachable (p.K t) (p.c t)) (reachable_own p t) b a (s t).0 (s t).1)

-- ---- the image after a write with this outcome, after a request, and after a list of them

abbrev pub stored_image : Outcome → ℕ → List ℕ → List ℕ → List ℕ
stored_image (refused number) at bytes image = image
stored_image empty at bytes image = image
stored_image stays at bytes image = splice image at bytes
stored_image moves at bytes image = splice image at bytes

abbrev pub stored_in : Terms → Tallies → List ℕ → Request → List ℕ
stored_in p b image q = stored_image (outcome_in p b (fed_of q)) (offset_in p b q) q.bytes image

abbrev pub image_after : Terms → Tallies → List ℕ → List Request → List ℕ
image_after p b image [] = image
image_after p b image (q ∷ qs) = image_after p (feed p b (fed_of q)) (stored_in p b image q) qs

-- ---- a byte of a chunk, and one that has been written

-- byte i of chunk k of task t is one that the plan has
pub record InChunk (p : Terms) (t k i : ℕ) : Type 0 where
  pub named : p.named t ≡ true
  pub one : 1 ≤ k
  pub all : k ≤ p.K t
  pub fits : i < p.c t

-- the tally of its task says that it has been written
pub record Taken (x : Tally) (k i : ℕ) : Type 0 where
  pub begun : k ≤ x.u
  pub full : k ≡ x.u → i < x.w

-- what has been written stays so
taken_after : (p : Terms) (a : Fed) (x : Tally) {k i : ℕ} → Taken x k i → Taken (afterwards (outcome p a x) a.L x) k i
taken_after p a x {k} {i} h = go (outcome p a x)
  where
    go : (f : Outcome) → Taken (afterwards f a.L x) k i
    go (refused number) = h
    go empty = h
    go stays = record { begun = h.begun; full = λ e. omega (arith, h.full e) }
    go moves = record { begun = omega arith; full = λ e. absurd (omega arith) }

taken_feed : (p : Terms) (b : Tallies) (a : Fed) {t k i : ℕ} → Taken (b t) k i → Taken (feed p b a t) k i
taken_feed p b a {t} {k} {i} h = go (eqb a.task t) refl
  where
    go : (v : Bool) → eqb a.task t ≡ v → Taken (feed p b a t) k i
    go true e = rw (feed_same p b a t (eqb-true _ _ e)) (taken_after p a (b t) h)
    go false e = rw (feed_other p b a t (eqb-false _ _ e)) h

pub taken_all : (p : Terms) (qs : List Request) (b : Tallies) {t k i : ℕ} → Taken (b t) k i → Taken (feed_all p b (fed qs) t) k i
taken_all p [] b h = h
taken_all p (q ∷ qs) b h = taken_all p qs (feed p b (fed_of q)) (taken_feed p b (fed_of q) h)

-- ---- an accepted write that has bytes

-- it goes to chunk k of its task, from byte i on: bytes that were not written before, and are afterwards
pub record Spot (p : Terms) (b : Tallies) (q : Request) : Type 0 where
  pub k : ℕ
  pub i : ℕ
  pub accepted : answer_to (outcome_in p b (fed_of q)) ≡ 0
  pub is : offset_in p b q ≡ p.start q.task k + i
  pub lays : (image : List ℕ) → stored_in p b image q ≡ splice image (offset_in p b q) q.bytes
  pub named : p.named q.task ≡ true
  pub one : 1 ≤ k
  pub all : k ≤ p.K q.task
  pub fits : i + length q.bytes ≤ p.c q.task
  pub past : (b q.task).u ≤ k
  pub free : k ≡ (b q.task).u → (b q.task).w ≤ i
  pub begun : k ≤ (feed p b (fed_of q) q.task).u
  pub full : i + length q.bytes ≤ (feed p b (fed_of q) q.task).w

module _ (p : Terms) (b : Tallies) (q : Request) (s : AllReachable p b) where
  spot_of : answer_to (outcome_in p b (fed_of q)) ≡ 0 → 0 < length q.bytes → Spot p b q
  spot_of r some = go refl (view p (fed_of q) (b q.task)) r
    where
      same : feed p b (fed_of q) q.task ≡ afterwards (outcome_in p b (fed_of q)) (length q.bytes) (b q.task)
      same = feed_same p b (fed_of q) q.task refl

      go : {f : Outcome} → outcome_in p b (fed_of q) ≡ f → View p (fed_of q) (b q.task) f → answer_to f ≡ 0 → Spot p b q
      go e (is_refused why) n = absurd (refused_some why n)
      go e (is_empty _ none) n = absurd (omega arith)
      go e (is_stays known _ u f) n =
          record {
            k = (b q.task).u;
            i = (b q.task).w;
            accepted = r;
            is = rw e;
            lays = λ image. rw e;
            named = known;
            one = u;
            all = (s q.task).1.most;
            fits = f;
            past = omega arith;
            free = λ _. omega arith;
            begun = rw (same, e) (omega arith);
            full = rw (same, e) (omega arith);
          }
      go e (is_moves known _ f u _) n =
          record {
            k = (b q.task).u + 1;
            i = 0;
            accepted = r;
            is = rw e (omega arith);
            lays = λ image. rw e;
            named = known;
            one = omega arith;
            all = omega arith;
            fits = omega arith;
            past = omega arith;
            free = λ z. absurd (omega arith);
            begun = rw (same, e) (omega arith);
            full = rw (same, e) (omega arith);
          }

  -- a fact of the image after a request, from the two ways it can go
  pub stored_ways : (P : List ℕ → Type 0) (image : List ℕ) → P image → (Spot p b q → P (splice image (offset_in p b q) q.bytes))
      → P (stored_in p b image q)
  stored_ways P image x y = go refl (view p (fed_of q) (b q.task))
    where
      put : answer_to (outcome_in p b (fed_of q)) ≡ 0 → 0 < length q.bytes → P (stored_in p b image q)
      put r some = let z = spot_of r some in rw (z.lays image) (y z)

      go : {f : Outcome} → outcome_in p b (fed_of q) ≡ f → View p (fed_of q) (b q.task) f → P (stored_in p b image q)
      go e (is_refused _) = rw e x
      go e (is_empty _ _) = rw e x
      go e (is_stays _ some _ _) = put (rw e) some
      go e (is_moves _ some _ _ _) = put (rw e) some

-- byte j of such a write is one that the plan has, and one that has been written afterwards
spot_in : {p : Terms} {b : Tallies} {q : Request} (z : Spot p b q) (j : ℕ) → j < length q.bytes → InChunk p q.task z.k (z.i + j)
spot_in z j l = record { named = z.named; one = z.one; all = z.all; fits = omega arith }

spot_taken : {p : Terms} {b : Tallies} {q : Request} (z : Spot p b q) (j : ℕ) → j < length q.bytes
    → Taken (feed p b (fed_of q) q.task) z.k (z.i + j)
spot_taken z j l = record { begun = z.begun; full = λ _. omega arith }

spot_at : {p : Terms} {b : Tallies} {q : Request} (z : Spot p b q) (j : ℕ) → offset_in p b q + j ≡ p.start q.task z.k + (z.i + j)
spot_at z j = omega arith

module _ (B M : ℕ) (p : Terms) (lo : Layout B M p) where
  -- two bytes in one block are bytes of one chunk
  apart_in : {s t k l i j : ℕ} → InChunk p s k i → InChunk p t l j → (p.start s k + i) / B ≡ (p.start t l + j) / B → (s ≡ t) × (k ≡ l)
  apart_in {s} {t} {k} {l} {i} {j} f g e =
      lo.apart s t k l i j f.named g.named f.one f.all g.one g.all f.fits g.fits e

  -- ---- one request

  -- an accepted write that has bytes fits in the image
  pub fits_of : {b : Tallies} {q : Request} (image : List ℕ) → M ≤ length image → Spot p b q
      → offset_in p b q + length q.bytes ≤ length image
  fits_of {q = q} image long z = omega (arith, lo.inside q.task z.k z.named z.one z.all)

  module _ (b : Tallies) (q : Request) (image : List ℕ) (long : M ≤ length image) (s : AllReachable p b) where
    length_stored : length (stored_in p b image q) ≡ length image
    length_stored =
        stored_ways p b q s (λ m. length m ≡ length image) image refl
        λ z. length_splice image (offset_in p b q) q.bytes (fits_of image long z)

    long_stored : M ≤ length (stored_in p b image q)
    long_stored = rw length_stored long

    -- a byte that has been written is not written again
    pub kept : {t k i : ℕ} → InChunk p t k i → Taken (b t) k i
        → get_or (stored_in p b image q) (p.start t k + i) 0 ≡ get_or image (p.start t k + i) 0
    kept {t} {k} {i} f h =
        stored_ways p b q s (λ m. get_or m (p.start t k + i) 0 ≡ get_or image (p.start t k + i) 0) image refl
        λ z. splice_other image (offset_in p b q) q.bytes (p.start t k + i) 0 (fits_of image long z) (clash z)
      where
        clash : Spot p b q → (j : ℕ) → j < length q.bytes → p.start t k + i ≡ offset_in p b q + j → ⊥
        clash z j l e =
            let y : p.start t k + i ≡ p.start q.task z.k + (z.i + j) = e ∙ spot_at z j in
            let v = apart_in f (spot_in z j l) (ap (λ (d : ℕ). d / B) y) in
            let x : b t ≡ b q.task = ap b v.0 in
            let c : (b t).u ≡ (b q.task).u = ap (λ (x : Tally). x.u) x in
            let d : (b t).w ≡ (b q.task).w = ap (λ (x : Tally). x.w) x in
            let n : k ≡ (b t).u = omega (arith, v.1) in
            let o : p.start t k ≡ p.start q.task z.k = cc (v.0, v.1) in
            omega (arith, h.full n, z.free (omega (arith, v.1)))

    -- a byte that is none of those put is as it was
    other : (x : ℕ) → (answer_to (outcome_in p b (fed_of q)) ≡ 0 → (j : ℕ) → j < length q.bytes → x ≡ offset_in p b q + j → ⊥)
        → get_or (stored_in p b image q) x 0 ≡ get_or image x 0
    other x none =
        stored_ways p b q s (λ m. get_or m x 0 ≡ get_or image x 0) image refl
        λ z. splice_other image (offset_in p b q) q.bytes x 0 (fits_of image long z) (none z.accepted)

    -- byte j of those put stands at its place
    put_at : Spot p b q → (j : ℕ) → j < length q.bytes → get_or (stored_in p b image q) (offset_in p b q + j) 0 ≡ get_or q.bytes j 0
    put_at z j l = rw (z.lays image) (get_or_splice_in image (offset_in p b q) q.bytes (fits_of image long z) j 0 l)

  -- ---- a list of requests

  pub length_after : (qs : List Request) (b : Tallies) (m : List ℕ) → M ≤ length m → AllReachable p b → length (image_after p b m qs) ≡ length m
  length_after [] b m long s = refl
  length_after (q ∷ qs) b m long s =
      length_after qs (feed p b (fed_of q)) (stored_in p b m q) (long_stored b q m long s) (reachable_feed p b (fed_of q) s)
      ∙ length_stored b q m long s

  kept_after : (qs : List Request) (b : Tallies) (m : List ℕ) {t k i : ℕ} → M ≤ length m → AllReachable p b → InChunk p t k i → Taken (b t) k i
      → get_or (image_after p b m qs) (p.start t k + i) 0 ≡ get_or m (p.start t k + i) 0
  kept_after [] b m long s f h = refl
  kept_after (q ∷ qs) b m long s f h =
      kept_after qs (feed p b (fed_of q)) (stored_in p b m q) (long_stored b q m long s) (reachable_feed p b (fed_of q) s) f
      (taken_feed p b (fed_of q) h)
      ∙ kept b q m long s f h

  -- each accepted byte stands in the end where the tally puts it
  pub placed : {t x v : ℕ} {b : Tallies} {qs : List Request} (m : List ℕ) → M ≤ length m → AllReachable p b → PlacedAt p t x v b qs
      → get_or (image_after p b m qs) x 0 ≡ v
  placed m long s (here {book = b} {q = q} {qs = qs} e r j l y v) =
      let z = spot_of p b q s r (omega arith) in
      let after =
      kept_after qs (feed p b (fed_of q)) (stored_in p b m q) (long_stored b q m long s) (reachable_feed p b (fed_of q) s) (spot_in z j l)
      (spot_taken z j l) in
      rw (y, v) (rw (spot_at z j) after ∙ put_at b q m long s z j l)
  placed m long s (later {book = b} {q = q} h) =
      placed (stored_in p b m q) (long_stored b q m long s) (reachable_feed p b (fed_of q) s) h

  -- every other byte of the image is as it was
  pub others : (qs : List Request) (b : Tallies) (m : List ℕ) (x : ℕ) → M ≤ length m → AllReachable p b → ((t v : ℕ) → PlacedAt p t x v b qs → ⊥)
      → get_or (image_after p b m qs) x 0 ≡ get_or m x 0
  others [] b m x long s none = refl
  others (q ∷ qs) b m x long s none =
      others qs (feed p b (fed_of q)) (stored_in p b m q) x (long_stored b q m long s) (reachable_feed p b (fed_of q) s)
      (λ t v l. none t v (later l))
      ∙ other b q m long s x (λ r j l e. none q.task (get_or q.bytes j 0) (here refl r j l e refl))

  -- two images that have the same byte at a place have the same there afterwards
  same_stored : (q : Request) (b : Tallies) (m m' : List ℕ) (x : ℕ) → M ≤ length m → M ≤ length m' → AllReachable p b → get_or m x 0 ≡ get_or m' x 0
      → get_or (stored_in p b m q) x 0 ≡ get_or (stored_in p b m' q) x 0
  same_stored q b m m' x long long' s same = go refl (view p (fed_of q) (b q.task))
    where
      put : answer_to (outcome_in p b (fed_of q)) ≡ 0 → 0 < length q.bytes → get_or (stored_in p b m q) x 0 ≡ get_or (stored_in p b m' q) x 0
      put r some =
          let z = spot_of p b q s r some in
          rw (z.lays m, z.lays m')
          (splice_agree m m' (offset_in p b q) q.bytes x 0 (fits_of m long z) (fits_of m' long' z) (λ out. same))

      go : {f : Outcome} → outcome_in p b (fed_of q) ≡ f → View p (fed_of q) (b q.task) f
          → get_or (stored_in p b m q) x 0 ≡ get_or (stored_in p b m' q) x 0
      go e (is_refused _) = rw e same
      go e (is_empty _ _) = rw e same
      go e (is_stays _ some _ _) = put (rw e) some
      go e (is_moves _ some _ _ _) = put (rw e) some

  pub same_after : (qs : List Request) (b : Tallies) (m m' : List ℕ) (x : ℕ) → M ≤ length m → M ≤ length m' → AllReachable p b
      → get_or m x 0 ≡ get_or m' x 0 → get_or (image_after p b m qs) x 0 ≡ get_or (image_after p b m' qs) x 0
  same_after [] b m m' x long long' s same = same
  same_after (q ∷ qs) b m m' x long long' s same =
      same_after qs (feed p b (fed_of q)) (stored_in p b m q) (stored_in p b m' q) x (long_stored b q m long s) (long_stored b q m' long' s)
      (reachable_feed p b (fed_of q) s) (same_stored q b m m' x long long' s same)

  -- ---- no block with bytes of two tasks

  -- an accepted byte is one of a chunk that its task has begun in the end
  pub placed_in : {t x v : ℕ} {b : Tallies} {qs : List Request} → AllReachable p b → PlacedAt p t x v b qs
      → (k : ℕ) × (i : ℕ) × (x ≡ p.start t k + i) × InChunk p t k i × Taken (feed_all p b (fed qs) t) k i
  placed_in s (here {book = b} {q = q} {qs = qs} e r j l y v) =
      let z = spot_of p b q s r (omega arith) in
      rw (← e) (z.k, z.i + j, y ∙ spot_at z j, spot_in z j l, taken_all p qs (feed p b (fed_of q)) (spot_taken z j l))
  placed_in s (later {book = b} {q = q} h) = placed_in (reachable_feed p b (fed_of q) s) h

  pub own_blocks : {s t x y v w : ℕ} {b : Tallies} {qs : List Request} → AllReachable p b → PlacedAt p s x v b qs → PlacedAt p t y w b qs
      → x / B ≡ y / B → s ≡ t
  own_blocks s f g e =
      let a = placed_in s f in
      let c = placed_in s g in
      (apart_in a.3 c.3 (ap (λ (d : ℕ). d / B) (sym a.2) ∙ e ∙ ap (λ (d : ℕ). d / B) c.2)).0
