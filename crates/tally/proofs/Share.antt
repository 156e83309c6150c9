-- A task's share of the tally, from any number of chunks already used: its answers depend on its own requests alone, how much it holds, and when
-- it is refused for room.
use mathlib.Core.Path.{◌≡◌, refl, ap, ◌∙◌}
use mathlib.Core.Bool.{Bool, true, false, cond, ◌&&◌}
use mathlib.Core.List.{List, [], ◌∷◌}
use Prim.Native.Nat.{ℕ, zero, suc, ◌+◌, ◌-◌, ◌*◌, ◌≤◌, ◌<◌}
use native.Mathlib.Nat.{add_assoc, add-zero, zero-add, suc-mul, mul-suc, mul-le-mul_right}
use native.Mathlib.Numerals.{add-one}
use native.Mathlib.Omega.{arith}
use lib.Dec.{eqb}
use borrow.Author.Tests.{eqb-true, eqb-false}
use Rattle.format.specs.Tally.{Terms, Fed, Tally, Tallies, Outcome, outcome, outcome_in, answer_to, afterwards, feed, feed_all, answers, held, own, own_answers}
use Rattle.tally.specs.Simulates.{Reachable}
use Rattle.tally.proofs.Cases.{View, is_refused, is_empty, is_stays, is_moves, no_task, too_long, no_room, view, feed_same, feed_other}

-- a task's answers are the tally's for its own requests alone
pub alone : (p : Terms) (task : ℕ) (qs : List Fed) (b b' : Tallies) → b task ≡ b' task
    → own_answers task qs (answers p b qs) ≡ answers p b' (own task qs)
alone p task [] b b' h = refl
alone p task (a ∷ qs) b b' h = go (eqb a.task task) refl (alone p task qs)
  where
    go : (v : Bool) → eqb a.task task ≡ v
        → ((b b' : Tallies) → b task ≡ b' task → own_answers task qs (answers p b qs) ≡ answers p b' (own task qs))
        → own_answers task (a ∷ qs) (answers p b (a ∷ qs)) ≡ answers p b' (own task (a ∷ qs))
    go true e rest =
        let q : a.task ≡ task = eqb-true _ _ e in
        let s : b a.task ≡ b' a.task = rw q h in
        let next : feed p b a task ≡ feed p b' a task = rw (feed_same p b a task q, feed_same p b' a task q, h) in
        rw (e, rest (feed p b a) (feed p b' a) next, s)
    go false e rest = rw e (rest (feed p b a) b' (feed_other p b a task (eqb-false _ _ e) ∙ h))

-- ---- what a task holds, as one write after the other is fed to the tally

-- what is said of a task's tally and of the bytes that it holds, where one write of the task keeps it
module _ (p : Terms) (task : ℕ) (P : Tally → ℕ → Type 0)
    (step : (a : Fed) (x : Tally) (h : ℕ) → a.task ≡ task → P x h
    → P (afterwards (outcome p a x) a.L x) (h + cond (eqb (answer_to (outcome p a x)) 0) a.L 0)) where
  pub feed_keeps : (b : Tallies) (a : Fed) (h : ℕ) → P (b task) h
      → P (feed p b a task) (h + cond (eqb a.task task && eqb (answer_to (outcome_in p b a)) 0) a.L 0)
  feed_keeps b a h g = go (eqb a.task task) refl
    where
      go : (v : Bool) → eqb a.task task ≡ v
          → P (feed p b a task) (h + cond (v && eqb (answer_to (outcome_in p b a)) 0) a.L 0)
      go true e =
          let q : a.task ≡ task = eqb-true _ _ e in
          rw (feed_same p b a task q, ← ap b q) (step a (b a.task) h q (rw (ap b q) g))
      go false e = rw (feed_other p b a task (eqb-false _ _ e), add-zero) g

  pub all_keep : (qs : List Fed) (b : Tallies) (h : ℕ) → P (b task) h → P (feed_all p b qs task) (h + held task qs (answers p b qs))
  all_keep [] b h g = rw add-zero g
  all_keep (a ∷ qs) b h g = rw (← add_assoc) (all_keep qs (feed p b a) _ (feed_keeps b a h g))

-- ---- no chunk holds more than c

pub reachable_initial : (K c : ℕ) → Reachable K c (record { u = 0; w = 0 }) 0
reachable_initial K c = record { high = λ k. absurd (omega arith); fresh = λ e. (refl, refl); last = omega arith; most = omega arith }

moves_high : (u w c h l : ℕ) → (0 < u → h + c ≤ u * c + w) → (u ≡ 0 → (h ≡ 0) × (w ≡ 0)) → w ≤ c → h + l + c ≤ (u + 1) * c + l
moves_high zero w c h l g f k = omega (arith, f refl)
moves_high (suc v) w c h l g f k = rw (add-one, suc-mul (suc v) c) (omega (arith, g (omega arith)))

reachable_step : (p : Terms) (a : Fed) (x : Tally) (h : ℕ) → Reachable (p.K a.task) (p.c a.task) x h
    → Reachable (p.K a.task) (p.c a.task) (afterwards (outcome p a x) a.L x) (h + cond (eqb (answer_to (outcome p a x)) 0) a.L 0)
reachable_step p a x h g = go (view p a x)
  where
    go : {f : Outcome} → View p a x f → Reachable (p.K a.task) (p.c a.task) (afterwards f a.L x) (h + cond (eqb (answer_to f) 0) a.L 0)
    go (is_refused (no_task _)) = rw add-zero g
    go (is_refused (too_long _ _ _)) = rw add-zero g
    go (is_refused (no_room _ _ _ _ _)) = rw add-zero g
    go (is_empty _ e) = rw (e, add-zero) g
    go (is_stays _ _ k l) =
        record { high = λ _. omega (arith, g.high k); fresh = λ e. absurd (omega arith); last = l; most = g.most }
    go (is_moves _ _ l k m) =
        record {
          high = λ _. moves_high x.u x.w (p.c a.task) h a.L g.high g.fresh g.last;
          fresh = λ e. absurd (omega arith);
          last = l;
          most = omega arith;
        }

-- the same by a task's number
pub reachable_own : (p : Terms) (task : ℕ) (a : Fed) (x : Tally) (h : ℕ) → a.task ≡ task → Reachable (p.K task) (p.c task) x h
    → Reachable (p.K task) (p.c task) (afterwards (outcome p a x) a.L x) (h + cond (eqb (answer_to (outcome p a x)) 0) a.L 0)
reachable_own p task a x h e g = rw (ap p.K e, ap p.c e) at (reachable_step p a x h (rw (ap p.K e, ap p.c e) g))

pub reachable_all : (p : Terms) (task : ℕ) (qs : List Fed) (b : Tallies) (h : ℕ) → Reachable (p.K task) (p.c task) (b task) h
    → Reachable (p.K task) (p.c task) (feed_all p b qs task) (h + held task qs (answers p b qs))
reachable_all p task = all_keep p task (Reachable (p.K task) (p.c task)) (reachable_own p task)

-- so a task holds no more than K times c
pub at_most : {K c h : ℕ} {x : Tally} → Reachable K c x h → h ≤ K * c
at_most {K} {c} {h} {x} g = go x.u refl
  where
    go : (u : ℕ) → x.u ≡ u → h ≤ K * c
    go zero e = omega (arith, g.fresh e)
    go (suc v) e = omega (arith, g.high (omega arith), mul-le-mul_right c g.most)

-- ---- of the chunks that are begun, two neighbours hold more than c together

-- a task that had begun u0 chunks, and that was given h bytes since
pub record ShareInvariant (c u0 : ℕ) (x : Tally) (h : ℕ) : Type 0 where
  pub since : u0 ≤ x.u
  pub low : (x.u - u0) * suc c + x.w ≤ 2 * h + suc c

share_initial : (c : ℕ) (x : Tally) → x.w ≤ c → ShareInvariant c x.u x 0
share_initial c x l = record { since = omega arith; low = let z : x.u - x.u ≡ 0 = omega arith in rw z (omega arith) }

-- one more chunk
moves_low : (d w c h l : ℕ) → d * suc c + w ≤ 2 * h + suc c → (0 < d → c < w + l) → suc d * suc c + l ≤ 2 * (h + l) + suc c
moves_low zero w c h l g f = omega arith
moves_low (suc d) w c h l g f = rw (suc-mul (suc d) (suc c)) (omega (arith, f (omega arith)))

share_step : (p : Terms) (u0 : ℕ) (a : Fed) (x : Tally) (h : ℕ) → ShareInvariant (p.c a.task) u0 x h
    → ShareInvariant (p.c a.task) u0 (afterwards (outcome p a x) a.L x) (h + cond (eqb (answer_to (outcome p a x)) 0) a.L 0)
share_step p u0 a x h g = go (view p a x)
  where
    go : {f : Outcome} → View p a x f → ShareInvariant (p.c a.task) u0 (afterwards f a.L x) (h + cond (eqb (answer_to f) 0) a.L 0)
    go (is_refused (no_task _)) = rw add-zero g
    go (is_refused (too_long _ _ _)) = rw add-zero g
    go (is_refused (no_room _ _ _ _ _)) = rw add-zero g
    go (is_empty _ e) = rw (e, add-zero) g
    go (is_stays _ _ k l) = record { since = g.since; low = omega (arith, g.low) }
    go (is_moves _ _ l k m) =
        let e : x.u + 1 - u0 ≡ suc (x.u - u0) = omega (arith, g.since) in
        record {
          since = omega (arith, g.since);
          low = rw e (moves_low (x.u - u0) x.w (p.c a.task) h a.L g.low (λ j. m (omega arith)));
        }

pub share_all : (p : Terms) (task : ℕ) (qs : List Fed) (b : Tallies) → (b task).w ≤ p.c task
    → ShareInvariant (p.c task) (b task).u (feed_all p b qs task) (held task qs (answers p b qs))
share_all p task qs b l =
    rw zero-add at
    (all_keep p task (ShareInvariant (p.c task) (b task).u)
    (λ a x h e g. rw (ap p.c e) at (share_step p (b task).u a x h (rw (ap p.c e) g))) qs b 0 (share_initial (p.c task) (b task) l))

-- ---- when it is refused for room

full : (K u c w h l : ℕ) → K ≤ u → 0 < l → u * suc c + w ≤ 2 * h + suc c → (0 < u → c < w + l) → K * c < 2 * (h + l)
full zero u c w h l k s g f = omega arith
full (suc j) u c w h l k s g f = omega (arith, f (omega arith), mul-suc u c, mul-le-mul_right c k)

-- refused for room only if twice the bytes exceed c times the chunks that were not begun at first
pub refused_full : (p : Terms) (u0 : ℕ) (a : Fed) (x : Tally) (h : ℕ) → ShareInvariant (p.c a.task) u0 x h
    → answer_to (outcome p a x) ≡ 16 → (p.K a.task - u0) * p.c a.task < 2 * (h + a.L)
refused_full p u0 a x h g = go (view p a x)
  where
    go : {f : Outcome} → View p a x f → answer_to f ≡ 16 → (p.K a.task - u0) * p.c a.task < 2 * (h + a.L)
    go (is_refused (no_task _)) e = absurd (omega arith)
    go (is_refused (too_long _ _ _)) e = absurd (omega arith)
    go (is_refused (no_room _ s _ k m)) e =
        full (p.K a.task - u0) (x.u - u0) (p.c a.task) x.w h a.L (omega arith) s g.low (λ j. m (omega arith))
    go (is_empty _ _) e = absurd (omega arith)
    go (is_stays _ _ _ _) e = absurd (omega arith)
    go (is_moves _ _ _ _ _) e = absurd (omega arith)
