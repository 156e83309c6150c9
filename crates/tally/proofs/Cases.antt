-- The cases of the tally with what is known in each, and one write as each task sees it.
use mathlib.Core.Path.{◌≡◌, sym, ap}
use mathlib.Core.Bool.{true, false, ◌&&◌}
use Prim.Native.Nat.{ℕ, ◌+◌, ◌≤◌, ◌<◌}
use native.Mathlib.Omega.{arith}
use lib.Dec.{leb}
use borrow.Author.Tests.{ltb-true, ltb-false, leb-true, leb-false, eqb-true, eqb-false, not-false, not-true}
use borrow.Author.Tests.{le-leb, eq-eqb, ne_eqb}
use Rattle.lists.proofs.Below.{and_left, and_right, either_way}
use Rattle.format.specs.Tally.{Terms, Fed, Tally, Tallies, outcome, afterwards, feed, Outcome, refused, empty, stays, moves}

-- what is known of a write that is refused with a number, and of its task's tally
pub data Refused (p : Terms) (a : Fed) (x : Tally) : ℕ → Type 0 where
  no_task : p.named a.task ≡ false → Refused p a x 14
  too_long : p.named a.task ≡ true → 0 < a.L → p.c a.task < a.L → Refused p a x 15
  no_room : p.named a.task ≡ true → 0 < a.L → a.L ≤ p.c a.task → p.K a.task ≤ x.u
      → (0 < x.u → p.c a.task < x.w + a.L) → Refused p a x 16

-- what is known in each of the tally's cases
pub data View (p : Terms) (a : Fed) (x : Tally) : Outcome → Type 0 where
  is_refused : {number : ℕ} → Refused p a x number → View p a x (refused number)
  is_empty : p.named a.task ≡ true → a.L ≡ 0 → View p a x empty
  is_stays : p.named a.task ≡ true → 0 < a.L → 0 < x.u → x.w + a.L ≤ p.c a.task → View p a x stays
  is_moves : p.named a.task ≡ true → 0 < a.L → a.L ≤ p.c a.task → x.u < p.K a.task
      → (0 < x.u → p.c a.task < x.w + a.L) → View p a x moves

-- a refusal is not the answer 0
pub refused_some : {p : Terms} {a : Fed} {x : Tally} {number : ℕ} → Refused p a x number → number ≡ 0 → ⊥
refused_some (no_task _) e = omega arith
refused_some (too_long _ _ _) e = omega arith
refused_some (no_room _ _ _ _ _) e = omega arith

-- the bytes do not go on in the chunk in use: the test and what it says
stay_false : (u n c : ℕ) → (leb 1 u && leb n c) ≡ false → 0 < u → c < n
stay_false u n c e k = leb-false n c (rw (le-leb 1 u k) at e)

module _ (p : Terms) (a : Fed) (x : Tally) where
  pub view : View p a x (outcome p a x)
  unfolding outcome
  view =
      either_way (View p a x) _ (λ e. is_refused (no_task (not-true _ e))) λ e.
      let named = not-false _ e in
      either_way (View p a x) _ (λ e. is_empty named (eqb-true _ _ e)) λ e.
      let some : 0 < a.L = omega (arith, eqb-false) in
      either_way (View p a x) _ (λ e. is_refused (too_long named some (ltb-true _ _ e))) λ e.
      let fits : a.L ≤ p.c a.task = ltb-false _ _ e in
      either_way (View p a x) _
      (λ e.
      is_stays named some (leb-true 1 x.u (and_left (leb 1 x.u) _ e))
      (leb-true _ _ (and_right (leb 1 x.u) _ e)))
      λ e.
      let more = stay_false x.u (x.w + a.L) (p.c a.task) e in
      either_way (View p a x) _
      (λ e. is_moves named some fits (ltb-true _ _ e) more)
      (λ e. is_refused (no_room named some fits (ltb-false _ _ e) more))

-- ---- one write: what it leaves of its own task's tally, and of any other's

module _ (p : Terms) (b : Tallies) (a : Fed) (task : ℕ) where
  pub feed_same : a.task ≡ task → feed p b a task ≡ afterwards (outcome p a (b task)) a.L (b task)
  unfolding feed
  feed_same e = rw (eq-eqb task a.task (sym e)) (ap (λ (t : ℕ). afterwards (outcome p a (b t)) a.L (b task)) e)

  pub feed_other : (a.task ≡ task → ⊥) → feed p b a task ≡ b task
  unfolding feed
  feed_other other = rw (ne_eqb task a.task (λ e. other (sym e)))
