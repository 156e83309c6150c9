-- A request in the middle of a list of writes: its answer, what came before it, and the state and the tally after it.
use mathlib.Core.Path.{◌≡◌, refl, ap}
use mathlib.Core.Bool.{cond, ◌&&◌}
use mathlib.Core.List.{List, [], ◌∷◌, ◌++◌}
use Prim.Native.Nat.{ℕ, ◌+◌}
use lib.Dec.{eqb}
use lib.ListN.{length, get_or}
use Rattle.format.specs.Session.{State}
use Rattle.format.specs.Write.{Request, write_refusal, after_write, writes, refusals}
use Rattle.format.specs.Tally.{Terms, Tallies, outcome_in, answer_to, fed_of, fed, feed, feed_all, answers, held}

-- its answer among the answers to all
pub answer_at : (st : State) (before after : List Request) (q : Request)
    → get_or (refusals st (before ++ (q ∷ after))) (length before) 0 ≡ write_refusal (writes st before) q
answer_at st [] after q = refl
answer_at st (p ∷ before) after q = answer_at (after_write st p) before after q

-- what its task holds before it
pub held_before : (task : ℕ) (st : State) (before rest : List Request)
    → held task (fed before) (refusals st (before ++ rest)) ≡ held task (fed before) (refusals st before)
held_before task st [] rest = refl
held_before task st (q ∷ before) rest =
    ap (◌+◌ (cond (eqb q.task task && eqb (write_refusal st q) 0) (length q.bytes) 0)) (held_before task (after_write st q) before rest)

-- what it leaves
pub after_last : (st : State) (before : List Request) (q : Request) → writes st (before ++ (q ∷ [])) ≡ after_write (writes st before) q
after_last st [] q = refl
after_last st (p ∷ before) q = after_last (after_write st p) before q

pub feed_last : (p : Terms) (b : Tallies) (before : List Request) (q : Request)
    → feed_all p b (fed (before ++ (q ∷ []))) ≡ feed p (feed_all p b (fed before)) (fed_of q)
feed_last p b [] q = refl
feed_last p b (r ∷ before) q = feed_last p (feed p b (fed_of r)) before q

-- ---- the same of the tally's own answers

pub answer_in : (p : Terms) (b : Tallies) (before rest : List Request) (q : Request)
    → get_or (answers p b (fed (before ++ (q ∷ rest)))) (length before) 0 ≡ answer_to (outcome_in p (feed_all p b (fed before)) (fed_of q))
answer_in p b [] rest q = refl
answer_in p b (r ∷ before) rest q = answer_in p (feed p b (fed_of r)) before rest q

pub held_in : (task : ℕ) (p : Terms) (b : Tallies) (before rest : List Request)
    → held task (fed before) (answers p b (fed (before ++ rest))) ≡ held task (fed before) (answers p b (fed before))
held_in task p b [] rest = refl
held_in task p b (q ∷ before) rest =
    ap (◌+◌ (cond (eqb q.task task && eqb (answer_to (outcome_in p b (fed_of q))) 0) (length q.bytes) 0))
    (held_in task p (feed p b (fed_of q)) before rest)
