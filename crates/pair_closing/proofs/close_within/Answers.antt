-- Refused, nothing is stored; accepted, what the definitions of closing a pair say.
use mathlib.Core.Path.{◌≡◌, sym, ap, ap₂, ◌∙◌}
use mathlib.Core.List.{List, [], ◌∷◌}
use Prim.Native.Nat.{ℕ, ◌+◌, ◌<◌}
use native.Mathlib.Omega.{arith}
use Rattle.std.proofs.lemmas.Result.{err_from_is_err_and}
use Rattle.format.specs.declared.head.File.TheVariants.{First, Second}
use Rattle.format.specs.Record.{size_of, is_big, end_at}
use Rattle.format.specs.Session.{state_of, as_closed}
use Rattle.format.specs.Close.{meta2_store, last_store, closing_stores}
use Rattle.format.proofs.Passing.{head_tasks, passed_fits}
use Rattle.format.proofs.Refusals.{some_number}
use Rattle.lists.specs.Stores.{store, found}
use Rattle.pairs.specs.Mapping.{mapping_length, mapping}
use Rattle.pairs.specs.Sessions.{Pair, pair_of, tasks₀, tasks₁, ranks₀, ranks₁, mapping_store, first_stores, second_stores, pair_close_refusal}
use Rattle.pair_closing.proofs.Closed.{used₀, used₁, all_there, mapping_inside, accepted_closed, accepted_found, refused_closed, refused_found}
use Rattle.pair_closing.proofs.close_within.Goals as goal
use Rattle.pair_closing.proofs.close_within.Goals.{Start, In_err-test_sessions, In_ok-test_sessions}

-- what is found of each image, closed with m chunks
abbrev found₀ : Pair → ℕ → ℕ → List ℕ
found₀ p b m =
    let st = p.first in
    let h = st.session.head in
    found b st.image
    (meta2_store h st.lists m st.table
    ∷ store (end_at h (size_of st.lists) m) (mapping (tasks₀ p) (tasks₁ p) (ranks₀ p) (ranks₁ p) (is_big h))
    ∷ last_store h st.lists m
    ∷ [])

abbrev found₁ : Pair → ℕ → ℕ → List ℕ
found₁ p b m = let st = p.second in found b st.image (closing_stores st.session.head st.lists m st.table)

abbrev lent : Start → Pair
lent s = let a = s.args in
    pair_of (state_of First a.s0 a.lists0.now a.image0.now a.table0.now) (state_of Second a.s1 a.lists1.now a.image1.now a.table1.now)

-- ---- refused

some : (c : In_err-test_sessions) → 0 < pair_close_refusal (lent (goal.at.In_err-test_sessions c).Start)
unfolding pair_close_refusal
some c = omega (arith, c.in_err-test_sessions.ensures, some_number c.in_err-test_sessions.field-0.0)

pub returns-in_err-test_sessions-clause-value : goal.returns-in_err-test_sessions-clause-value
unfolding pair_close_refusal
returns-in_err-test_sessions-clause-value c =
    let at = goal.at.returns-in_err-test_sessions-clause-value c in
    let a = c.args in
    let p = err_from_is_err_and c.from_residual.result c.from_residual.ensures.1 in
    rw (p.1, p.2)
    (ap (λ (n : ℕ). record { refusal = n; session0 = a.s0; session1 = a.s1; length0 = 0; length1 = 0 }) c.in_err-test_sessions.ensures
    ∙ sym (refused_closed (lent at.Start) (some at.In_err-test_sessions)))

pub returns-in_err-test_sessions-clause-image1_after : goal.returns-in_err-test_sessions-clause-image1_after
returns-in_err-test_sessions-clause-image1_after c =
    let at = goal.at.returns-in_err-test_sessions-clause-image1_after c in
    sym (refused_found (lent at.Start) (some at.In_err-test_sessions) c.args.budget0 c.args.budget1)

-- ---- accepted

zero : (c : In_ok-test_sessions) → pair_close_refusal (lent (goal.at.In_ok-test_sessions c).Start) ≡ 0
unfolding pair_close_refusal
zero c = sym c.in_ok-test_sessions.ensures

pub most_chunks-most0-requires : goal.most_chunks-most0-requires
most_chunks-most0-requires c =
    let at = goal.at.most_chunks-most0-requires c in
    (head_tasks _ _ (used₀ (lent at.Start) (zero at.In_ok-test_sessions)).head).1

pub overflow_cast-most0 : goal.overflow_cast-most0
overflow_cast-most0 c =
    let at = goal.at.overflow_cast-most0 c in
    omega (arith, (used₀ (lent at.Start) (zero at.In_ok-test_sessions)).few, c.most_chunks-most0.ensures)

pub most_chunks-most1-requires : goal.most_chunks-most1-requires
most_chunks-most1-requires c =
    let at = goal.at.most_chunks-most1-requires c in
    (head_tasks _ _ (used₁ (lent at.Start) (zero at.In_ok-test_sessions)).head).1

pub overflow_cast-most1 : goal.overflow_cast-most1
overflow_cast-most1 c =
    let at = goal.at.overflow_cast-most1 c in
    omega (arith, (used₁ (lent at.Start) (zero at.In_ok-test_sessions)).few, c.most_chunks-most1.ensures)

pub finish_first-length0-requires-clause-meta2fits : goal.finish_first-length0-requires-clause-meta2fits
finish_first-length0-requires-clause-meta2fits c =
    let at = goal.at.finish_first-length0-requires-clause-meta2fits c in
    rw c.most_chunks-most0.ensures (
      passed_fits (used₀ (lent at.Start) (zero at.In_ok-test_sessions)) c.told-lists0,
      (head_tasks _ _ (used₁ (lent at.Start) (zero at.In_ok-test_sessions)).head).1,
    )

pub finish_first-length0-requires-clause-lists1_value : goal.finish_first-length0-requires-clause-lists1_value
finish_first-length0-requires-clause-lists1_value c =
    let at = goal.at.finish_first-length0-requires-clause-lists1_value c in
    all_there (lent at.Start) (zero at.In_ok-test_sessions)

pub finish_first-length0-requires-clause-m_in_bounds : goal.finish_first-length0-requires-clause-m_in_bounds
finish_first-length0-requires-clause-m_in_bounds c =
    let at = goal.at.finish_first-length0-requires-clause-m_in_bounds c in
    rw c.most_chunks-most0.ensures (mapping_inside (lent at.Start) (zero at.In_ok-test_sessions))

pub finish-length1-requires : goal.finish-length1-requires
finish-length1-requires c =
    let at = goal.at.finish-length1-requires c in
    rw c.most_chunks-most1.ensures (passed_fits (used₁ (lent at.Start) (zero at.In_ok-test_sessions)) c.told-lists1)

pub returns-clause-value : goal.returns-clause-value
returns-clause-value c =
    let at = goal.at.returns-clause-value c in
    let a = c.args in
    let p = lent at.Start in
    let end =
    c.finish_first-length0.ensures.value
    ∙ ap (λ (m : ℕ). end_at a.s0.head (size_of a.lists0.now) m + mapping_length (tasks₀ p) (tasks₁ p)) c.most_chunks-most0.ensures in
    let end' = c.finish-length1.ensures.value ∙ ap (end_at a.s1.head (size_of a.lists1.now)) c.most_chunks-most1.ensures in
    ap₂ (λ (l l' : ℕ). record { refusal = 0; session0 = as_closed a.s0; session1 = as_closed a.s1; length0 = l; length1 = l' }) end end'
    ∙ sym (accepted_closed p (zero at.In_ok-test_sessions))

pub returns-clause-image1_after : goal.returns-clause-image1_after
unfolding first_stores mapping_store second_stores
returns-clause-image1_after c =
    let at = goal.at.returns-clause-image1_after c in
    let a = c.args in
    let p = lent at.Start in
    let one = c.finish_first-length0.ensures.image0_after ∙ ap (found₀ p a.budget0) c.most_chunks-most0.ensures in
    let two = c.finish-length1.ensures.image_after ∙ ap (found₁ p a.budget1) c.most_chunks-most1.ensures in
    ap₂ (λ (xs ys : List ℕ). (xs, ys)) one two ∙ sym (accepted_found p (zero at.In_ok-test_sessions) a.budget0 a.budget1)
