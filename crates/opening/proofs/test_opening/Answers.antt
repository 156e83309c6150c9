-- Each return by the tests that led there.
use mathlib.Core.Path.{◌≡◌, refl, sym, ap, subst, ◌∙◌}
use mathlib.Core.Logic.{◌⊎◌, inl, inr}
use Prim.Native.Nat.{ℕ, ◌<◌, ◌≤◌}
use native.Mathlib.Omega.{arith}
use Rattle.std.proofs.lemmas.Result.{err_from_is_err_and}
use Rattle.format.specs.declared.head.File.TheVariants.{Single}
use Rattle.format.specs.declared.session.Needed.{Needed}
use Rattle.format.specs.Open.{Opening, opening_of, needs_answer, open_refusal}
use Rattle.format.proofs.Refusals.{some_number}
use Rattle.format.proofs.Opening.{open_plan, open_short, open_enough}
use Rattle.opening.proofs.test_opening.Goals as goal
use Rattle.opening.proofs.test_opening.Goals.{Start}

-- the opening that the call means
abbrev given : Start → Opening
given s = let a = s.args in opening_of Single a.plan a.ranks.now a.sizes.now a.prefix.now

-- what is answered beside what is needed
module _ (o : Opening) (image cells : ℕ) (r : Needed) (e : r ≡ needs_answer o) where
  refused : 0 < r.refusal → r.refusal ≡ open_refusal o image cells
  refused some = let n = ap (λ (a : Needed). a.refusal) e in n ∙ sym (open_plan o image cells (omega (arith, n, some)))

  short : r.refusal ≡ 0 → (image < r.image) ⊎ (cells < r.cells) → 18 ≡ open_refusal o image cells
  short =
      subst (λ (a : Needed). a.refusal ≡ 0 → (image < a.image) ⊎ (cells < a.cells) → 18 ≡ open_refusal o image cells) (sym e)
      (λ none l. sym (open_short o image cells none l))

  enough : r.refusal ≡ 0 → r.image ≤ image → r.cells ≤ cells → 0 ≡ open_refusal o image cells
  enough =
      subst (λ (a : Needed). a.refusal ≡ 0 → a.image ≤ image → a.cells ≤ cells → 0 ≡ open_refusal o image cells) (sym e)
      (λ none i t. sym (open_enough o image cells none i t))

pub returns-in_err-room : goal.returns-in_err-room
returns-in_err-room c =
    let p = err_from_is_err_and c.from_residual.result c.from_residual.ensures.1 in
    rw (p.1, p.2) (refused (given (goal.at.returns-in_err-room c).Start) c.args.image c.args.cells _ c.in_err-room.ensures (some_number c.in_err-room.field-0.0))

pub returns-then-image-room : goal.returns-then-image-room
returns-then-image-room c =
    short (given (goal.at.returns-then-image-room c).Start) c.args.image c.args.cells _ c.in_ok-room.ensures refl (inl c.if-image-room.true)

pub returns-then-cells-room : goal.returns-then-cells-room
returns-then-cells-room c =
    short (given (goal.at.returns-then-cells-room c).Start) c.args.image c.args.cells _ c.in_ok-room.ensures refl (inr c.if-cells-room.true)

pub returns : goal.returns
returns c =
    enough (given (goal.at.returns c).Start) c.args.image c.args.cells _ c.in_ok-room.ensures refl c.if-image-room.false c.if-cells-room.false
