-- What the tests of a pair's opening answer, part by part, and that a single file's tests pass where they pass.
use mathlib.Core.Path.{◌≡◌, refl, sym, ap, ap₂, ◌∙◌}
use mathlib.Core.Bool.{Bool, true, false, cond, not}
use mathlib.Core.List.{List, [], ◌∷◌, ◌++◌}
use Prim.Native.Nat.{ℕ, ◌+◌, ◌<◌}
use native.Mathlib.Omega.{arith}
use Rattle.format.specs.declared.head.File.{File}
use Rattle.format.specs.declared.head.File.TheVariants.{Single}
use Rattle.format.specs.declared.session.Plan.{Plan}
use Rattle.format.specs.declared.session.Needed.{Needed}
use Rattle.format.specs.Refusals.{test, first_failing}
use Rattle.format.specs.Record.{entry}
use Rattle.format.specs.Open.{Opening, opening_of, tasks, shape_tests, number_tests, plan_tests, needs_answer}
use Rattle.format.proofs.Refusals.{Numbered, first_passes, first_fails, when_accepted, when_refused}
use Rattle.format.proofs.Opening.{needs_number, needs_lengths}
use Rattle.pairs.specs.Ranks.{each_once}
use Rattle.pairs.specs.Open.{mapping_room, pair_plan_tests, pair_needs}

-- what an opening needs is the same of every file
pub needs_file : (f : File) (plan : Plan) (ranks sizes prefix : List ℕ)
    → needs_answer (opening_of Single plan ranks sizes prefix) ≡ needs_answer (opening_of f plan ranks sizes prefix)
unfolding needs_answer plan_tests
needs_file f plan ranks sizes prefix = refl

pub plan_numbered : (o : Opening) → Numbered (plan_tests o)
unfolding plan_tests shape_tests number_tests
plan_numbered o = omega arith

module _ (o o' : Opening) where
  abbrev once : Bool
  once = each_once (tasks o) (tasks o') (entry o.ranks) (entry o'.ranks)

  -- ---- the number of the plans' tests

  first_number : 0 < (needs_answer o).refusal → first_failing (pair_plan_tests o o') ≡ (needs_answer o).refusal
  unfolding pair_plan_tests
  first_number l = let e = needs_number o in first_fails (plan_tests o) _ (omega arith) ∙ sym e

  module _ (zero : (needs_answer o).refusal ≡ 0) where
    rest_number : first_failing (pair_plan_tests o o') ≡ first_failing (plan_tests o' ++ (test 8 (not once) ∷ []))
    unfolding pair_plan_tests
    rest_number = first_passes (plan_tests o) _ (plan_numbered o) (sym (needs_number o) ∙ zero)

    second_number : 0 < (needs_answer o').refusal → first_failing (pair_plan_tests o o') ≡ (needs_answer o').refusal
    second_number l = let e = needs_number o' in rest_number ∙ first_fails (plan_tests o') _ (omega arith) ∙ sym e

    module _ (zero' : (needs_answer o').refusal ≡ 0) where
      ranks_number : first_failing (pair_plan_tests o o') ≡ cond (not once) 8 0
      unfolding first_failing
      ranks_number = rest_number ∙ first_passes (plan_tests o') _ (plan_numbered o') (sym (needs_number o') ∙ zero')

  -- ---- what an opening needs

  refused : {r : ℕ} → 0 < r → first_failing (pair_plan_tests o o') ≡ r
      → record { refusal = r; image0 = 0; cells0 = 0; image1 = 0; cells1 = 0 } ≡ pair_needs o o'
  unfolding pair_needs
  refused {r} some e =
      ap (λ (x : ℕ). record { refusal = x; image0 = 0; cells0 = 0; image1 = 0; cells1 = 0 }) (sym e)
      ∙ sym (when_refused (first_failing (pair_plan_tests o o')) _ _ (rw e some))

  pub first_refused : ((needs_answer o).refusal ≡ 0 → ⊥)
      → record { refusal = (needs_answer o).refusal; image0 = 0; cells0 = 0; image1 = 0; cells1 = 0 } ≡ pair_needs o o'
  first_refused some = let l : 0 < (needs_answer o).refusal = omega arith in refused l (first_number l)

  module _ (zero : (needs_answer o).refusal ≡ 0) where
    pub second_refused : ((needs_answer o').refusal ≡ 0 → ⊥)
        → record { refusal = (needs_answer o').refusal; image0 = 0; cells0 = 0; image1 = 0; cells1 = 0 } ≡ pair_needs o o'
    second_refused some = let l : 0 < (needs_answer o').refusal = omega arith in refused l (second_number zero l)

    module _ (zero' : (needs_answer o').refusal ≡ 0) where
      pub ranks_refused : once ≡ false → record { refusal = 8; image0 = 0; cells0 = 0; image1 = 0; cells1 = 0 } ≡ pair_needs o o'
      ranks_refused e = refused (omega arith) (ranks_number zero zero' ∙ rw e)

      pub needed_both : once ≡ true
          → record {
            refusal = 0;
            image0 = (needs_answer o).image + mapping_room o o';
            cells0 = (needs_answer o).cells;
            image1 = (needs_answer o').image;
            cells1 = (needs_answer o').cells;
          } ≡ pair_needs o o'
      unfolding pair_needs
      needed_both e =
          let one = needs_lengths o (sym (needs_number o) ∙ zero) in
          let two = needs_lengths o' (sym (needs_number o') ∙ zero') in
          ap₂ (λ (a b : Needed). record {
            refusal = 0;
            image0 = a.image + mapping_room o o';
            cells0 = a.cells;
            image1 = b.image;
            cells1 = b.cells;
          }) one two
          ∙ sym (when_accepted (first_failing (pair_plan_tests o o')) _ _ (ranks_number zero zero' ∙ rw e))
