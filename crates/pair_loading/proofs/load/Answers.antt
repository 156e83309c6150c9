-- Both files and the mapping judged, and where they are accepted the cells of both tables.
use mathlib.Core.Path.{◌≡◌, refl, ◌∙◌}
use native.Mathlib.Omega.{arith}
use lib.ListN.{length}
use Rattle.format.specs.declared.head.File.TheVariants.{First, Second}
use Rattle.format.specs.Load.{check_answer}
use Rattle.format.specs.Refusals.{no_fault}
use Rattle.format.proofs.Refusals.{some_number}
use Rattle.loading.proofs.LoadAnswers.{fault_zeros, fillable, table_filled}
use Rattle.pairs.specs.Load.{pair_loaded}
use Rattle.pair_loading.proofs.Checked.{tables_kept, tables_filled, first_checked, second_checked}
use Rattle.pair_loading.proofs.load.Goals as goal
use Rattle.pair_loading.proofs.load.Goals.{In-Ok}

-- each file's check, where the pair is accepted
one_of : (s : In-Ok) → let a = s.args in
    record { loaded = s.in-Ok.loaded0; lists = s.judge.new.lists0; refusal = 0; fault = no_fault } ≡ check_answer First a.image0.now (length a.table0.now)
one_of s = let a = s.args in first_checked a.image0.now a.image1.now a.table0.now a.table1.now s.in-Ok.ensures.value refl

two_of : (s : In-Ok) → let a = s.args in
    record { loaded = s.in-Ok.loaded1; lists = s.judge.new.lists1; refusal = 0; fault = no_fault } ≡ check_answer Second a.image1.now (length a.table1.now)
two_of s = let a = s.args in second_checked a.image0.now a.image1.now a.table0.now a.table1.now s.in-Ok.ensures.value refl

pub fill-requires : goal.fill-requires
fill-requires c = let s : In-Ok = (goal.at.fill-requires c).In-Ok in fillable First _ _ (one_of s) refl

pub fill-requires-in-Ok : goal.fill-requires-in-Ok
fill-requires-in-Ok c = let s : In-Ok = (goal.at.fill-requires-in-Ok c).In-Ok in fillable Second _ _ (two_of s) refl

pub returns-in-Ok-clause-value : goal.returns-in-Ok-clause-value
unfolding pair_loaded
returns-in-Ok-clause-value c =
    (λ i. record {
      loaded0 = c.in-Ok.loaded0;
      lists0 = c.judge.new.lists0;
      loaded1 = c.in-Ok.loaded1;
      lists1 = c.judge.new.lists1;
      refusal = 0;
      file = 0;
      fault = fault_zeros c.default.result c.default.ensures i;
    })
    ∙ c.in-Ok.ensures.value

pub returns-in-Ok-clause-table1_after : goal.returns-in-Ok-clause-table1_after
returns-in-Ok-clause-table1_after c =
    let s : In-Ok = (goal.at.returns-in-Ok-clause-table1_after c).In-Ok in
    let first = table_filled First _ _ (one_of s) refl c.fill.ensures in
    let second = table_filled Second _ _ (two_of s) refl c.fill-in-Ok.ensures in
    (λ i. (first i, second i)) ∙ tables_filled _ _ _ _ c.in-Ok.ensures.value refl

pub returns-in-Err-clause-value : goal.returns-in-Err-clause-value
unfolding pair_loaded
returns-in-Err-clause-value c = c.no_pair.ensures ∙ c.in-Err.ensures.value

pub returns-in-Err-clause-table1_after : goal.returns-in-Err-clause-table1_after
returns-in-Err-clause-table1_after c = tables_kept _ _ _ _ c.in-Err.ensures.value (λ z. omega (arith, some_number c.in-Err.field-0.broken.refusal))
