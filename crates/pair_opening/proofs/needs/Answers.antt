-- File 0's plan, then file 1's, then the ranks of both.
use mathlib.Core.Bool.{not}
use mathlib.Core.Path.{◌≡◌, sym, ap, ◌∙◌}
use Prim.Native.Nat.{ℕ, ◌+◌}
use native.Mathlib.Omega.{arith}
use Rattle.std.proofs.lemmas.Result.{err_from_is_err_and}
use Rattle.lists.proofs.Below.{test_fails, test_holds}
use Rattle.format.specs.declared.head.File.TheVariants.{First, Second}
use Rattle.format.specs.declared.session.Needed.{Needed}
use Rattle.format.specs.Record.{entry}
use Rattle.format.specs.Open.{Opening, opening_of, tasks, needs_answer}
use Rattle.format.proofs.Opening.{PlanHolds, plan_holds, plan_sound, needs_number, needs_lengths}
use Rattle.format.proofs.Refusals.{some_number}
use Rattle.format.proofs.Chunks.{meta2_end_small}
use Rattle.pairs.specs.Mapping.{mapping_length}
use Rattle.pairs.specs.Ranks.{each_once}
use Rattle.pairs.proofs.Ranks.{lacking_once}
use Rattle.pairs.proofs.Opening.{needs_file, first_refused, second_refused, ranks_refused, needed_both}
use Rattle.pair_opening.proofs.needs.Goals as goal

pub returns-in_err-one : goal.returns-in_err-one
returns-in_err-one c =
    let given : Opening = let a = c.args in opening_of First a.plan0 a.ranks0.now a.sizes0.now a.prefix0.now in
    let given' : Opening = let a = c.args in opening_of Second a.plan1 a.ranks1.now a.sizes1.now a.prefix1.now in
    let refusal = c.in_err-one.field-0.0 in
    let e = ap (λ (a : Needed). a.refusal) (c.in_err-one.ensures ∙ needs_file First _ _ _ _) in
    let p = err_from_is_err_and c.from_residual.result c.from_residual.ensures.1 in
    rw (p.1, p.2)
    (ap (λ (r : ℕ). record { refusal = r; image0 = 0; cells0 = 0; image1 = 0; cells1 = 0 }) e
    ∙ first_refused given given' (λ z. omega (arith, e, z, some_number refusal)))

pub returns-in_err-two : goal.returns-in_err-two
returns-in_err-two c =
    let given : Opening = let a = c.args in opening_of First a.plan0 a.ranks0.now a.sizes0.now a.prefix0.now in
    let given' : Opening = let a = c.args in opening_of Second a.plan1 a.ranks1.now a.sizes1.now a.prefix1.now in
    let one = c.in_ok-one.ensures ∙ needs_file First _ _ _ _ in
    let zero : (needs_answer given).refusal ≡ 0 = ap (λ (a : Needed). a.refusal) (sym one) in
    let refusal = c.in_err-two.field-0.0 in
    let e = ap (λ (a : Needed). a.refusal) (c.in_err-two.ensures ∙ needs_file Second _ _ _ _) in
    let p = err_from_is_err_and c.from_residual-in_err-two.result c.from_residual-in_err-two.ensures.1 in
    rw (p.1, p.2)
    (ap (λ (r : ℕ). record { refusal = r; image0 = 0; cells0 = 0; image1 = 0; cells1 = 0 }) e
    ∙ second_refused given given' zero (λ z. omega (arith, e, z, some_number refusal)))

pub none_lacking-requires : goal.none_lacking-requires
none_lacking-requires c =
    let given : Opening = let a = c.args in opening_of First a.plan0 a.ranks0.now a.sizes0.now a.prefix0.now in
    let given' : Opening = let a = c.args in opening_of Second a.plan1 a.ranks1.now a.sizes1.now a.prefix1.now in
    let one = c.in_ok-one.ensures ∙ needs_file First _ _ _ _ in
    let two = c.in_ok-two.ensures ∙ needs_file Second _ _ _ _ in
    let zero : (needs_answer given).refusal ≡ 0 = ap (λ (a : Needed). a.refusal) (sym one) in
    let zero' : (needs_answer given').refusal ≡ 0 = ap (λ (a : Needed). a.refusal) (sym two) in
    let known : PlanHolds given = plan_holds _ (sym (needs_number _) ∙ zero) in
    let known' : PlanHolds given' = plan_holds _ (sym (needs_number _) ∙ zero') in
    (known.few_tasks, known'.few_tasks)

pub returns-then-not-none_lacking : goal.returns-then-not-none_lacking
returns-then-not-none_lacking c =
    let given : Opening = let a = c.args in opening_of First a.plan0 a.ranks0.now a.sizes0.now a.prefix0.now in
    let given' : Opening = let a = c.args in opening_of Second a.plan1 a.ranks1.now a.sizes1.now a.prefix1.now in
    let one = c.in_ok-one.ensures ∙ needs_file First _ _ _ _ in
    let two = c.in_ok-two.ensures ∙ needs_file Second _ _ _ _ in
    let zero : (needs_answer given).refusal ≡ 0 = ap (λ (a : Needed). a.refusal) (sym one) in
    let zero' : (needs_answer given').refusal ≡ 0 = ap (λ (a : Needed). a.refusal) (sym two) in
    let once : c.none_lacking.result ≡ each_once (tasks given) (tasks given') (entry given.ranks) (entry given'.ranks) =
    c.none_lacking.ensures ∙ lacking_once _ _ _ _ in
    ranks_refused given given' zero zero' (test_fails once (ap not c.if-not-none_lacking.true))

pub length_of-requires : goal.length_of-requires
length_of-requires c =
    let given : Opening = let a = c.args in opening_of First a.plan0 a.ranks0.now a.sizes0.now a.prefix0.now in
    let given' : Opening = let a = c.args in opening_of Second a.plan1 a.ranks1.now a.sizes1.now a.prefix1.now in
    let one = c.in_ok-one.ensures ∙ needs_file First _ _ _ _ in
    let two = c.in_ok-two.ensures ∙ needs_file Second _ _ _ _ in
    let zero : (needs_answer given).refusal ≡ 0 = ap (λ (a : Needed). a.refusal) (sym one) in
    let zero' : (needs_answer given').refusal ≡ 0 = ap (λ (a : Needed). a.refusal) (sym two) in
    let known : PlanHolds given = plan_holds _ (sym (needs_number _) ∙ zero) in
    let known' : PlanHolds given' = plan_holds _ (sym (needs_number _) ∙ zero') in
    (known.few_tasks, known'.few_tasks)

pub overflow_add-result : goal.overflow_add-result
unfolding mapping_length
overflow_add-result c =
    let given : Opening = let a = c.args in opening_of First a.plan0 a.ranks0.now a.sizes0.now a.prefix0.now in
    let given' : Opening = let a = c.args in opening_of Second a.plan1 a.ranks1.now a.sizes1.now a.prefix1.now in
    let one = c.in_ok-one.ensures ∙ needs_file First _ _ _ _ in
    let two = c.in_ok-two.ensures ∙ needs_file Second _ _ _ _ in
    let zero : (needs_answer given).refusal ≡ 0 = ap (λ (a : Needed). a.refusal) (sym one) in
    let zero' : (needs_answer given').refusal ≡ 0 = ap (λ (a : Needed). a.refusal) (sym two) in
    let known : PlanHolds given = plan_holds _ (sym (needs_number _) ∙ zero) in
    let known' : PlanHolds given' = plan_holds _ (sym (needs_number _) ∙ zero') in
    omega (
      arith,
      ap (λ (a : Needed). a.image) (one ∙ needs_lengths given (sym (needs_number given) ∙ zero)),
      meta2_end_small (plan_sound given known) given.plan.planned known.few,
      c.length_of.ensures,
      known.few_tasks,
      known'.few_tasks,
    )

pub returns : goal.returns
returns c =
    let given : Opening = let a = c.args in opening_of First a.plan0 a.ranks0.now a.sizes0.now a.prefix0.now in
    let given' : Opening = let a = c.args in opening_of Second a.plan1 a.ranks1.now a.sizes1.now a.prefix1.now in
    let one = c.in_ok-one.ensures ∙ needs_file First _ _ _ _ in
    let two = c.in_ok-two.ensures ∙ needs_file Second _ _ _ _ in
    let zero : (needs_answer given).refusal ≡ 0 = ap (λ (a : Needed). a.refusal) (sym one) in
    let zero' : (needs_answer given').refusal ≡ 0 = ap (λ (a : Needed). a.refusal) (sym two) in
    let once : c.none_lacking.result ≡ each_once (tasks given) (tasks given') (entry given.ranks) (entry given'.ranks) =
    c.none_lacking.ensures ∙ lacking_once _ _ _ _ in
    (λ i. record {
      refusal = 0;
      image0 = (one i).image + c.length_of.ensures i;
      cells0 = (one i).cells;
      image1 = (two i).image;
      cells1 = (two i).cells;
    })
    ∙ needed_both given given' zero zero' (test_holds once (ap not c.if-not-none_lacking.false))
