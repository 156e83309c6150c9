-- File 0, file 1, then the mapping behind META2 of file 0, by the ranks of both records.
use mathlib.Core.Path.{◌≡◌, refl, sym, ap, ◌∙◌}
use native.Mathlib.Omega.{arith}
use borrow.Author.Rules.{rules}
use Rattle.std.specs.Prelude.{Result, Ok, Err, MatchResult, IsErrAnd}
use Rattle.std.proofs.lemmas.Result.{IfOk-at_ok, err_from_is_err_and}
use Rattle.format.specs.declared.fault.Broken.{Broken}
use Rattle.format.specs.declared.loaded.LoadAnswer.{LoadAnswer}
use Rattle.format.specs.declared.head.File.TheVariants.{First, Second}
use Rattle.format.specs.Layout.{meta2_end}
use Rattle.format.specs.Load.{check_answer}
use Rattle.format.specs.Record.{entry, size_of, no_lists}
use Rattle.format.specs.Loaded.{no_loaded}
use Rattle.format.specs.Refusals.{no_fault, number_of, judged, verdict, passed}
use Rattle.format.proofs.Judged.{verdict_of}
use Rattle.format.proofs.Refusals.{some_number}
use Rattle.loading.proofs.LoadAnswers.{accepted_answer, refused_answer}
use Rattle.pairs.specs.Load.{mapping_in}
use Rattle.pair_loading.specs.Answers.{pair_loaded_of}
use Rattle.pair_loading.proofs.Accepted.{found, listed, end_within, end_small, end_is, mapping_judged_holds}
use Rattle.pair_loading.proofs.Checked.{first_refused, second_refused, mapping_refused, accepted}
use Rattle.pair_loading.proofs.judge_into.Goals as goal
use Rattle.pair_loading.proofs.judge_into.Goals.{In_ok-loaded0, In_ok-loaded1, After-meta2_end-end, After-judge-3}

-- ---- what `map_err` was given, by what it gives

mapped_err : {T E D : Type 0} (r : Result T E) (P : E → D → Type 0) (out : Result T D) (d : D) → out ≡ Err d
    → MatchResult r (λ x. out ≡ Ok x) (λ e. IsErrAnd out (P e)) → (e : E) × (r ≡ Err e) × P e d
mapped_err (Ok x) P out d is h = absurd (cc)
mapped_err (Err e) P out d is h = (e, refl, rw is at h)

mapped_ok : {T E D : Type 0} (r : Result T E) (P : E → D → Type 0) (out : Result T D) (x : T) → out ≡ Ok x
    → MatchResult r (λ x. out ≡ Ok x) (λ e. IsErrAnd out (P e)) → r ≡ Ok x
mapped_ok (Ok y) P out x is h = cc
mapped_ok (Err e) P out x is h = absurd (rw is at h)

-- ---- what the check of each file is known to answer

one_of : (s : In_ok-loaded0) → let a = s.args in
    record { loaded = s.in_ok-loaded0.loaded0; lists = s.judge.new.lists; refusal = 0; fault = no_fault } ≡ check_answer First a.image0.now a.cells0
one_of s =
    let was = mapped_ok s.judge.result _ s.map_err.result s.in_ok-loaded0.loaded0 s.in_ok-loaded0.was s.map_err.ensures.cases in
    let e = s.judge.ensures in
    accepted_answer First s.args.image0.now s.args.cells0 (ap judged (sym was) ∙ e.verdict) (IfOk-at_ok _ was e.loaded) (IfOk-at_ok _ was e.accepted)

two_of : (s : In_ok-loaded1) → let a = s.args in
    record { loaded = s.in_ok-loaded1.loaded1; lists = s.judge-2.new.lists; refusal = 0; fault = no_fault } ≡ check_answer Second a.image1.now a.cells1
two_of s =
    let was = mapped_ok s.judge-2.result _ s.map_err-2.result s.in_ok-loaded1.loaded1 s.in_ok-loaded1.was s.map_err-2.ensures.cases in
    let e = s.judge-2.ensures in
    accepted_answer Second s.args.image1.now s.args.cells1 (ap judged (sym was) ∙ e.verdict) (IfOk-at_ok _ was e.loaded) (IfOk-at_ok _ was e.accepted)

-- a refused check of a file
refused_check : Broken → LoadAnswer
refused_check b = record { loaded = no_loaded; lists = no_lists; refusal = number_of b.refusal; fault = b.fault }

no_zero : (b : Broken) → number_of b.refusal ≡ 0 → ⊥
no_zero b z = omega (arith, some_number b.refusal)

pub returns-in_err-loaded0 : goal.returns-in_err-loaded0
returns-in_err-loaded0 c =
    let a = c.args in
    let h = mapped_err c.judge.result _ c.map_err.result c.in_err-loaded0.field-0.0 c.in_err-loaded0.was c.map_err.ensures.cases in
    let broken : c.in_err-loaded0.field-0.0 ≡ record { file = 0; broken = h.0 } = search rules in
    let p = err_from_is_err_and c.from_residual.result c.from_residual.ensures.1 in
    let is = p.1 ∙ ap Err (p.2 ∙ broken) in
    (λ i. pair_loaded_of (is i) c.judge.new.lists a.lists1.now)
    ∙ first_refused a.image0.now a.image1.now a.cells0 a.cells1
    (refused_answer First a.image0.now a.cells0 h.0 (ap judged (sym h.1) ∙ c.judge.ensures.verdict)) (no_zero h.0)

pub returns-in_err-loaded1 : goal.returns-in_err-loaded1
returns-in_err-loaded1 c =
    let a = c.args in
    let s : In_ok-loaded0 = (goal.at.returns-in_err-loaded1 c).In_ok-loaded0 in
    let h = mapped_err c.judge-2.result _ c.map_err-2.result c.in_err-loaded1.field-0.0 c.in_err-loaded1.was c.map_err-2.ensures.cases in
    let broken : c.in_err-loaded1.field-0.0 ≡ record { file = 1; broken = h.0 } = search rules in
    let p = err_from_is_err_and c.from_residual-in_err-loaded1.result c.from_residual-in_err-loaded1.ensures.1 in
    let is = p.1 ∙ ap Err (p.2 ∙ broken) in
    (λ i. pair_loaded_of (is i) c.judge.new.lists c.judge-2.new.lists)
    ∙ second_refused a.image0.now a.image1.now a.cells0 a.cells1 (one_of s) refl
    (refused_answer Second a.image1.now a.cells1 h.0 (ap judged (sym h.1) ∙ c.judge-2.ensures.verdict)) (no_zero h.0)

pub of-requires : goal.of-requires
of-requires c =
    let s : In_ok-loaded0 = (goal.at.of-requires c).In_ok-loaded0 in
    (found First c.args.image0.now c.args.cells0 (one_of s) refl).sound

pub meta2_end-end-requires : goal.meta2_end-end-requires
meta2_end-end-requires c =
    let s : In_ok-loaded0 = (goal.at.meta2_end-end-requires c).In_ok-loaded0 in
    (found First c.args.image0.now c.args.cells0 (one_of s) refl).few

pub shared_ref_as_front-ranks1 : goal.shared_ref_as_front-ranks1
shared_ref_as_front-ranks1 c =
    let s : In_ok-loaded1 = (goal.at.shared_ref_as_front-ranks1 c).In_ok-loaded1 in
    let few = (found Second c.args.image1.now c.args.cells1 (two_of s) refl).sound.tasks in
    omega (arith, few)

-- where META2 of file 0 ends
end_found : (s : After-meta2_end-end) → let one = s.in_ok-loaded0.loaded0 in
    s.meta2_end-end.result ≡ meta2_end one.head.blocksize one.head.n (size_of s.judge.new.lists) one.maxchunks
end_found s =
    let lay = s.of.ensures in
    s.meta2_end-end.ensures ∙ (λ i. meta2_end (lay.blocksize i) (lay.n i) (entry (lay.sizes i)) s.in_ok-loaded0.loaded0.maxchunks)

pub judge-requires-3 : goal.judge-requires-3
judge-requires-3 c =
    let a = c.args in
    let s : In_ok-loaded0 = (goal.at.judge-requires-3 c).In_ok-loaded0 in
    let t : In_ok-loaded1 = (goal.at.judge-requires-3 c).In_ok-loaded1 in
    let e : After-meta2_end-end = (goal.at.judge-requires-3 c).After-meta2_end-end in (
      listed First a.image0.now a.cells0 (one_of s) refl,
      listed Second a.image1.now a.cells1 (two_of t) refl,
      rw (end_found e) (end_within First a.image0.now a.cells0 (one_of s) refl),
      rw (end_found e) (end_small First a.image0.now a.cells0 (one_of s) refl),
    )

-- what the tests of the mapping give
mapping_judged : (s : After-judge-3) → judged s.judge-3.result ≡ verdict (mapping_in s.args.image0.now s.args.image1.now)
mapping_judged s =
    let a = s.args in
    let one = one_of (goal.at.After-judge-3 s).In_ok-loaded0 in
    let two = two_of (goal.at.After-judge-3 s).In_ok-loaded1 in
    let e : After-meta2_end-end = (goal.at.After-judge-3 s).After-meta2_end-end in
    s.judge-3.ensures
    ∙ mapping_judged_holds a.image0.now a.image1.now a.cells0 a.cells1 one two refl refl s.meta2_end-end.result
    (end_found e ∙ end_is First a.image0.now a.cells0 one refl)

pub returns-in_err-map_err : goal.returns-in_err-map_err
returns-in_err-map_err c =
    let a = c.args in
    let s : In_ok-loaded0 = (goal.at.returns-in_err-map_err c).In_ok-loaded0 in
    let t : In_ok-loaded1 = (goal.at.returns-in_err-map_err c).In_ok-loaded1 in
    let m : After-judge-3 = (goal.at.returns-in_err-map_err c).After-judge-3 in
    let h = mapped_err c.judge-3.result _ c.map_err-3.result c.in_err-map_err.field-0.0 c.in_err-map_err.was c.map_err-3.ensures.cases in
    let broken : c.in_err-map_err.field-0.0 ≡ record { file = 0; broken = h.0 } = search rules in
    let p = err_from_is_err_and c.from_residual-in_err-map_err.result c.from_residual-in_err-map_err.ensures.1 in
    let is = p.1 ∙ ap Err (p.2 ∙ broken) in
    (λ i. pair_loaded_of (is i) c.judge.new.lists c.judge-2.new.lists)
    ∙ mapping_refused a.image0.now a.image1.now a.cells0 a.cells1 (one_of s) refl (two_of t) refl {v = verdict_of h.0}
    (ap judged (sym h.1) ∙ mapping_judged m) (no_zero h.0)

pub returns : goal.returns
returns c =
    let a = c.args in
    let s : In_ok-loaded0 = (goal.at.returns c).In_ok-loaded0 in
    let t : In_ok-loaded1 = (goal.at.returns c).In_ok-loaded1 in
    let m : After-judge-3 = (goal.at.returns c).After-judge-3 in
    let was = mapped_ok c.judge-3.result _ c.map_err-3.result c.in_ok-map_err.field-0 c.in_ok-map_err.was c.map_err-3.ensures.cases in
    accepted a.image0.now a.image1.now a.cells0 a.cells1 (one_of s) refl (two_of t) refl {v = passed} (ap judged (sym was) ∙ mapping_judged m) refl
