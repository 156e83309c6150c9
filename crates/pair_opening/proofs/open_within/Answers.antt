-- Refused, nothing is stored; accepted, each file's opening.
use mathlib.Core.Path.{sym, ap, ap₂, ◌∙◌}
use Prim.Native.Nat.{ℕ, ◌<◌}
use native.Mathlib.Omega.{arith}
use lib.ListN.{length}
use Rattle.format.specs.declared.head.File.TheVariants.{First, Second}
use Rattle.format.specs.declared.session.Opened.{Opened}
use Rattle.format.specs.Record.{no_lists}
use Rattle.format.specs.Session.{no_session}
use Rattle.format.specs.Open.{Opening, opening_of}
use Rattle.format.proofs.Opening.{opened_answer}
use Rattle.format.proofs.Refusals.{some_number}
use Rattle.pairs.specs.Open.{pair_open_refusal}
use Rattle.pair_opening.proofs.Opened.{first_opens, second_opens, accepted_pair, accepted_found, accepted_tables}
use Rattle.pair_opening.proofs.Opened.{refused_pair, refused_found, refused_tables}
use Rattle.pair_opening.proofs.open_within.Goals as goal

pub returns-in-Err-clause-value : goal.returns-in-Err-clause-value
returns-in-Err-clause-value c =
    let a = c.args in
    let o : Opening = opening_of First a.plan0 a.ranks0.now a.sizes0.now a.prefix0.now in
    let o' : Opening = opening_of Second a.plan1 a.ranks1.now a.sizes1.now a.prefix1.now in
    let e = c.in-Err.ensures in
    let some : 0 < pair_open_refusal o o' (length a.image0.now) (length a.table0.now) (length a.image1.now) (length a.table1.now) =
    omega (arith, e, some_number c.in-Err.refusal) in
    c.no_pair.ensures
    ∙ ap (λ (n : ℕ). record { session0 = no_session; lists0 = no_lists; session1 = no_session; lists1 = no_lists; refusal = n }) e
    ∙ sym (refused_pair o o' a.image0.now a.table0.now a.image1.now a.table1.now some)

pub returns-in-Err-clause-image1_after : goal.returns-in-Err-clause-image1_after
returns-in-Err-clause-image1_after c =
    let a = c.args in
    let o : Opening = opening_of First a.plan0 a.ranks0.now a.sizes0.now a.prefix0.now in
    let o' : Opening = opening_of Second a.plan1 a.ranks1.now a.sizes1.now a.prefix1.now in
    let e = c.in-Err.ensures in
    let some : 0 < pair_open_refusal o o' (length a.image0.now) (length a.table0.now) (length a.image1.now) (length a.table1.now) =
    omega (arith, e, some_number c.in-Err.refusal) in
    sym (refused_found o o' a.image0.now a.table0.now a.image1.now a.table1.now some a.budget0 a.budget1)

pub returns-in-Err-clause-table1_after : goal.returns-in-Err-clause-table1_after
returns-in-Err-clause-table1_after c =
    let a = c.args in
    let o : Opening = opening_of First a.plan0 a.ranks0.now a.sizes0.now a.prefix0.now in
    let o' : Opening = opening_of Second a.plan1 a.ranks1.now a.sizes1.now a.prefix1.now in
    let e = c.in-Err.ensures in
    let some : 0 < pair_open_refusal o o' (length a.image0.now) (length a.table0.now) (length a.image1.now) (length a.table1.now) =
    omega (arith, e, some_number c.in-Err.refusal) in
    sym (refused_tables o o' a.image0.now a.table0.now a.image1.now a.table1.now some)

pub begin-one-requires : goal.begin-one-requires
begin-one-requires c =
    let a = c.args in
    let o : Opening = opening_of First a.plan0 a.ranks0.now a.sizes0.now a.prefix0.now in
    let o' : Opening = opening_of Second a.plan1 a.ranks1.now a.sizes1.now a.prefix1.now in
    let zero = sym c.in_default.ensures in
    first_opens o o' _ _ _ _ zero

pub begin-two-requires : goal.begin-two-requires
begin-two-requires c =
    let a = c.args in
    let o : Opening = opening_of First a.plan0 a.ranks0.now a.sizes0.now a.prefix0.now in
    let o' : Opening = opening_of Second a.plan1 a.ranks1.now a.sizes1.now a.prefix1.now in
    let zero = sym c.in_default.ensures in
    second_opens o o' _ _ _ _ zero

pub returns-clause-value : goal.returns-clause-value
returns-clause-value c =
    let a = c.args in
    let o : Opening = opening_of First a.plan0 a.ranks0.now a.sizes0.now a.prefix0.now in
    let o' : Opening = opening_of Second a.plan1 a.ranks1.now a.sizes1.now a.prefix1.now in
    let zero = sym c.in_default.ensures in
    let first = c.begin-one.ensures.value ∙ opened_answer o a.image0.now a.table0.now (first_opens o o' _ _ _ _ zero) in
    let second = c.begin-two.ensures.value ∙ opened_answer o' a.image1.now a.table1.now (second_opens o o' _ _ _ _ zero) in
    ap₂ (λ (x y : Opened). record { session0 = x.session; lists0 = x.lists; session1 = y.session; lists1 = y.lists; refusal = 0 }) first second
    ∙ sym (accepted_pair o o' a.image0.now a.table0.now a.image1.now a.table1.now zero)

pub returns-clause-image1_after : goal.returns-clause-image1_after
returns-clause-image1_after c =
    let a = c.args in
    let o : Opening = opening_of First a.plan0 a.ranks0.now a.sizes0.now a.prefix0.now in
    let o' : Opening = opening_of Second a.plan1 a.ranks1.now a.sizes1.now a.prefix1.now in
    let zero = sym c.in_default.ensures in
    (λ i. (c.begin-one.ensures.image_after i, c.begin-two.ensures.image_after i))
    ∙ sym (accepted_found o o' a.image0.now a.table0.now a.image1.now a.table1.now zero a.budget0 a.budget1)

pub returns-clause-table1_after : goal.returns-clause-table1_after
returns-clause-table1_after c =
    let a = c.args in
    let o : Opening = opening_of First a.plan0 a.ranks0.now a.sizes0.now a.prefix0.now in
    let o' : Opening = opening_of Second a.plan1 a.ranks1.now a.sizes1.now a.prefix1.now in
    let zero = sym c.in_default.ensures in
    (λ i. (c.begin-one.ensures.table_after i, c.begin-two.ensures.table_after i))
    ∙ sym (accepted_tables o o' a.image0.now a.table0.now a.image1.now a.table1.now zero)
