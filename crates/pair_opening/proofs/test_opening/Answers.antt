-- The plans' refusal, or that of the lengths that are lent.
use mathlib.Core.Path.{◌≡◌, ap, ◌∙◌}
use Prim.Native.Nat.{ℕ}
use native.Mathlib.Omega.{arith}
use borrow.Author.Tests.{ne_eqb}
use Rattle.std.specs.Prelude.{Err}
use Rattle.std.proofs.lemmas.Result.{err_from_is_err_and}
use Rattle.format.specs.declared.head.File.TheVariants.{First, Second}
use Rattle.format.specs.declared.refusal.Refusal.{Refusal}
use Rattle.format.specs.Refusals.{number_of}
use Rattle.format.proofs.Refusals.{some_number}
use Rattle.pairs.specs.Answers.{pair_needed_of}
use Rattle.format.specs.Open.{Opening, opening_of}
use Rattle.pairs.specs.declared.PairNeeded.{PairNeeded}
use Rattle.pairs.specs.Open.{pair_needs, pair_open_refusal}
use Rattle.pair_opening.specs.Short.{short_of}
use Rattle.pair_opening.proofs.Opened.{short_is}
use Rattle.pair_opening.proofs.test_opening.Goals as goal

-- the number by what is needed is the opening's
number : (o o' : Opening) (needed : PairNeeded) (r image cells image' cells' : ℕ)
    → needed ≡ pair_needs o o' → r ≡ short_of needed image cells image' cells' → r ≡ pair_open_refusal o o' image cells image' cells'
number o o' needed r image cells image' cells' same short =
    short ∙ ap (λ (n : PairNeeded). short_of n image cells image' cells') same ∙ short_is o o' image cells image' cells'

-- a refusal of the plans is not asked for the lengths
refused : (r : Refusal) (image cells image' cells' : ℕ) → number_of r ≡ short_of (pair_needed_of (Err r)) image cells image' cells'
unfolding short_of
refused r image cells image' cells' = rw (ne_eqb (number_of r) 0 (λ z. omega (arith, z, some_number r)))

pub returns-in_err-room : goal.returns-in_err-room
returns-in_err-room c =
    let a = c.args in
    let o : Opening = opening_of First a.plan0 a.ranks0.now a.sizes0.now a.prefix0.now in
    let o' : Opening = opening_of Second a.plan1 a.ranks1.now a.sizes1.now a.prefix1.now in
    let p = err_from_is_err_and c.from_residual.result c.from_residual.ensures.1 in
    rw (p.1, p.2)
    (number o o' _ _ _ _ _ _ c.in_err-room.ensures (refused c.in_err-room.field-0.0 a.image0 a.cells0 a.image1 a.cells1))

pub returns : goal.returns
returns c =
    let a = c.args in
    let o : Opening = opening_of First a.plan0 a.ranks0.now a.sizes0.now a.prefix0.now in
    let o' : Opening = opening_of Second a.plan1 a.ranks1.now a.sizes1.now a.prefix1.now in
    number o o' _ _ _ _ _ _ c.in_ok-room.ensures c.test_room.ensures
