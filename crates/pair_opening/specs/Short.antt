-- The tests of a pair's opening as code goes through them, once it is known what the opening needs.
use Rattle.std.specs.Prelude.{cond, ◌||◌, [], ◌∷◌, ℕ, ltb, eqb}
use Rattle.format.specs.Refusals.{test, first_failing}
use Rattle.pairs.specs.declared.PairNeeded.{PairNeeded}

-- the plans' refusal, or 18 for file 0 and then for file 1, by the lengths of what is lent
unfoldable pub short_of : PairNeeded → ℕ → ℕ → ℕ → ℕ → ℕ
short_of needed image cells image' cells' =
    cond (eqb needed.refusal 0)
    (first_failing
    (test 18 (ltb image needed.image0 || ltb cells needed.cells0)
    ∷ test 18 (ltb image' needed.image1 || ltb cells' needed.cells1)
    ∷ []))
    needed.refusal
