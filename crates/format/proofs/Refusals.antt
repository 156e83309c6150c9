-- Laws of `first_failing`: one list after another, all tests passed, and the numbers that can be answered.
use mathlib.Core.Path.{◌≡◌, refl, sym, ◌∙◌}
use mathlib.Core.Bool.{Bool, true, false, cond, ◌||◌}
use mathlib.Core.List.{List, [], ◌∷◌, ◌++◌}
use Prim.Native.Nat.{ℕ, zero, suc, ◌<◌}
use native.Mathlib.Omega.{arith}
use lib.Dec.{eqb}
use borrow.Author.Tests.{eqb-true, eq-eqb, ne_eqb}
use Rattle.format.specs.declared.refusal.Refusal.{Refusal}
use Rattle.format.specs.declared.refusal.Refusal.TheVariants.{NoMark, NoOrder, ShortMeta1, BadFormat, BadBlocksize, BadTasks, BadFiles, BadRank, BadSize, NotClosed, BadMaxchunks, BadMeta2Place, BadMeta2, NoTask, TooLong, NoChunkLeft, BadRecord, TooShort, CellsDisagree, BadPlanned, LongPrefix, NoChunk, PastTotal, BadMapping}
use Rattle.format.specs.Refusals.{Test, first_failing, number_of}

-- something holds of each test
abbrev pub Each : (Test → Type 0) → List Test → Type 0
Each P [] = Unit {0}
Each P (t ∷ ts) = P t × Each P ts

-- no test has the number 0, which says that all passed
abbrev pub Numbered : List Test → Type 0
Numbered = Each (λ t. 0 < t.number)

abbrev pub Passed : List Test → Type 0
Passed = Each (λ t. t.fails ≡ false)

-- where the first list passes, the second is asked
pub first_passes : (xs ys : List Test) → Numbered xs → first_failing xs ≡ 0 → first_failing (xs ++ ys) ≡ first_failing ys
unfolding first_failing
first_passes [] ys h e = refl
first_passes (t ∷ ts) ys h e = go t.fails e (first_passes ts ys h.1)
  where
    go : (b : Bool) → cond b t.number (first_failing ts) ≡ 0 → (first_failing ts ≡ 0 → first_failing (ts ++ ys) ≡ first_failing ys)
        → cond b t.number (first_failing (ts ++ ys)) ≡ first_failing ys
    go true e rest = absurd (omega arith)
    go false e rest = rest e

-- where a test of the first fails, the second is not asked
pub first_fails : (xs ys : List Test) → 0 < first_failing xs → first_failing (xs ++ ys) ≡ first_failing xs
unfolding first_failing
first_fails [] ys h = absurd (omega arith)
first_fails (t ∷ ts) ys h = go t.fails h (first_fails ts ys)
  where
    go : (b : Bool) → 0 < cond b t.number (first_failing ts) → (0 < first_failing ts → first_failing (ts ++ ys) ≡ first_failing ts)
        → cond b t.number (first_failing (ts ++ ys)) ≡ cond b t.number (first_failing ts)
    go true h rest = refl
    go false h rest = rest h

-- so what holds of both answers holds of the answer to one list after the other
pub answered_append : (P : ℕ → Type 0) (xs ys : List Test) → Numbered xs → P (first_failing xs) → P (first_failing ys) → P (first_failing (xs ++ ys))
answered_append P xs ys h p q = go (first_failing xs) refl
  where
    go : (r : ℕ) → first_failing xs ≡ r → P (first_failing (xs ++ ys))
    go zero e = rw (first_passes xs ys h e) q
    go (suc r) e = rw (first_fails xs ys (omega arith)) p

-- two tests with one number
pub either_fails : (a b : Bool) (number rest : ℕ) → cond a number (cond b number rest) ≡ cond (a || b) number rest
either_fails true b number rest = refl
either_fails false b number rest = refl

-- where both pass, each does
pub both_pass : (xs ys : List Test) → Numbered xs → first_failing (xs ++ ys) ≡ 0 → (first_failing xs ≡ 0) × (first_failing ys ≡ 0)
both_pass xs ys h e = go (first_failing xs) refl
  where
    go : (r : ℕ) → first_failing xs ≡ r → (first_failing xs ≡ 0) × (first_failing ys ≡ 0)
    go zero z = (z, sym (first_passes xs ys h z) ∙ e)
    go (suc r) z = let l : 0 < first_failing xs = omega arith in absurd (omega (arith, first_fails xs ys l))

-- 0 is answered exactly where each test passes
pub next_passes : (t : Test) (ts : List Test) → 0 < t.number → first_failing (t ∷ ts) ≡ 0 → (t.fails ≡ false) × (first_failing ts ≡ 0)
unfolding first_failing
next_passes t ts h e = go t.fails refl e
  where
    go : (b : Bool) → t.fails ≡ b → cond b t.number (first_failing ts) ≡ 0 → (t.fails ≡ false) × (first_failing ts ≡ 0)
    go true f e = absurd (omega arith)
    go false f e = (f, e)

pub none_fails : (ts : List Test) → Numbered ts → first_failing ts ≡ 0 → Passed ts
none_fails [] h e = tt
none_fails (t ∷ ts) h e = let p = next_passes t ts h.0 e in (p.0, none_fails ts h.1 p.1)

pub all_pass : (ts : List Test) → Passed ts → first_failing ts ≡ 0
unfolding first_failing
all_pass [] h = refl
all_pass (t ∷ ts) h = rw h.0 (all_pass ts h.1)

-- the answer is 0 or the number of one of the tests: what holds of each of these holds of it
pub answered : (P : ℕ → Type 0) (ts : List Test) → P 0 → Each (λ t. P t.number) ts → P (first_failing ts)
unfolding first_failing
answered P [] z h = z
answered P (t ∷ ts) z h = go t.fails (answered P ts z h.1)
  where
    go : (b : Bool) → P (first_failing ts) → P (cond b t.number (first_failing ts))
    go true r = h.0
    go false r = r

-- an answer by cases of its number r: what is handed back where all passed, where a test failed, and the number in either case
module _ {ℓ} {A : Type ℓ} (r : ℕ) (a b : A) where
  pub when_accepted : r ≡ 0 → cond (eqb r 0) a b ≡ a
  when_accepted e = rw (eq-eqb r 0 e)

  pub when_refused : 0 < r → cond (eqb r 0) a b ≡ b
  when_refused l = rw (ne_eqb r 0 (λ e. omega arith))

  pub number_is : (number : A → ℕ) → number a ≡ 0 → number b ≡ r → number (cond (eqb r 0) a b) ≡ r
  number_is number accepted refused = go (eqb r 0) refl
    where
      go : (t : Bool) → eqb r 0 ≡ t → number (cond t a b) ≡ r
      go true e = accepted ∙ sym (eqb-true r 0 e)
      go false e = refused

-- what an answer says in either case
pub either_is : {A B : Type 0} (t : Bool) (a b : A) (f : A → B) {v : B} → f a ≡ v → f b ≡ v → f (cond t a b) ≡ v
either_is true a b f accepted refused = accepted
either_is false a b f accepted refused = refused

-- no refusal has the number 0
pub some_number : (refusal : Refusal) → 0 < number_of refusal
some_number NoMark = omega arith
some_number NoOrder = omega arith
some_number ShortMeta1 = omega arith
some_number BadFormat = omega arith
some_number BadBlocksize = omega arith
some_number BadTasks = omega arith
some_number BadFiles = omega arith
some_number BadRank = omega arith
some_number BadSize = omega arith
some_number NotClosed = omega arith
some_number BadMaxchunks = omega arith
some_number BadMeta2Place = omega arith
some_number BadMeta2 = omega arith
some_number NoTask = omega arith
some_number TooLong = omega arith
some_number NoChunkLeft = omega arith
some_number BadRecord = omega arith
some_number TooShort = omega arith
some_number CellsDisagree = omega arith
some_number BadPlanned = omega arith
some_number LongPrefix = omega arith
some_number NoChunk = omega arith
some_number PastTotal = omega arith
some_number BadMapping = omega arith
