-- A field of a container, signed in the rules, read as an unsigned number: the tests come out the same.
use mathlib.Core.Path.{◌≡◌, refl, ap, sym, ◌∙◌}
use mathlib.Core.Bool.{Bool, true, false, ◌&&◌}
use mathlib.Core.List.{List, ◌∷◌}
use Prim.Native.Nat.{ℕ, ◌<◌, ◌≤◌, ◌^◌}
use native.Mathlib.Nat.{le_refl, le_antisymm}
use native.Mathlib.Omega.{arith}
use borrow.Author.Tests.{leb-true, le-leb, eqb-true, eqb-false}
use lib.Dec.{leb, eqb}
use lib.IntN.{pos}
use Rattle.endian.specs.Signed.{signed, natural}
use Rattle.lists.proofs.Below.{and_right}
use Rattle.endian.proofs.Signed.{within_signed, within_facts, natural_signed}
use Rattle.format.specs.Limits.{max_tasks, min_blocksize, max_blocksize, max_blocks, tasks_rule, power_of_two, blocksize_rule, maxchunks_rule}
use Rattle.format.specs.declared.head.File.{File}
use Rattle.format.specs.declared.head.File.TheVariants.{Single, First, Second}
use Rattle.format.specs.Record.{files_of, file_of}
use Rattle.format.specs.Refusals.{Test, verdict}
use Rattle.format.specs.Judge.{is}
use Rattle.format.proofs.Verdicts.{fails_first, passes_first}

-- a field has one value
pub is_number : (v h n : ℕ) → v < 2 ^ h → is v (signed h n) ≡ eqb n v
is_number v h n l = within_signed v v h n l ∙ go (eqb n v) refl
  where
    go : (b : Bool) → eqb n v ≡ b → (leb v n && leb n v) ≡ b
    go true e = let same : n ≡ v = eqb-true n v e in rw (same, le-leb v v (le_refl v))
    go false e = apart (leb v n) refl (leb n v) refl
      where
        apart : (x : Bool) → leb v n ≡ x → (y : Bool) → leb n v ≡ y → (x && y) ≡ false
        apart false p y q = refl
        apart true p false q = refl
        apart true p true q = absurd (eqb-false n v e (le_antisymm (leb-true n v q) (leb-true v n p)))

-- a rule that bounds a field by less than its sign bit
pub blocksize_number : (n : ℕ) → blocksize_rule (signed 31 n) ≡ blocksize_rule (pos n)
unfolding blocksize_rule
blocksize_number n =
    ap (λ (b : Bool). b && power_of_two (natural (signed 31 n))) (within_signed min_blocksize max_blocksize 31 n (omega arith))
    ∙ go (leb min_blocksize n && leb n max_blocksize) refl
  where
    go : (b : Bool) → (leb min_blocksize n && leb n max_blocksize) ≡ b
        → (b && power_of_two (natural (signed 31 n))) ≡ (b && power_of_two n)
    go true e =
        let small : n ≤ max_blocksize = leb-true n max_blocksize (and_right (leb min_blocksize n) (leb n max_blocksize) e) in
        ap power_of_two (natural_signed 31 n (omega arith))
    go false e = refl

pub tasks_number : (n : ℕ) → tasks_rule (signed 31 n) ≡ tasks_rule (pos n)
unfolding tasks_rule
tasks_number n = within_signed 1 max_tasks 31 n (omega arith)

pub maxchunks_number : (n : ℕ) → maxchunks_rule (signed 31 n) ≡ maxchunks_rule (pos n)
unfolding maxchunks_rule
maxchunks_number n = within_signed 0 max_blocks 31 n (omega arith)

pub tasks_facts : (n : ℕ) → tasks_rule (pos n) ≡ true → (1 ≤ n) × (n ≤ max_tasks)
unfolding tasks_rule
tasks_facts n e = within_facts 1 max_tasks n e

pub maxchunks_facts : (m : ℕ) → maxchunks_rule (pos m) ≡ true → m ≤ max_blocks
unfolding maxchunks_rule
maxchunks_facts m e = (within_facts 0 max_blocks m e).1

-- nfiles and filenumber are small numbers
pub files_small : (f : File) → files_of f < 2 ^ 31
files_small Single = omega arith
files_small First = omega arith
files_small Second = omega arith

pub file_small : (f : File) → file_of f < 2 ^ 31
file_small Single = omega arith
file_small First = omega arith
file_small Second = omega arith

-- what is asked after a test that passed may use that it passed
pub verdict_agree : (t : Test) (xs ys : List Test) → (t.fails ≡ false → verdict xs ≡ verdict ys) → verdict (t ∷ xs) ≡ verdict (t ∷ ys)
verdict_agree t xs ys h = go t.fails refl
  where
    go : (b : Bool) → t.fails ≡ b → verdict (t ∷ xs) ≡ verdict (t ∷ ys)
    go true e = fails_first t xs e ∙ sym (fails_first t ys e)
    go false e = passes_first t xs e ∙ h e ∙ sym (passes_first t ys e)
