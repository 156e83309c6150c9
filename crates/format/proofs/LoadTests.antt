-- The tests of a load as facts: what holds of an image and a table where all of them pass, and that they pass where it holds.
use mathlib.Core.Path.{◌≡◌, ◌∙◌}
use mathlib.Core.List.{List}
use Prim.Native.Nat.{ℕ, ◌*◌, ◌≤◌}
use native.Mathlib.Omega.{arith}
use lib.ListN.{length}
use borrow.Author.Tests.{ltb-false, le-ltb}
use Rattle.format.specs.declared.head.File.{File}
use Rattle.format.specs.Refusals.{first_failing}
use Rattle.format.specs.Judge.{tasks_in, maxchunks_in, head_in, size_in, meta1_tests}
use Rattle.format.proofs.Refusals.{first_passes, both_pass, next_passes}
use Rattle.format.proofs.Accepting.{Meta1Holds, meta1_numbered, meta1_holds, meta1_passes, Meta2Holds, meta2_holds, meta2_passes}
use Rattle.format.specs.Load.{meta2_bytes, load_tests, load_refusal}

pub record Loads (f : File) (image : List ℕ) (cells : ℕ) : Type 0 where
  pub first : Meta1Holds f image (length image)
  pub table_long : tasks_in image * maxchunks_in image ≤ cells
  pub second : Meta2Holds (head_in image) (size_in image) (maxchunks_in image) (meta2_bytes image)

pub load_holds : (f : File) (image : List ℕ) (cells : ℕ) → load_refusal f image cells ≡ 0 → Loads f image cells
unfolding load_refusal load_tests
load_holds f image cells e =
    let (one, rest) = both_pass (meta1_tests image f (length image)) _ (meta1_numbered image f (length image)) e in
    let (table_long, two) = next_passes _ _ (omega arith) rest in
    record {
      first = meta1_holds image f (length image) one;
      table_long = ltb-false _ _ table_long;
      second = meta2_holds _ _ _ _ _ two;
    }

pub load_passes : (f : File) (image : List ℕ) (cells : ℕ) → Loads f image cells → load_refusal f image cells ≡ 0
unfolding load_refusal load_tests first_failing
load_passes f image cells h =
    first_passes (meta1_tests image f (length image)) _ (meta1_numbered image f (length image)) (meta1_passes image f (length image) h.first)
    ∙ rw (le-ltb _ _ h.table_long) (meta2_passes _ _ _ _ _ h.second)
