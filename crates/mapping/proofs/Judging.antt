-- The tests of an entry and of a whole mapping by numbers that are read without a sign.
use mathlib.Core.Path.{◌≡◌, refl, ap, ◌∙◌}
use mathlib.Core.Bool.{Bool, true, false, not}
use mathlib.Core.List.{List, [], ◌∷◌}
use Prim.Native.Nat.{ℕ, suc, ◌+◌, ◌-◌, ◌*◌, ◌≤◌, ◌<◌}
use native.Mathlib.Omega.{arith}
use lib.Dec.{ltb, leb, eqb}
use lib.IntN.{pos}
use lib.ListN.{length}
use borrow.Author.Tests.{le-leb, lt-leb, lt-ltb, le-ltb, ltb-true, ltb-false, eq-eqb, ne_eqb, not-false}
use Rattle.lists.specs.Below.{join_below}
use Rattle.endian.specs.Number.{number_at}
use Rattle.endian.specs.Signed.{signed, within, natural}
use Rattle.endian.proofs.Signed.{within_signed, natural_signed}
use Rattle.format.specs.Limits.{max_tasks}
use Rattle.format.specs.Kinds
use Rattle.format.specs.Refusals.{Test, test_at, fault_of, verdict}
use Rattle.format.specs.Judge.{is, number_fault, end_fault}
use Rattle.format.proofs.Refusals.{Numbered}
use Rattle.format.proofs.Verdicts.{fails_first, passes_first}
use Rattle.format.proofs.Fields.{is_number, verdict_agree}
use Rattle.pairs.specs.Mapping.{mapping_length, entry_tests, mapping_tests}
use Rattle.mapping.specs.Entries.{named_tests}

-- ---- an entry, whose two numbers are read without a sign

-- a task of a file with n tasks
task_number : (n task : ℕ) → 1 ≤ n → n ≤ max_tasks → within 0 (n - 1) (signed 31 task) ≡ ltb task n
task_number n task some few =
    within_signed 0 (n - 1) 31 task (omega arith)
    ∙ rw (le-leb 0 task (omega arith)) (go (ltb task n) refl)
  where
    go : (b : Bool) → ltb task n ≡ b → leb task (n - 1) ≡ b
    go true e = le-leb task (n - 1) (omega (arith, ltb-true task n e))
    go false e = lt-leb task (n - 1) (omega (arith, ltb-false task n e))

-- what is asked once it is known which file an entry names: its n tasks, and their ranks
named_number : (n : ℕ) (rank : ℕ → ℕ) (task r at : ℕ) → 1 ≤ n → n ≤ max_tasks
    → verdict
    (test_at 25 (fault_of Kinds.entry_task (suc r) 0 at (signed 31 task) (pos 0) (pos (n - 1))) (not (within 0 (n - 1) (signed 31 task)))
    ∷ test_at 25 (fault_of Kinds.entry_rank (suc r) 0 at (pos (rank (natural (signed 31 task)))) (pos r) (pos r)) (not (eqb (rank (natural (signed 31 task))) r))
    ∷ [])
    ≡ verdict (named_tests n rank task r at)
named_number n rank task r at some few =
    rw (task_number n task some few)
    (verdict_agree _ _ _
    (λ e.
    let below : task < n = ltb-true task n (not-false _ e) in
    rw (natural_signed 31 task (omega arith)) refl))

module _ (n m : ℕ) (rank rank' : ℕ → ℕ) (big : Bool) (image : List ℕ) (start r : ℕ) where
  -- where the entry of rank r stands, its two numbers, and its tests
  abbrev at : ℕ
  at = start + 4 + 8 * r

  abbrev file : ℕ
  file = number_at big 4 image at

  abbrev task : ℕ
  task = number_at big 4 image (at + 4)

  abbrev tests : List Test
  tests = entry_tests n m rank rank' big image start r

  pub entry_numbered : Numbered tests
  unfolding entry_tests
  entry_numbered = (omega arith, (omega arith, (omega arith, tt)))

  -- the number of the file is 0 or 1, or it is another
  file_passes : file ≤ 1 → within 0 1 (signed 31 file) ≡ true
  file_passes l = within_signed 0 1 31 file (omega arith) ∙ rw (le-leb 0 file (omega arith), le-leb file 1 l)

  file_fails : 1 < file → within 0 1 (signed 31 file) ≡ false
  file_fails l = within_signed 0 1 31 file (omega arith) ∙ rw (le-leb 0 file (omega arith), lt-leb file 1 l)

  -- what its tests answer: of another number, and of either file
  pub entry_other : 1 < file
      → verdict tests ≡ record { refusal = 25; fault = fault_of Kinds.entry_file (suc r) 0 at (signed 31 file) (pos 0) (pos 1) }
  unfolding entry_tests
  entry_other l = fails_first _ _ (ap not (file_fails l))

  pub entry_first : file ≡ 0 → 1 ≤ n → n ≤ max_tasks → verdict tests ≡ verdict (named_tests n rank task r at)
  unfolding entry_tests
  entry_first e some few =
      passes_first _ _ (ap not (file_passes (omega arith)))
      ∙ rw (is_number 0 31 file (omega arith) ∙ eq-eqb file 0 e) (named_number n rank task r at some few)

  pub entry_second : file ≡ 1 → 1 ≤ m → m ≤ max_tasks → verdict tests ≡ verdict (named_tests m rank' task r at)
  unfolding entry_tests
  entry_second e some few =
      passes_first _ _ (ap not (file_passes (omega arith)))
      ∙ rw (is_number 0 31 file (omega arith) ∙ ne_eqb file 0 (λ z. omega arith)) (named_number m rank' task r at some few)

-- ---- the whole mapping, whose size is read without a sign

module _ (n m : ℕ) (rank rank' : ℕ → ℕ) (big : Bool) (image : List ℕ) (start : ℕ) where
  abbrev held : ℕ
  held = number_at big 4 image start

  abbrev all_tests : List Test
  all_tests = mapping_tests n m rank rank' big image start

  abbrev end : ℕ
  end = start + mapping_length n m

  -- what its tests answer where the image ends before mapping_size does
  pub ends_early : length image < start + 4 → verdict all_tests ≡ record { refusal = 25; fault = end_fault (length image) end }
  unfolding mapping_tests
  ends_early l = fails_first _ _ (lt-ltb (length image) (start + 4) l)

  module _ (read : start + 4 ≤ length image) (few : n + m ≤ 2 * max_tasks) where
    size_test : is (n + m) (signed 31 held) ≡ eqb held (n + m)
    size_test = is_number (n + m) 31 held (omega arith)

    -- where it says another size
    pub other_size : (held ≡ n + m → ⊥)
        → verdict all_tests ≡ record { refusal = 25; fault = number_fault Kinds.mapping_size start (signed 31 held) (n + m) (n + m) }
    unfolding mapping_tests
    other_size e =
        passes_first _ _ (le-ltb (length image) (start + 4) read)
        ∙ fails_first _ _ (ap not (size_test ∙ ne_eqb held (n + m) e))

    module _ (same : held ≡ n + m) where
      -- where the image ends before the entries do
      pub ends_within : length image < end → verdict all_tests ≡ record { refusal = 25; fault = end_fault (length image) end }
      unfolding mapping_tests
      ends_within l =
          passes_first _ _ (le-ltb (length image) (start + 4) read)
          ∙ passes_first _ _ (ap not (size_test ∙ eq-eqb held (n + m) same))
          ∙ fails_first _ _ (lt-ltb (length image) end l)

      -- and where all entries are there
      pub entries_asked : end ≤ length image → verdict all_tests ≡ verdict (join_below (n + m) (entry_tests n m rank rank' big image start))
      unfolding mapping_tests
      entries_asked l =
          passes_first _ _ (le-ltb (length image) (start + 4) read)
          ∙ passes_first _ _ (ap not (size_test ∙ eq-eqb held (n + m) same))
          ∙ passes_first _ _ (le-ltb (length image) end l)
