-- A mapping's tests pass exactly where the mapping is there, each of its entries with an existing task that carries its rank.
use mathlib.Core.Path.{◌≡◌, ap, ◌∙◌}
use mathlib.Core.Bool.{Bool, true, false, cond}
use mathlib.Core.List.{List}
use Prim.Native.Nat.{ℕ, zero, suc, ◌+◌, ◌-◌, ◌*◌, ◌≤◌, ◌<◌}
use native.Mathlib.Omega.{arith}
use lib.IntN.{ℤ, pos}
use lib.ListN.{length}
use borrow.Author.Tests.{ltb-false, le-ltb, eqb-true, eq-eqb, not-false}
use Rattle.endian.specs.Signed.{signed_at, within, natural}
use Rattle.endian.proofs.Signed.{within_natural, within_holds}
use Rattle.format.specs.Refusals.{Test, first_failing}
use Rattle.format.specs.Judge.{is}
use Rattle.format.specs.Container.{Contents}
use Rattle.format.proofs.Refusals.{Numbered, none_fails, all_pass, next_passes}
use Rattle.pairs.specs.Mapping.{mapping_length, entry_tests, mapping_tests}
use Rattle.pairs.proofs.Mapping.{mapping_numbered, entry_numbered, join_passed, join_passes}
use Rattle.pair.specs.Format.{Entry, HasMapping, mapping_at}

module _ (c c' : Contents) (image : List ℕ) (some : 1 ≤ c.n) (some' : 1 ≤ c'.n) where
  abbrev tests : ℕ → List Test
  tests r = entry_tests c.n c'.n c.rank c'.rank c.big image (mapping_at c) r

  numbered : (r : ℕ) → Numbered (tests r)
  numbered r = entry_numbered c.n c'.n c.rank c'.rank c.big image (mapping_at c) r

  -- ---- one entry

  module _ (r : ℕ) where
    abbrev at : ℕ
    at = mapping_at c + 4 + 8 * r

    abbrev file : ℤ
    file = signed_at c.big 4 image at

    abbrev task : ℤ
    task = signed_at c.big 4 image (at + 4)

    entry_holds : first_failing (tests r) ≡ 0 → Entry c c' image at r
    unfolding entry_tests
    entry_holds e =
        let (in-file, (in-tasks, (rank, end))) = none_fails (tests r) (numbered r) e in
        let (file_is, low, high) = within_natural 0 1 file (not-false _ in-file) in
        go (natural file) file_is high (not-false _ in-tasks) (eqb-true _ _ (not-false _ rank))
      where
        go : (k : ℕ) → file ≡ pos k → k ≤ 1 → within 0 (cond (is 0 file) c.n c'.n - 1) task ≡ true
            → cond (is 0 file) (c.rank (natural task)) (c'.rank (natural task)) ≡ r → Entry c c' image at r
        go zero z l t rank =
            let (task_is, low, high) = within_natural 0 (c.n - 1) task (rw z at t) in
            record { second = false; i = natural task; file_is = z; task_is = task_is; exists = omega arith; carries = rw z at rank }
        go (suc zero) z l t rank =
            let (task_is, low, high) = within_natural 0 (c'.n - 1) task (rw z at t) in
            record { second = true; i = natural task; file_is = z; task_is = task_is; exists = omega arith; carries = rw z at rank }
        go (suc (suc k)) z l t rank = absurd (omega arith)

    entry_passes : Entry c c' image at r → first_failing (tests r) ≡ 0
    unfolding entry_tests
    entry_passes x = go x.second x.file_is x.exists x.carries
      where
        go : (second : Bool) → file ≡ pos (cond second 1 0) → x.i < (cond second c' c).n → (cond second c' c).rank x.i ≡ r → first_failing (tests r) ≡ 0
        go false z l rank =
            all_pass (tests r)
            (rw z, (rw (z, x.task_is, within_holds 0 (c.n - 1) x.i (omega arith) (omega arith)), (rw (z, x.task_is, eq-eqb _ r rank), tt)))
        go true z l rank =
            all_pass (tests r)
            (rw z, (rw (z, x.task_is, within_holds 0 (c'.n - 1) x.i (omega arith) (omega arith)), (rw (z, x.task_is, eq-eqb _ r rank), tt)))

  -- ---- the whole mapping

  abbrev whole : List Test
  whole = mapping_tests c.n c'.n c.rank c'.rank c.big image (mapping_at c)

  pub mapping_holds : first_failing whole ≡ 0 → HasMapping c c' image
  unfolding mapping_tests mapping_length
  mapping_holds e =
      let numbers = mapping_numbered c.n c'.n c.rank c'.rank c.big image (mapping_at c) in
      let (short, rest) = next_passes _ _ numbers.0 e in
      let (size, rest) = next_passes _ _ numbers.1.0 rest in
      let (long, entries) = next_passes _ _ numbers.1.1.0 rest in
      let (size_is, low, high) = within_natural (c.n + c'.n) (c.n + c'.n) (signed_at c.big 4 image (mapping_at c)) (not-false _ size) in
      record {
        fits = ltb-false _ _ long;
        size_is = size_is ∙ ap pos (omega arith);
        entries = λ r l. entry_holds r (join_passed tests numbered (c.n + c'.n) entries r l);
      }

  pub mapping_passes : HasMapping c c' image → first_failing whole ≡ 0
  unfolding mapping_tests mapping_length first_failing
  mapping_passes x =
      rw (le-ltb (length image) (mapping_at c + 4) (omega (arith, x.fits)), x.size_is, within_holds (c.n + c'.n) (c.n + c'.n) (c.n + c'.n) (omega arith) (omega arith), le-ltb (length image) _ x.fits)
      (join_passes tests numbered (c.n + c'.n) (λ r l. entry_passes r (x.entries r l)))
