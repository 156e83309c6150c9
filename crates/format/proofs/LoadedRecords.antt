-- Tests 17, 18 and 19 of a loaded record: what holds where they pass.
use mathlib.Core.Path.{◌≡◌}
use mathlib.Core.Bool.{Bool, true, ◌&&◌}
use mathlib.Core.List.{List}
use Prim.Native.Nat.{ℕ}
use lib.IntN.{pos}
use Rattle.lists.proofs.Below.{and_left, and_right}
use Rattle.endian.proofs.Signed.{within_facts}
use Rattle.format.specs.Limits.{max_blocks, maxchunks_rule}
use Rattle.format.specs.declared.head.File.{File}
use Rattle.format.specs.Refusals.{first_failing}
use Rattle.format.specs.Meta2.{counts_rule}
use Rattle.format.specs.Record.{count_of, suits, file_in, head_sound}
use Rattle.format.specs.Passed.{Passed}
use Rattle.format.proofs.Refusals.{Numbered}
use Rattle.format.proofs.Rules.{counts_within}
use Rattle.format.proofs.Passing.{SoundNumbers, record_numbered, record_sound, record_passed}
use Rattle.format.proofs.Record.{suits_file}
use Rattle.format.specs.declared.loaded.Loaded.{Loaded}
use Rattle.format.specs.Loaded.{loaded_sound}
use Rattle.format.specs.Reads.{Container, loaded_tests}

module _ (f : File) (l : Loaded) (lists : List ℕ) (e : loaded_sound f l lists ≡ true) where
  abbrev kept : Bool
  kept = counts_rule l.head.format l.head.n l.maxchunks (λ i. pos (count_of lists i))

  numbers_kept : (head_sound l.head lists && maxchunks_rule (pos l.maxchunks) && kept) ≡ true
  unfolding loaded_sound
  numbers_kept = and_left _ (suits f l.head) e

  pub loaded_suits : suits f l.head ≡ true
  unfolding loaded_sound
  loaded_suits = and_right (head_sound l.head lists && maxchunks_rule (pos l.maxchunks) && kept) _ e

  pub loaded_counts : kept ≡ true
  loaded_counts = and_right (head_sound l.head lists && maxchunks_rule (pos l.maxchunks)) _ numbers_kept

  pub loaded_holds : SoundNumbers l.head lists l.maxchunks
  unfolding maxchunks_rule
  loaded_holds =
      let front = and_left _ kept numbers_kept in (
        and_left _ (maxchunks_rule (pos l.maxchunks)) front,
        (within_facts 0 max_blocks l.maxchunks (and_right (head_sound l.head lists) _ front)).1,
        λ i b. within_facts _ l.maxchunks _ (counts_within _ _ _ _ loaded_counts i b),
      )

module _ (c : Container) where
  pub loaded_numbered : Numbered (loaded_tests c)
  unfolding loaded_tests
  loaded_numbered = record_numbered _ _ _ _ _ _ _

  pub loaded_passed : first_failing (loaded_tests c) ≡ 0
      → Passed c.loaded.head c.lists c.loaded.maxchunks c.image c.table
  unfolding loaded_tests
  loaded_passed = record_passed _ _ _ _ _ _ _ (loaded_holds c.file c.loaded c.lists)

  -- it says that it is the file that the call means
  pub loaded_file : first_failing (loaded_tests c) ≡ 0 → file_in c.loaded.head ≡ c.file
  unfolding loaded_tests
  loaded_file e =
      suits_file c.file c.loaded.head
      (loaded_suits c.file c.loaded c.lists
      (record_sound c.loaded.closed _ c.loaded.head c.lists c.loaded.maxchunks c.image c.table e))
