-- Tests 17, 18 and 19 of a pair, of its sessions and of its loaded records: they pass exactly where each file's own pass, no rank is lacking and, of
-- sessions, the mapping has its room.
use mathlib.Core.Path.{◌≡◌, ap}
use mathlib.Core.Bool.{Bool, true, false, not, ◌&&◌}
use Prim.Native.Nat.{◌≤◌}
use native.Mathlib.Omega.{arith}
use lib.Dec.{eqb}
use lib.ListN.{length}
use borrow.Author.Tests.{ltb-false, le-ltb, not-false}
use Rattle.lists.proofs.Below.{and_left, and_right, or_left, or_right, or_both}
use Rattle.format.specs.Refusals.{first_failing}
use Rattle.format.specs.Record.{record_tests}
use Rattle.format.specs.Session.{session_sound, session_tests}
use Rattle.format.specs.Loaded.{loaded_sound}
use Rattle.format.specs.Reads.{loaded_tests}
use Rattle.format.proofs.Refusals.{Numbered, none_fails, all_pass}
use Rattle.format.proofs.Sessions.{session_numbered}
use Rattle.format.proofs.LoadedRecords.{loaded_numbered}
use Rattle.pairs.specs.Ranks.{none_lacking}
use Rattle.pairs.specs.Sessions.{Pair, tasks₀, tasks₁, ranks₀, ranks₁, room_end, pair_tests}
use Rattle.pairs.specs.Reads
use Rattle.pairs.specs.Reads.{LoadedPair, loaded_pair_tests}

-- a test that fails where one of two does not hold
both_hold : {a b : Bool} → a ≡ true → b ≡ true → not (a && b) ≡ false
both_hold e f = rw (e, f)

-- ---- a pair of sessions

module _ (p : Pair) where
  -- no test has the number 0
  pub pair_numbered : Numbered (pair_tests p)
  unfolding pair_tests
  pair_numbered = omega arith

  -- where all pass, each session's own do, each rank is there and the mapping has its room
  pub pair_passed : first_failing (pair_tests p) ≡ 0
      → (first_failing (session_tests p.first) ≡ 0)
      × (first_failing (session_tests p.second) ≡ 0)
      × (none_lacking (tasks₀ p) (tasks₁ p) (ranks₀ p) (ranks₁ p) ≡ true)
      × (room_end p ≤ length p.first.image)
  unfolding pair_tests session_tests record_tests
  pair_passed e =
      let (bad₀, (bad₁, (room, (short₀, (cells₀, (short₁, (cells₁, end))))))) = none_fails (pair_tests p) pair_numbered e in
      let sound₁ = session_sound p.second.file p.second.session p.second.lists in
      let both = not-false _ (or_right (not (eqb p.second.session.closed 0)) _ bad₁) in
      let own₁ = or_both (or_left (not (eqb p.second.session.closed 0)) _ bad₁) (ap not (and_left sound₁ _ both)) in (
        all_pass (session_tests p.first) (bad₀, (short₀, (cells₀, tt))),
        all_pass (session_tests p.second) (own₁, (short₁, (cells₁, tt))),
        and_right sound₁ _ both,
        ltb-false (length p.first.image) (room_end p) room,
      )

  -- and the way back
  pub pair_passes : first_failing (session_tests p.first) ≡ 0 → first_failing (session_tests p.second) ≡ 0
      → none_lacking (tasks₀ p) (tasks₁ p) (ranks₀ p) (ranks₁ p) ≡ true → room_end p ≤ length p.first.image
      → first_failing (pair_tests p) ≡ 0
  unfolding pair_tests session_tests record_tests
  pair_passes one two there room =
      let (bad₀, (short₀, (cells₀, end₀))) = none_fails (session_tests p.first) (session_numbered p.first) one in
      let (bad₁, (short₁, (cells₁, end₁))) = none_fails (session_tests p.second) (session_numbered p.second) two in
      let sound₁ = session_sound p.second.file p.second.session p.second.lists in
      let sound = not-false sound₁ (or_right (not (eqb p.second.session.closed 0)) _ bad₁) in
      let mixed = or_both (or_left (not (eqb p.second.session.closed 0)) _ bad₁) (both_hold sound there) in
      all_pass (pair_tests p) (bad₀, (mixed, (le-ltb _ _ room, (short₀, (cells₀, (short₁, (cells₁, tt)))))))

-- ---- a loaded pair

module _ (p : LoadedPair) where
  -- no test has the number 0
  pub loaded_pair_numbered : Numbered (loaded_pair_tests p)
  unfolding loaded_pair_tests
  loaded_pair_numbered = omega arith

  -- where all pass, each loaded record's own do, and each rank is there
  pub loaded_pair_passed : first_failing (loaded_pair_tests p) ≡ 0
      → (first_failing (loaded_tests p.first) ≡ 0)
      × (first_failing (loaded_tests p.second) ≡ 0)
      × (none_lacking (Reads.tasks₀ p) (Reads.tasks₁ p) (Reads.ranks₀ p) (Reads.ranks₁ p) ≡ true)
  unfolding loaded_pair_tests loaded_tests record_tests
  loaded_pair_passed e =
      let (bad₀, (bad₁, (short₀, (cells₀, (short₁, (cells₁, end)))))) = none_fails (loaded_pair_tests p) loaded_pair_numbered e in
      let sound₁ = loaded_sound p.second.file p.second.loaded p.second.lists in
      let both = not-false _ (or_right (not (eqb p.second.loaded.closed 0)) _ bad₁) in
      let own₁ = or_both (or_left (not (eqb p.second.loaded.closed 0)) _ bad₁) (ap not (and_left sound₁ _ both)) in (
        all_pass (loaded_tests p.first) (bad₀, (short₀, (cells₀, tt))),
        all_pass (loaded_tests p.second) (own₁, (short₁, (cells₁, tt))),
        and_right sound₁ _ both,
      )

  -- and the way back
  pub loaded_pair_passes : first_failing (loaded_tests p.first) ≡ 0 → first_failing (loaded_tests p.second) ≡ 0
      → none_lacking (Reads.tasks₀ p) (Reads.tasks₁ p) (Reads.ranks₀ p) (Reads.ranks₁ p) ≡ true → first_failing (loaded_pair_tests p) ≡ 0
  unfolding loaded_pair_tests loaded_tests record_tests
  loaded_pair_passes one two there =
      let (bad₀, (short₀, (cells₀, end₀))) = none_fails (loaded_tests p.first) (loaded_numbered p.first) one in
      let (bad₁, (short₁, (cells₁, end₁))) = none_fails (loaded_tests p.second) (loaded_numbered p.second) two in
      let sound₁ = loaded_sound p.second.file p.second.loaded p.second.lists in
      let sound = not-false sound₁ (or_right (not (eqb p.second.loaded.closed 0)) _ bad₁) in
      let mixed = or_both (or_left (not (eqb p.second.loaded.closed 0)) _ bad₁) (both_hold sound there) in
      all_pass (loaded_pair_tests p) (bad₀, (mixed, (short₀, (cells₀, (short₁, (cells₁, tt))))))
