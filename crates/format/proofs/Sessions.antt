-- Tests 17, 18 and 19 of a session: what holds where they pass, and that they pass where it holds.
use mathlib.Core.Path.{◌≡◌}
use mathlib.Core.Bool.{Bool, true, ◌&&◌}
use mathlib.Core.List.{List}
use Prim.Native.Nat.{ℕ, ◌≤◌}
use lib.IntN.{pos}
use Rattle.lists.specs.Below.{all_below}
use Rattle.endian.specs.Signed.{within}
use Rattle.lists.proofs.Below.{and_left, and_right, all_at, all_of}
use Rattle.endian.proofs.Signed.{within_facts, within_holds}
use Rattle.format.specs.Limits.{max_blocks, planned_rule}
use Rattle.format.specs.declared.head.File.{File}
use Rattle.format.specs.Refusals.{first_failing}
use Rattle.format.specs.Meta2.{least_count}
use Rattle.format.specs.Record.{count_of, suits, file_in, head_sound}
use Rattle.format.specs.Passed.{Passed}
use Rattle.format.proofs.Refusals.{Numbered}
use Rattle.format.proofs.Passing.{SoundNumbers, record_numbered, record_sound, record_passed, record_passes}
use Rattle.format.proofs.Record.{suits_file}
use Rattle.format.specs.declared.session.Session.{Session}
use Rattle.format.specs.Session.{State, session_sound, session_tests}

module _ (f : File) (s : Session) (lists : List ℕ) where
  pub session_suits : session_sound f s lists ≡ true → suits f s.head ≡ true
  unfolding session_sound
  session_suits e = and_right (head_sound s.head lists && planned_rule (pos s.planned) && counts_kept_in) _ e
    where
      counts_kept_in : Bool
      counts_kept_in = all_below s.head.n (λ i. within (least_count s.head.format) s.planned (pos (count_of lists i)))

  pub session_holds : session_sound f s lists ≡ true → (1 ≤ s.planned) × SoundNumbers s.head lists s.planned
  unfolding session_sound planned_rule
  session_holds e =
      let e = and_left _ (suits f s.head) e in
      let front = and_left _ (all_below s.head.n (λ i. within (least_count s.head.format) s.planned (pos (count_of lists i)))) e in
      let (some, few) = within_facts 1 max_blocks s.planned (and_right (head_sound s.head lists) _ front) in
      let all = and_right (head_sound s.head lists && planned_rule (pos s.planned)) _ e in
      (some, (and_left _ (planned_rule (pos s.planned)) front, few, λ i l. within_facts _ s.planned _ (all_at _ s.head.n i l all)))

  pub session_sound_holds : suits f s.head ≡ true → 1 ≤ s.planned → SoundNumbers s.head lists s.planned → session_sound f s lists ≡ true
  unfolding session_sound planned_rule
  session_sound_holds fit some (head, few, counts) =
      rw (
        head,
        within_holds 1 max_blocks s.planned some few,
        all_of (λ i. within (least_count s.head.format) s.planned (pos (count_of lists i))) s.head.n
            (λ i l. within_holds _ s.planned _ (counts i l).0 (counts i l).1),
      ) fit

module _ (st : State) where
  pub session_numbered : Numbered (session_tests st)
  unfolding session_tests
  session_numbered = record_numbered _ _ _ _ _ _ _

  pub session_passed : first_failing (session_tests st) ≡ 0
      → Passed st.session.head st.lists st.session.planned st.image st.table
  unfolding session_tests
  session_passed = record_passed _ _ _ _ _ _ _ (λ e. (session_holds st.file st.session st.lists e).1)

  -- it says that it is the file that the call means
  pub session_file : first_failing (session_tests st) ≡ 0 → file_in st.session.head ≡ st.file
  unfolding session_tests
  session_file e =
      suits_file st.file st.session.head
      (session_suits st.file st.session st.lists
      (record_sound st.session.closed _ st.session.head st.lists st.session.planned st.image st.table e))

  pub session_passes : suits st.file st.session.head ≡ true → st.session.closed ≡ 0 → 1 ≤ st.session.planned
      → Passed st.session.head st.lists st.session.planned st.image st.table → first_failing (session_tests st) ≡ 0
  unfolding session_tests
  session_passes fit not_closed some p =
      record_passes _ _ _ _ _ _ _ not_closed (session_sound_holds st.file st.session st.lists fit some (p.head, p.few, p.counts)) p.image_long p.table_long
      p.agree
