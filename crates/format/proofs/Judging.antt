-- Tests 17, 18 and 19 answer their numbers exactly where a record breaks a fact, is lent too little, or has a cell against META2's rule; and what
-- becomes of a session whose mark is set.
use mathlib.Core.Path.{◌≡◌, refl, sym, ap}
use mathlib.Core.Bool.{Bool, true, false, cond, not, ◌&&◌, ◌||◌, false≢true}
use mathlib.Core.List.{List, ◌++◌}
use mathlib.Core.Logic.{inl, inr}
use Prim.Native.Nat.{ℕ, zero, suc, ◌*◌, ◌≤◌, ◌<◌, zero-le}
use native.Mathlib.Omega.{arith}
use lib.Dec.{ltb, eqb}
use lib.IntN.{ℤ, pos}
use lib.ListN.{length}
use borrow.Author.Tests.{ltb-false, le-ltb, leb-true, eqb-true, eq-eqb, not-false}
use Rattle.lists.proofs.Below.{and_left, and_right, or_left, or_right, or_both}
use Rattle.endian.proofs.Signed.{within_natural, within_holds}
use Rattle.format.specs.Limits.{max_blocks, format_rule, blocksize_rule, tasks_rule, ranks_rule, sizes_rule, maxchunks_rule}
use Rattle.format.specs.Layout.{meta2_start, meta2_length, meta2_end}
use Rattle.format.specs.declared.head.Head.{Head}
use Rattle.format.specs.declared.head.File.{File}
use Rattle.format.specs.Refusals.{Test, first_failing}
use Rattle.format.specs.Record.{cell, rank_of, size_of, count_of, is_order, files_of, file_of, suits, holds, head_sound, too_short, cells_agree, record_tests}
use Rattle.format.proofs.Refusals.{Each, answered}
use Rattle.format.proofs.Rules.{values_used, values_unused, values_hold, counts_greatest, counts_hold}
use Rattle.format.specs.declared.session.Session.{Session}
use Rattle.format.specs.Session.{State, session_sound, session_tests}
use Rattle.format.proofs.Sessions.{session_suits, session_holds, session_sound_holds}
use Rattle.format.specs.declared.loaded.Loaded.{Loaded}
use Rattle.format.specs.Loaded.{loaded_sound}
use Rattle.format.specs.Reads.{Container, loaded_tests}
use Rattle.format.proofs.LoadedRecords.{loaded_suits, loaded_counts, loaded_holds}
use Rattle.format.specs.Accepted.{IsOrder, LongEnough, GoodHead, GoodSession, GoodLoaded, GoodCells, Judged, SessionJudged, LoadedJudged}
use Rattle.lists.specs.Logic.{Not, Exactly}
use Rattle.format.proofs.Formats.{format_known, format_kept, least_idle, idle_least}
use Rattle.format.proofs.InBounds.{in_bounds, block_kept, tasks_kept, ranks_kept, sizes_kept}

-- ---- the facts, and the tests of them

-- a byte order is 0 or 1
pub order_is : (order : ℕ) → is_order order ≡ true → IsOrder order
order_is zero e = inl refl
order_is (suc zero) e = inr refl
order_is (suc (suc more)) e = let l : suc (suc more) ≤ 1 = leb-true (suc (suc more)) 1 e in absurd (omega arith)

pub order_holds : (order : ℕ) → IsOrder order → is_order order ≡ true
order_holds order (inl e) = rw e refl
order_holds order (inr e) = rw e refl

-- the file that the call means
pub suits_are : (f : File) (h : Head) → suits f h ≡ true → (h.files ≡ files_of f) × (h.file ≡ file_of f)
suits_are f h e =
    (eqb-true h.files (files_of f) (and_left _ (eqb h.file (file_of f)) e), eqb-true h.file (file_of f) (and_right (eqb h.files (files_of f)) _ e))

pub suits_holds : (f : File) (h : Head) → h.files ≡ files_of f → h.file ≡ file_of f → suits f h ≡ true
suits_holds f h files file = rw (eq-eqb h.files (files_of f) files, eq-eqb h.file (file_of f) file)

module _ (h : Head) (lists : List ℕ) where
  head_good : (f : File) → suits f h ≡ true → head_sound h lists ≡ true → GoodHead f h lists
  unfolding head_sound
  head_good f fit e =
      let four = and_left _ (sizes_rule h.n (λ i. pos (size_of lists i))) e in
      let three = and_left _ (ranks_rule h.n (λ i. pos (rank_of lists i))) four in
      let two = and_left _ (tasks_rule (pos h.n)) three in
      let one = and_left _ (blocksize_rule (pos h.blocksize)) two in
      let first : Bool = is_order h.order && format_rule (pos h.format) in
      record {
        files = (suits_are f h fit).0;
        file = (suits_are f h fit).1;
        order = order_is h.order (and_left _ (format_rule (pos h.format)) one);
        format = format_known (and_right (is_order h.order) _ one);
        bounds =
            in_bounds (and_right first _ two) (and_right (first && blocksize_rule (pos h.blocksize)) _ three)
            (and_right (first && blocksize_rule (pos h.blocksize) && tasks_rule (pos h.n)) _ four)
            (and_right
            (first
            && blocksize_rule (pos h.blocksize)
            && tasks_rule (pos h.n)
            && ranks_rule h.n (λ i. pos (rank_of lists i)))
            _ e);
      }

  head_sound_holds : {f : File} → GoodHead f h lists → head_sound h lists ≡ true
  unfolding head_sound
  head_sound_holds g =
      let b = g.bounds in
      rw (order_holds h.order g.order, format_kept g.format, block_kept b, tasks_kept b, ranks_kept b _ (λ i l. refl)) (sizes_kept b _ (λ i l. refl))

  -- 18 and 19, for m chunks
  module _ (m : ℕ) (image : List ℕ) (table : List ℤ) where
    pub long_exactly : Exactly (too_short h.blocksize h.n (size_of lists) m (length image) (length table) ≡ false)
        (LongEnough h.blocksize h.n (size_of lists) m image table)
    unfolding too_short meta2_end meta2_start meta2_length
    long_exactly =
        let end : ℕ = meta2_end h.blocksize h.n (size_of lists) m in (
          λ e. record {
            image_long = ltb-false (length image) end (or_left (ltb (length image) end) _ e);
            table_long = ltb-false (length table) (h.n * m) (or_right (ltb (length image) end) _ e);
          },
          λ g. or_both (le-ltb (length image) end g.image_long) (le-ltb (length table) (h.n * m) g.table_long),
        )

    pub cells_exactly : Exactly (not (cells_agree h lists m table) ≡ false) (GoodCells h lists m table)
    unfolding cells_agree holds
    cells_exactly = (
      λ e.
          let agree = not-false _ e in
          record {
            used = λ i k l b u.
                let r = within_natural 0 _ _ (values_used h.n m (holds h (size_of lists)) (count_of lists) (cell table) agree i k l b u) in
                (_, r.0, r.2);
            others = λ i k l b u. values_unused h.n m (holds h (size_of lists)) (count_of lists) (cell table) agree i k l b u;
          },
      λ g.
          ap not
          (values_hold h.n m (holds h (size_of lists)) (count_of lists) (cell table)
          (λ i k l b u. let (bytes, is, fits) = g.used i k l b u in rw is (within_holds 0 _ bytes zero-le fits))
          (λ i k l u b. g.others i k l b u)),
    )

-- 17: a record is not marked closed and its numbers are sound
module _ (closed : ℕ) (sound : Bool) where
  pub mark_test : (not (eqb closed 0) || not sound) ≡ false → (closed ≡ 0) × (sound ≡ true)
  mark_test e =
      (eqb-true closed 0 (not-false _ (or_left (not (eqb closed 0)) _ e)), not-false _ (or_right (not (eqb closed 0)) _ e))

  pub mark_passes : closed ≡ 0 → sound ≡ true → (not (eqb closed 0) || not sound) ≡ false
  mark_passes e f = or_both (ap not (eq-eqb closed 0 e)) (ap not f)

pub session_exactly : (f : File) (s : Session) (lists : List ℕ)
    → Exactly ((not (eqb s.closed 0) || not (session_sound f s lists)) ≡ false) (GoodSession f s lists)
session_exactly f s lists = (
  λ e.
      let (not_closed, sound) = mark_test s.closed (session_sound f s lists) e in
      let (some, (head, few, counts)) = session_holds f s lists sound in
      record {
        not_closed = not_closed;
        head = head_good s.head lists f (session_suits f s lists sound) head;
        planned_range = (some, few);
        counts_range = λ i l. (counts i l).1;
        counts_idle = λ four i l. least_idle (counts i l).0 four;
      },
  λ g.
      mark_passes s.closed (session_sound f s lists) g.not_closed
      (session_sound_holds f s lists (suits_holds f s.head g.head.files g.head.file) g.planned_range.0 (head_sound_holds s.head lists g.head, g.planned_range.1, λ i l. (idle_least (λ four. g.counts_idle four i l), g.counts_range i l))),
)

module _ (f : File) (l : Loaded) (lists : List ℕ) where
  loaded_sound_holds : GoodLoaded f l lists → loaded_sound f l lists ≡ true
  unfolding loaded_sound maxchunks_rule
  loaded_sound_holds g =
      let (i, below, top) = g.greatest in
      rw (
        head_sound_holds l.head lists g.head,
        within_holds 0 max_blocks l.maxchunks zero-le g.maxchunks_range,
        counts_hold l.head.format l.head.n l.maxchunks (λ i. pos (count_of lists i))
            (λ i below. within_holds _ l.maxchunks (count_of lists i) (idle_least (λ four. g.counts_idle four i below)) (g.counts_range i below)) i below top,
      ) (suits_holds f l.head g.head.files g.head.file)

  pub loaded_exactly : Exactly ((not (eqb l.closed 0) || not (loaded_sound f l lists)) ≡ false) (GoodLoaded f l lists)
  loaded_exactly = (
    λ e.
        let (not_closed, sound) = mark_test l.closed (loaded_sound f l lists) e in
        let (kept, few, counts) = loaded_holds f l lists sound in
        let head = head_good l.head lists f (loaded_suits f l lists sound) kept in
        record {
          not_closed = not_closed;
          head = head;
          maxchunks_range = few;
          counts_range = λ i b. (counts i b).1;
          counts_idle = λ four i b. least_idle (counts i b).0 four;
          greatest = counts_greatest l.head.format l.head.n l.maxchunks _ (loaded_counts f l lists sound) head.bounds.tasks_range.0;
        },
    λ g. mark_passes l.closed (loaded_sound f l lists) g.not_closed (loaded_sound_holds g),
  )

-- ---- an answer by the three tests and what follows them

-- a number of none of them
abbrev pub Other : ℕ → Type 0
Other r = Not (r ≡ 17) × Not (r ≡ 18) × Not (r ≡ 19)

pub under : {r : ℕ} → r < 17 → Other r
under l = (λ e. omega arith, λ e. omega arith, λ e. omega arith)

pub over : {r : ℕ} → 19 < r → Other r
over l = (λ e. omega arith, λ e. omega arith, λ e. omega arith)

judged : {S L A : Type 0} (x y z : Bool) (rest : ℕ) → Exactly (x ≡ false) S → Exactly (y ≡ false) L → Exactly (z ≡ false) A → Other rest
    → Judged S L A (cond x 17 (cond y 18 (cond z 19 rest)))
judged true y z rest s l a other = record {
  number_17 = (λ _ ok. false≢true (sym (s.1 ok)), λ _. refl);
  number_18 = (λ e. absurd (omega arith), λ p. absurd (false≢true (sym (s.1 p.0))));
  number_19 = (λ e. absurd (omega arith), λ p. absurd (false≢true (sym (s.1 p.0))));
}
judged false true z rest s l a other = record {
  number_17 = (λ e. absurd (omega arith), λ no. absurd (no (s.0 refl)));
  number_18 = (λ _. (s.0 refl, λ ok. false≢true (sym (l.1 ok))), λ _. refl);
  number_19 = (λ e. absurd (omega arith), λ p. absurd (false≢true (sym (l.1 p.1))));
}
judged false false true rest s l a other = record {
  number_17 = (λ e. absurd (omega arith), λ no. absurd (no (s.0 refl)));
  number_18 = (λ e. absurd (omega arith), λ p. absurd (p.1 (l.0 refl)));
  number_19 = (λ _. (s.0 refl, l.0 refl, λ ok. false≢true (sym (a.1 ok))), λ _. refl);
}
judged false false false rest s l a other = record {
  number_17 = (λ e. absurd (other.0 e), λ no. absurd (no (s.0 refl)));
  number_18 = (λ e. absurd (other.1 e), λ p. absurd (p.1 (l.0 refl)));
  number_19 = (λ e. absurd (other.2 e), λ p. absurd (p.2 (a.0 refl)));
}

-- what follows them has other numbers
pub other_tests : (ts : List Test) → Each (λ t. Other t.number) ts → Other (first_failing ts)
other_tests ts each = answered Other ts (under (omega arith)) each

-- ---- the entries

record_judged : {S : Type 0} (closed : ℕ) (sound : Bool) (h : Head) (lists : List ℕ) (m : ℕ) (image : List ℕ) (table : List ℤ) (rest : List Test)
    → Exactly ((not (eqb closed 0) || not sound) ≡ false) S → Each (λ t. Other t.number) rest
    → Judged S (LongEnough h.blocksize h.n (size_of lists) m image table) (GoodCells h lists m table)
    (first_failing (record_tests closed sound h lists m image table ++ rest))
unfolding record_tests first_failing
record_judged closed sound h lists m image table rest s each =
    judged _ _ _ _ s (long_exactly h lists m image table) (cells_exactly h lists m image table) (other_tests rest each)

pub session_judged : (st : State) (rest : List Test) → Each (λ t. Other t.number) rest → SessionJudged st (first_failing (session_tests st ++ rest))
unfolding session_tests
session_judged st rest = record_judged _ _ _ _ _ _ _ rest (session_exactly st.file st.session st.lists)

pub loaded_judged : (c : Container) (rest : List Test) → Each (λ t. Other t.number) rest → LoadedJudged c (first_failing (loaded_tests c ++ rest))
unfolding loaded_tests
loaded_judged c rest = record_judged _ _ _ _ _ _ _ rest (loaded_exactly c.file c.loaded c.lists)
