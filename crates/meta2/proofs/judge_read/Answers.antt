-- Counts that are read without a sign keep their rule exactly where the signed ones do, and are then the same. Each return by the tests that led
-- there.
use mathlib.Core.Path.{◌≡◌, refl, sym, ◌∙◌}
use mathlib.Core.Bool.{Bool, true, false, false≢true}
use mathlib.Core.List.{List}
use Prim.Native.Nat.{ℕ, zero, suc, ◌*◌, ◌<◌}
use native.Mathlib.Omega.{arith}
use lib.IntN.{pos}
use Rattle.lists.proofs.Below.{and_left}
use Rattle.endian.specs.Number.{number_at}
use Rattle.endian.specs.Signed.{sign_bit}
use Rattle.format.specs.Refusals.{Verdict}
use Rattle.format.specs.declared.head.Head.{Head}
use Rattle.format.specs.Layout.{capacity}
use Rattle.format.specs.Meta2.{count_field, value_field, least_count, counts_rule, values_rule}
use Rattle.format.specs.Record.{entry, size_of, count_of, is_big, holds}
use Rattle.format.specs.Refusals.{first_failing, verdict, passed}
use Rattle.format.specs.Judge.{count_in, value_tests, counts_tests, meta2_tests}
use Rattle.format.proofs.Accepting.{counts_numbered, counts_hold, counts_pass, values_verdict}
use Rattle.format.proofs.Rules.{values_agree}
use Rattle.format.proofs.Unsigned.{natural_unsigned, counts_unsigned}
use Rattle.format.proofs.Verdicts.{verdict_passes, verdict_fails}
use Rattle.meta2.specs.Judging.{CountsRead, CountsPassed}
use Rattle.meta2.proofs.Counts.{first_counts, rule_first, values_first}
use Rattle.meta2.proofs.judge_read.Goals as goal
use Rattle.meta2.proofs.judge_read.Goals.{After-counts_ok, After-values_ok}

module _ {part : List ℕ} {at : ℕ} {h : Head} {maxchunks : ℕ} {lists : List ℕ} (r : CountsRead part at h maxchunks lists) where
  abbrev size : ℕ → ℕ
  size = size_of lists

  abbrev tests : Verdict
  tests = verdict (meta2_tests h size maxchunks at part)

  -- the rule of the counts says the same of what is read and of the fields
  counts_judged : counts_rule h.format h.n maxchunks (count_field (is_big h) part) ≡ counts_rule h.format h.n maxchunks (λ i. pos (count_of lists i))
  counts_judged =
      let small = r.there.small in
      sym (counts_unsigned (sign_bit 8) h.n (λ i. number_at (is_big h) 8 part (8 * i)) (count_of lists) r.counts_are h.format maxchunks (omega arith))

  bad_counts : {v : Verdict} → counts_rule h.format h.n maxchunks (λ i. pos (count_of lists i)) ≡ false
      → v ≡ verdict (counts_tests h size maxchunks at part) → v ≡ tests
  unfolding meta2_tests
  bad_counts e judged = judged ∙ sym (verdict_fails (counts_tests h size maxchunks at part) _ (some (first_failing (counts_tests h size maxchunks at part)) refl))
    where
      some : (q : ℕ) → first_failing (counts_tests h size maxchunks at part) ≡ q → 0 < q
      some zero none = absurd (false≢true (sym (counts_judged ∙ e) ∙ counts_hold h size maxchunks part at none))
      some (suc q) found = omega arith

  -- counts that keep it are the fields, and the values are judged by them
  module _ (e : counts_rule h.format h.n maxchunks (λ i. pos (count_of lists i)) ≡ true) where
    kept : (i : ℕ) → i < h.n → count_of lists i ≡ count_in h part i
    unfolding counts_rule count_in
    kept i l =
        let small = r.there.small in
        natural_unsigned (sign_bit 8) h.n (λ j. number_at (is_big h) 8 part (8 * j)) (count_of lists) r.counts_are (least_count h.format) maxchunks (omega arith)
        (and_left _ _ e) i l

    counts_passed : CountsPassed part at h maxchunks lists
    counts_passed = record { there = r.there; kept = kept }

    values_asked : tests ≡ verdict (value_tests h size maxchunks at part)
    unfolding meta2_tests
    values_asked =
        verdict_passes (counts_tests h size maxchunks at part) _ (counts_numbered h size maxchunks part at)
        (counts_pass h size maxchunks part at (counts_judged ∙ e))

    values_pass : {v : Bool} → v ≡ values_rule h.n maxchunks (holds h size) (count_of lists) (value_field (is_big h) part h.n) → v ≡ true
        → passed ≡ tests
    unfolding values_rule
    values_pass judged good =
        let value = value_field (is_big h) part h.n in
        let capacity = holds h size in
        let same = values_agree h.n maxchunks capacity capacity (count_of lists) (count_in h part) value value (λ i l. refl) kept (λ j l. refl) in
        sym (values_asked ∙ values_verdict h size maxchunks part at ∙ rw (sym same ∙ sym judged ∙ good))

-- the rule of the counts, judged over the first of the lists
counts_are : (s : After-counts_ok) → let a = s.args in
    s.counts_ok.result ≡ counts_rule a.h.format a.h.n a.maxchunks (λ i. pos (count_of a.lists.now i))
counts_are s = let a = s.args in s.counts_ok.ensures ∙ rule_first a.lists.now s.told-lists a.h.n s.requires.there.sound.tasks a.h.format a.maxchunks

pub returns-then-not-counts_ok : goal.returns-then-not-counts_ok
returns-then-not-counts_ok c =
    let s : After-counts_ok = (goal.at.returns-then-not-counts_ok c).After-counts_ok in
    bad_counts c.requires (sym (counts_are s) ∙ c.if-not-counts_ok.true) c.judge_counts.ensures

pub judge_values-requires : goal.judge_values-requires
judge_values-requires c =
    let s : After-counts_ok = (goal.at.judge_values-requires c).After-counts_ok in
    counts_passed c.requires (sym (counts_are s) ∙ c.if-not-counts_ok.false)

pub returns-then-not-values_ok : goal.returns-then-not-values_ok
returns-then-not-values_ok c =
    let s : After-counts_ok = (goal.at.returns-then-not-values_ok c).After-counts_ok in
    c.judge_values.ensures ∙ sym (values_asked c.requires (sym (counts_are s) ∙ c.if-not-counts_ok.false))

-- and that of the values, over the layout of the record
values_are : (s : After-values_ok) → let a = s.args in
    s.values_ok.result
    ≡ values_rule a.h.n a.maxchunks (holds a.h (size_of a.lists.now)) (count_of a.lists.now) (value_field (is_big a.h) a.part.now a.h.n)
unfolding holds
values_are s =
    let a = s.args in
    let first = first_counts a.lists.now s.told-lists a.h.n s.requires.there.sound.tasks in
    let lay = s.of-layout.ensures in
    s.values_ok.ensures
    ∙ (λ x. values_rule (lay.n x) a.maxchunks (λ i. capacity (lay.blocksize x) (entry (lay.sizes x) i)) (entry first) (value_field (is_big a.h) a.part.now (lay.n x)))
    ∙ values_first a.lists.now s.told-lists a.h.n s.requires.there.sound.tasks a.maxchunks (holds a.h (size_of a.lists.now))
    (value_field (is_big a.h) a.part.now a.h.n)

pub returns : goal.returns
returns c =
    let s : After-counts_ok = (goal.at.returns c).After-counts_ok in
    let v : After-values_ok = (goal.at.returns c).After-values_ok in
    values_pass c.requires (sym (counts_are s) ∙ c.if-not-counts_ok.false) (values_are v) c.if-not-values_ok.false
