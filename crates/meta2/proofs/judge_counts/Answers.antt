-- The first count that breaks its rule is the same of what is read without a sign and of the fields. Each return by the tests that led there.
use mathlib.Core.Path.{◌≡◌, ap, sym, ◌∙◌}
use mathlib.Core.Bool.{true, not}
use mathlib.Core.List.{List}
use Prim.Native.Nat.{ℕ, suc, ◌+◌, ◌*◌, ◌≤◌, ◌<◌}
use native.Mathlib.Omega.{arith}
use borrow.Author.Tests.{eq-eqb, ne_eqb}
use lib.IntN.{pos}
use lib.ListN.{length}
use Rattle.lists.specs.Below.{all_below, first_not, greatest_below}
use Rattle.lists.proofs.Below.{all_at, all_cong, first_cong, greatest_cong, greatest_le}
use Rattle.endian.specs.Number.{number_at}
use Rattle.endian.specs.Signed.{sign_bit, within}
use Rattle.endian.proofs.Signed.{within_facts, within_signed}
use Rattle.format.specs.Refusals.{Verdict}
use Rattle.format.specs.declared.head.Head.{Head}
use Rattle.format.specs.Kinds
use Rattle.format.specs.Limits.{max_tasks}
use Rattle.format.specs.Meta1.{last_at}
use Rattle.format.specs.Meta2.{count_field, least_count}
use Rattle.format.specs.Record.{size_of, counts_of, count_of, is_big}
use Rattle.format.specs.Refusals.{fault_of, first_failing, verdict, passed}
use Rattle.format.specs.Judge.{number_fault, count_in, count_tests, greatest_test, counts_tests}
use Rattle.format.proofs.Accepting.{count_numbered}
use Rattle.format.proofs.Chunks.{meta2_parts}
use Rattle.format.proofs.Formats.{least_one}
use Rattle.format.proofs.Unsigned.{natural_unsigned}
use Rattle.format.proofs.Judged.{verdict_of}
use Rattle.format.proofs.Verdicts.{fails_first, passes_last, verdict_passes, verdict_fails, fields_first, fields_pass}
use Rattle.rules.specs.First.{first_bad}
use Rattle.rules.proofs.First.{none_bad, some_bad, bad_taken}
use Rattle.meta2.specs.Judging.{CountsRead}
use Rattle.meta2.proofs.Counts.{enough, greatest_first}
use Rattle.meta2.proofs.judge_counts.Goals as goal
use Rattle.meta2.proofs.judge_counts.Goals.{After-first_outside, In_default, After-greatest-most}

module _ {part : List ℕ} {at : ℕ} {h : Head} {maxchunks : ℕ} {lists : List ℕ} (r : CountsRead part at h maxchunks lists) where
  abbrev size : ℕ → ℕ
  size = size_of lists

  abbrev least : ℕ
  least = least_count h.format

  abbrev tests : Verdict
  tests = verdict (counts_tests h size maxchunks at part)

  -- a count keeps its rule where the field does
  field_same : (j : ℕ) → j < h.n → within least maxchunks (pos (count_of lists j)) ≡ within least maxchunks (count_field (is_big h) part j)
  field_same j l =
      let small = r.there.small in
      ap (λ (v : ℕ). within least maxchunks (pos v)) (r.counts_are j l)
      ∙ sym (within_signed least maxchunks (sign_bit 8) (number_at (is_big h) 8 part (8 * j)) (omega arith))

  -- the first that breaks its rule is the same of the fields and of what is read
  first_broken : {i : ℕ} → i ≡ first_not h.n (λ j. within least maxchunks (pos (count_of lists j))) → i < h.n
      → record { refusal = 13; fault = fault_of Kinds.count (suc i) 0 (at + 8 * i) (count_field (is_big h) part i) (pos least) (pos maxchunks) } ≡ tests
  unfolding counts_tests count_tests
  first_broken e l =
      let found = fields_first 13 (omega arith) _ _ (e ∙ first_cong _ _ h.n field_same) l in
      let number : first_failing (count_tests h size maxchunks at part) ≡ 13 = λ x. (found x).refusal in
      sym (verdict_fails (count_tests h size maxchunks at part) _ (rw number (omega arith)) ∙ found)

  -- counts that keep it are the fields, and what follows is judged by them
  module _ (all : all_below h.n (λ j. within least maxchunks (pos (count_of lists j))) ≡ true) where
    counted : first_failing (count_tests h size maxchunks at part) ≡ 0
    unfolding count_tests
    counted = fields_pass 13 (omega arith) _ _ h.n (sym (all_cong _ _ h.n field_same) ∙ all)

    kept : (j : ℕ) → j < h.n → count_of lists j ≡ count_in h part j
    unfolding count_in
    kept j l =
        let small = r.there.small in
        natural_unsigned (sign_bit 8) h.n (λ j. number_at (is_big h) 8 part (8 * j)) (count_of lists) r.counts_are least maxchunks (omega arith) all j l

    few_chunks : greatest_below h.n (count_of lists) ≤ maxchunks
    few_chunks =
        greatest_le (count_of lists) h.n maxchunks
        (λ j l. (within_facts least maxchunks (count_of lists j) (all_at _ h.n j l all)).1)

    module _ {most : ℕ} (most-is : most ≡ greatest_below h.n (count_of lists)) where
      same_most : most ≡ greatest_below h.n (count_in h part)
      same_most = most-is ∙ greatest_cong (count_of lists) (count_in h part) h.n kept

      bad_most : (most ≡ maxchunks → ⊥)
          → record { refusal = 13; fault = number_fault Kinds.maxchunks (last_at h.n) (pos maxchunks) most most } ≡ tests
      unfolding counts_tests greatest_test
      bad_most other =
          sym (verdict_passes (count_tests h size maxchunks at part) _ (count_numbered h size maxchunks part at) counted
          ∙ fails_first _ _ (ap not (ne_eqb _ maxchunks (λ e. other (same_most ∙ e))))
          ∙ (λ x. record { refusal = 13; fault = number_fault Kinds.maxchunks (last_at h.n) (pos maxchunks) (sym same_most x) (sym same_most x) }))

      counts_pass : most ≡ maxchunks → passed ≡ tests
      unfolding counts_tests greatest_test
      counts_pass top =
          sym (verdict_passes (count_tests h size maxchunks at part) _ (count_numbered h size maxchunks part at) counted
          ∙ passes_last _ (ap not (eq-eqb _ maxchunks (sym same_most ∙ top))))

-- the search of the code, over the first counts of the lists
searched : (s : After-first_outside) → let a = s.args in
    s.first_outside.result ≡ first_bad a.h.n (λ j. within (least_count a.h.format) a.maxchunks (pos (count_of a.lists.now j)))
searched s =
    let a = s.args in
    let enough = enough a.lists.now s.told-lists a.h.n s.requires.there.sound.tasks in
    rw s.least_count-least.ensures at s.first_outside.ensures
    ∙ bad_taken a.h.n (counts_of a.lists.now) enough (λ v. within (least_count a.h.format) a.maxchunks (pos v))

pub bad_count-requires : goal.bad_count-requires
bad_count-requires c =
    let s : After-first_outside = (goal.at.bad_count-requires c).After-first_outside in
    let found = some_bad _ _ c.in-Some.i (sym (searched s) ∙ c.in-Some.is) in
    let long : 8 * c.args.h.n ≤ length c.args.part.now = omega (arith, c.requires.there.whole, meta2_parts c.args.h.n c.args.maxchunks) in
    let few : c.args.h.n ≤ max_tasks = c.requires.there.sound.tasks in (
      omega (arith, long, found.1),
      omega (arith, few, found.1),
      omega (arith, least_one c.args.h.format, c.least_count-least.ensures),
      c.requires.there.ends,
    )

pub returns-in-Some : goal.returns-in-Some
returns-in-Some c =
    let a = c.args in
    let i = c.in-Some.i in
    let s : After-first_outside = (goal.at.returns-in-Some c).After-first_outside in
    let found = some_bad _ _ i (sym (searched s) ∙ c.in-Some.is) in
    (λ x. verdict_of (c.bad_count.ensures x))
    ∙ (λ x. record {
      refusal = 13;
      fault =
          fault_of Kinds.count (suc i) 0 (a.at + 8 * i) (count_field (is_big a.h) a.part.now i) (pos (c.least_count-least.ensures x))
          (pos a.maxchunks);
    })
    ∙ first_broken c.requires found.0 found.1

-- no count breaks its rule
all_kept : (s : In_default) → let a = s.args in
    all_below a.h.n (λ j. within (least_count a.h.format) a.maxchunks (pos (count_of a.lists.now j))) ≡ true
all_kept s =
    let f : After-first_outside = (goal.at.In_default s).After-first_outside in
    none_bad _ _ (sym (searched f) ∙ s.in_default.is)

greatest_is : (s : After-greatest-most) → let a = s.args in s.greatest-most.result ≡ greatest_below a.h.n (count_of a.lists.now)
greatest_is s = let a = s.args in s.greatest-most.ensures ∙ greatest_first a.lists.now s.told-lists a.h.n s.requires.there.sound.tasks

pub not_as_needed-requires : goal.not_as_needed-requires
not_as_needed-requires c =
    let d : In_default = (goal.at.not_as_needed-requires c).In_default in
    let g : After-greatest-most = (goal.at.not_as_needed-requires c).After-greatest-most in
    (omega (arith, c.requires.there.small), omega (arith, few_chunks c.requires (all_kept d), greatest_is g, c.requires.there.small))

pub returns-then-most-maxchunks : goal.returns-then-most-maxchunks
returns-then-most-maxchunks c =
    let most = c.greatest-most.result in
    let d : In_default = (goal.at.returns-then-most-maxchunks c).In_default in
    let g : After-greatest-most = (goal.at.returns-then-most-maxchunks c).After-greatest-most in
    (λ x. verdict_of (c.not_as_needed.ensures x))
    ∙ (λ x. record { refusal = 13; fault = number_fault Kinds.maxchunks (c.last_at-place.ensures x) (pos c.args.maxchunks) most most })
    ∙ bad_most c.requires (all_kept d) (greatest_is g) c.if-most-maxchunks.true

pub returns : goal.returns
returns c =
    let d : In_default = (goal.at.returns c).In_default in
    let g : After-greatest-most = (goal.at.returns c).After-greatest-most in
    counts_pass c.requires (all_kept d) (greatest_is g) c.if-most-maxchunks.false
