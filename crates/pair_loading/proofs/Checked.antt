-- What the check of a pair answers: refused by either file or by the mapping, and accepted; and what a load leaves in both tables.
use mathlib.Core.Path.{◌≡◌, refl, sym, ap, ◌∙◌}
use mathlib.Core.List.{List, ◌++◌}
use Prim.Native.Nat.{ℕ}
use native.Mathlib.Omega.{arith}
use borrow.Author.Tests.{ne_eqb}
use lib.IntN.{ℤ}
use lib.ListN.{length}
use Rattle.format.specs.Refusals.{Verdict}
use Rattle.format.specs.declared.head.File.{File}
use Rattle.format.specs.declared.head.File.TheVariants.{First, Second}
use Rattle.format.specs.declared.loaded.LoadAnswer.{LoadAnswer}
use Rattle.format.specs.Refusals.{no_fault, first_failing, verdict}
use Rattle.format.specs.Record.{no_lists}
use Rattle.format.specs.Loaded.{no_loaded}
use Rattle.format.specs.Judge.{tasks_in, maxchunks_in, head_in, rank_in, size_in, big_in, meta2_in, meta1_tests}
use Rattle.format.specs.Load.{meta2_bytes, loaded_in, lists_in, load_tests, load_refusal, load_fault, check_answer, load_table}
use Rattle.format.proofs.Refusals.{Numbered, both_pass, when_accepted, when_refused, number_is}
use Rattle.format.proofs.Verdicts.{each_append, verdict_passes, verdict_fails, verdict_none}
use Rattle.format.proofs.Accepting.{meta1_numbered, meta2_numbered}
use Rattle.pairs.specs.declared.PairLoaded.{PairLoaded}
use Rattle.pairs.specs.Load.{end_in, mapping_in, pair_load_tests, pair_load_refusal, broken_file, pair_fault, pair_checked, pair_load_tables}
use Rattle.pairs.proofs.Mapping.{mapping_numbered}
use Rattle.pair_loading.proofs.Accepted.{number_of, answer_is}

-- ---- one file

pub load_numbered : (f : File) (image : List ℕ) (cells : ℕ) → Numbered (load_tests f image cells)
unfolding load_tests
load_numbered f image cells =
    each_append _ (meta1_tests image f (length image)) _ (meta1_numbered image f (length image))
    (omega arith, meta2_numbered (head_in image) (size_in image) (maxchunks_in image) (meta2_bytes image) (meta2_in image))

-- what its tests answer, of a refused check
refused_verdict : (f : File) (image : List ℕ) (cells : ℕ) {answer : LoadAnswer} → answer ≡ check_answer f image cells → (answer.refusal ≡ 0 → ⊥)
    → verdict (load_tests f image cells) ≡ record { refusal = answer.refusal; fault = answer.fault }
unfolding check_answer load_refusal load_fault
refused_verdict f image cells {answer} checked some =
    let number = number_of f image cells checked in
    let e = checked ∙ when_refused (load_refusal f image cells) _ _ (omega (arith, number, some)) in
    λ i. record { refusal = (sym e i).refusal; fault = (sym e i).fault }

-- ---- refused, by a verdict on a file

abbrev refused_by : Verdict → ℕ → PairLoaded
refused_by v file =
    record { loaded0 = no_loaded; lists0 = no_lists; loaded1 = no_loaded; lists1 = no_lists; refusal = v.refusal; file = file; fault = v.fault }

module _ (image image' : List ℕ) (cells cells' : ℕ) where
  refused_pair : {v : Verdict} {file : ℕ} → (v.refusal ≡ 0 → ⊥) → verdict (pair_load_tests image image' cells cells') ≡ v
      → broken_file image image' cells cells' ≡ file → refused_by v file ≡ pair_checked image image' cells cells'
  unfolding pair_checked pair_load_refusal pair_fault
  refused_pair {v} {file} some e broken =
      let number : v.refusal ≡ first_failing (pair_load_tests image image' cells cells') = λ i. (sym e i).refusal in
      sym
      (when_refused (first_failing (pair_load_tests image image' cells cells')) _ _ (omega (arith, some))
      ∙ (λ i. refused_by (e i) (broken i)))

  module _ {one : LoadAnswer} (checked : one ≡ check_answer First image cells) where
    pub first_refused : (one.refusal ≡ 0 → ⊥)
        → refused_by (record { refusal = one.refusal; fault = one.fault }) 0 ≡ pair_checked image image' cells cells'
    unfolding pair_load_tests broken_file load_refusal
    first_refused some =
        let number = number_of First image cells checked in
        refused_pair some
        (verdict_fails (load_tests First image cells) _ (omega (arith, number, some)) ∙ refused_verdict First image cells checked some)
        (rw (number, ne_eqb one.refusal 0 some))

    module _ (none : one.refusal ≡ 0) {two : LoadAnswer} (checked' : two ≡ check_answer Second image' cells') where
      first_passes : first_failing (load_tests First image cells) ≡ 0
      unfolding load_refusal
      first_passes = number_of First image cells checked ∙ none

      -- what is asked then
      rest : verdict (pair_load_tests image image' cells cells') ≡ verdict (load_tests Second image' cells' ++ mapping_in image image')
      unfolding pair_load_tests
      rest = verdict_passes (load_tests First image cells) _ (load_numbered First image cells) first_passes

      pub second_refused : (two.refusal ≡ 0 → ⊥)
          → refused_by (record { refusal = two.refusal; fault = two.fault }) 1 ≡ pair_checked image image' cells cells'
      unfolding broken_file load_refusal
      second_refused some =
          let number = number_of Second image' cells' checked' in
          refused_pair some
          (rest ∙ verdict_fails (load_tests Second image' cells') _ (omega (arith, number, some))
          ∙ refused_verdict Second image' cells' checked' some)
          (rw (first_passes, number, ne_eqb two.refusal 0 some))

      module _ (none' : two.refusal ≡ 0) {v : Verdict} (judged : v ≡ verdict (mapping_in image image')) where
        second_passes : first_failing (load_tests Second image' cells') ≡ 0
        unfolding load_refusal
        second_passes = number_of Second image' cells' checked' ∙ none'

        last : verdict (pair_load_tests image image' cells cells') ≡ v
        last = rest ∙ verdict_passes (load_tests Second image' cells') _ (load_numbered Second image' cells') second_passes ∙ sym judged

        pub mapping_refused : (v.refusal ≡ 0 → ⊥) → refused_by v 0 ≡ pair_checked image image' cells cells'
        unfolding broken_file load_refusal
        mapping_refused some = refused_pair some last (rw (first_passes, second_passes))

        -- ---- accepted

        no_fault_found : v.refusal ≡ 0 → v.fault ≡ no_fault
        unfolding mapping_in
        no_fault_found zero =
            let passes : first_failing (mapping_in image image') ≡ 0 = (λ i. (sym judged i).refusal) ∙ zero in
            (λ i. (judged i).fault)
            ∙ (λ i.
            (verdict_none (mapping_in image image')
            (mapping_numbered (tasks_in image) (tasks_in image') (rank_in image) (rank_in image') (big_in image) image (end_in image)) passes i).fault)

        pub accepted : v.refusal ≡ 0
            → record {
              loaded0 = one.loaded;
              lists0 = one.lists;
              loaded1 = two.loaded;
              lists1 = two.lists;
              refusal = 0;
              file = 0;
              fault = v.fault;
            } ≡ pair_checked image image' cells cells'
        unfolding pair_checked pair_load_refusal
        accepted zero =
            let e = answer_is First image cells checked none in
            let e' = answer_is Second image' cells' checked' none' in
            (λ i. record {
              loaded0 = (e i).loaded;
              lists0 = (e i).lists;
              loaded1 = (e' i).loaded;
              lists1 = (e' i).lists;
              refusal = 0;
              file = 0;
              fault = no_fault_found zero i;
            })
            ∙ sym (when_accepted (first_failing (pair_load_tests image image' cells cells')) _ _ ((λ i. (last i).refusal) ∙ zero))

-- ---- a load: the check, then both tables

-- each file's part of an accepted answer
abbrev pub first_of : PairLoaded → LoadAnswer
first_of answer = record { loaded = answer.loaded0; lists = answer.lists0; refusal = 0; fault = no_fault }

abbrev pub second_of : PairLoaded → LoadAnswer
second_of answer = record { loaded = answer.loaded1; lists = answer.lists1; refusal = 0; fault = no_fault }

module _ (image image' : List ℕ) (table table' : List ℤ) {answer : PairLoaded}
    (checked : answer ≡ pair_checked image image' (length table) (length table')) where
  pair_number : pair_load_refusal image image' (length table) (length table') ≡ answer.refusal
  unfolding pair_checked
  pair_number = sym (ap (λ (a : PairLoaded). a.refusal) checked ∙ number_is _ _ _ (λ (a : PairLoaded). a.refusal) refl refl)

  pub tables_kept : (answer.refusal ≡ 0 → ⊥) → (table, table') ≡ pair_load_tables image image' table table'
  unfolding pair_load_tables
  tables_kept some =
      sym (when_refused (pair_load_refusal image image' (length table) (length table')) _ _ (omega (arith, pair_number, some)))

  module _ (none : answer.refusal ≡ 0) where
    pub tables_filled : (load_table First image table, load_table Second image' table') ≡ pair_load_tables image image' table table'
    unfolding pair_load_tables
    tables_filled = sym (when_accepted (pair_load_refusal image image' (length table) (length table')) _ _ (pair_number ∙ none))

    -- each file's check accepts too, and hands back its part
    each_passes : (load_refusal First image (length table) ≡ 0) × (load_refusal Second image' (length table') ≡ 0)
    unfolding pair_load_refusal pair_load_tests load_refusal
    each_passes =
        let (one, rest) = both_pass (load_tests First image (length table)) _ (load_numbered First image (length table)) (pair_number ∙ none) in
        (one, (both_pass (load_tests Second image' (length table')) _ (load_numbered Second image' (length table')) rest).0)

    pair_is : answer
        ≡ record {
          loaded0 = loaded_in image;
          lists0 = lists_in image;
          loaded1 = loaded_in image';
          lists1 = lists_in image';
          refusal = 0;
          file = 0;
          fault = no_fault;
        }
    unfolding pair_checked
    pair_is = checked ∙ when_accepted (pair_load_refusal image image' (length table) (length table')) _ _ (pair_number ∙ none)

    pub first_checked : first_of answer ≡ check_answer First image (length table)
    unfolding check_answer
    first_checked = (λ i. first_of (pair_is i)) ∙ sym (when_accepted (load_refusal First image (length table)) _ _ each_passes.0)

    pub second_checked : second_of answer ≡ check_answer Second image' (length table')
    unfolding check_answer
    second_checked = (λ i. second_of (pair_is i)) ∙ sym (when_accepted (load_refusal Second image' (length table')) _ _ each_passes.1)
