-- Each return, by the tests that led there.
use mathlib.Core.Path.{◌≡◌, refl, ap, sym, ◌∙◌}
use mathlib.Core.Bool.{Bool, true, false}
use mathlib.Core.List.{List, [], ◌∷◌}
use Prim.Native.Nat.{ℕ}
use native.Mathlib.Omega.{arith}
use mir.Syntax.{w32}
use mir.Val.{bool_byte}
use mir.Facts.{to_z-of_z}
use borrow.Author.Rules.{rules}
use borrow.Author.Tests.{lt-ltb, le-ltb}
use Rattle.endian.specs.Number.{number_at}
use Rattle.endian.specs.Signed.{signed_at}
use Rattle.format.specs.Limits.{format_rule, blocksize_rule, tasks_rule}
use Rattle.format.specs.Layout.{meta1_end}
use Rattle.format.specs.Kinds
use Rattle.format.specs.Meta1.{tasks_at, files_at, file_number_at}
use Rattle.format.specs.declared.head.File.{File}
use Rattle.format.specs.Record.{order_of, files_of, file_of, head_of}
use Rattle.format.specs.Refusals.{Verdict, Test, verdict, passed}
use Rattle.format.specs.Judge.{end_fault, field_tests}
use Rattle.format.specs.declared.refusal.Refusal.TheVariants.{BadFormat, BadBlocksize, BadTasks}
use Rattle.format.proofs.Verdicts.{fails_first, passes_first, passes_last}
use Rattle.format.proofs.Judged.{verdict_of, handed_on, answer_first, answer_next}
use Rattle.format.proofs.Fields.{tasks_facts}
use Rattle.front.specs.Judging.{value_test}
use Rattle.front.proofs.Answers.{end_test, ruled, said, from_7, fields_unsigned, fields_read}
use Rattle.front.proofs.judge_fields.Goals as goal
use Rattle.front.proofs.judge_fields.Goals.{After-files_of-files, After-meta1_end-end}

-- the byte order as a number
order_number : (big : Bool) → bool_byte big ≡ order_of big
order_number true = refl
order_number false = refl

-- what is left to ask once 4, 5 and 6 passed
asked_7 : (c : After-files_of-files) → let a = c.args in
    verdict (field_tests a.xs.now a.file a.len) ≡ verdict (from_7 a.xs.now a.file a.len c.requires.0 (number_at a.big 4 a.xs.now tasks_at))
asked_7 c = let a = c.args in
    fields_unsigned a.xs.now a.file a.len c.requires.0
    ∙ passes_first _ _ (ruled format_rule c.get-format.ensures c.if-not-format_ok.ensures)
    ∙ passes_first _ _ (ruled blocksize_rule c.get-block.ensures c.if-not-blocksize_ok.ensures)
    ∙ passes_first _ _ (ruled tasks_rule c.get-n.ensures c.if-not-tasks_ok.ensures)

-- both tests of 7
abbrev files_test : Bool → List ℕ → File → Test
files_test big xs f = value_test Kinds.files files_at (signed_at big 4 xs files_at) (files_of f)

abbrev number_test : Bool → List ℕ → File → Test
number_test big xs f = value_test Kinds.file_number file_number_at (signed_at big 4 xs file_number_at) (file_of f)

-- and once 7 passed
last : (c : After-meta1_end-end) {v : Verdict} → let a = c.args in
    let n = number_at a.big 4 a.xs.now tasks_at in
    verdict (field_tests a.xs.now a.file a.len) ≡ verdict (from_7 a.xs.now a.file a.len c.requires.0 n)
    → v ≡ verdict (end_test a.len (meta1_end n) ∷ [])
    → v ≡ verdict (field_tests a.xs.now a.file a.len)
last c left e = let a = c.args in
    let xs = a.xs.now in
    let f = a.file in
    let ends = end_test a.len (meta1_end (number_at a.big 4 xs tasks_at)) ∷ [] in
    let files : passed ≡ verdict (files_test a.big xs f ∷ []) =
    c.in_ok-judge_value.ensures ∙ (λ i. verdict (value_test Kinds.files files_at (signed_at a.big 4 xs files_at) (c.files_of-files.ensures i) ∷ [])) in
    let number : passed ≡ verdict (number_test a.big xs f ∷ []) =
    c.in_ok-judge_value-2.ensures
    ∙ (λ i. verdict (value_test Kinds.file_number file_number_at (signed_at a.big 4 xs file_number_at) (c.number_of-number.ensures i) ∷ [])) in
    answer_next (files_test a.big xs f ∷ []) (number_test a.big xs f ∷ ends) (omega arith, tt) files
    (answer_next (number_test a.big xs f ∷ []) ends (omega arith, tt) number e)
    ∙ sym left

pub returns-then-not-format_ok-clause-verdict : goal.returns-then-not-format_ok-clause-verdict
returns-then-not-format_ok-clause-verdict c = let a = c.args in
    said BadFormat Kinds.format _ _ c.get-format.ensures c.number4.ensures
    ∙ sym (fields_unsigned a.xs.now a.file a.len c.requires.0
    ∙ fails_first _ _ (ruled format_rule c.get-format.ensures c.if-not-format_ok.ensures))

pub returns-then-not-blocksize_ok-clause-verdict : goal.returns-then-not-blocksize_ok-clause-verdict
returns-then-not-blocksize_ok-clause-verdict c = let a = c.args in
    said BadBlocksize Kinds.blocksize _ _ c.get-block.ensures c.number4-then-not-blocksize_ok.ensures
    ∙ sym (fields_unsigned a.xs.now a.file a.len c.requires.0
    ∙ passes_first _ _ (ruled format_rule c.get-format.ensures c.if-not-format_ok.ensures)
    ∙ fails_first _ _ (ruled blocksize_rule c.get-block.ensures c.if-not-blocksize_ok.ensures))

pub returns-then-not-tasks_ok-clause-verdict : goal.returns-then-not-tasks_ok-clause-verdict
returns-then-not-tasks_ok-clause-verdict c = let a = c.args in
    said BadTasks Kinds.tasks _ _ c.get-n.ensures c.number4-then-not-tasks_ok.ensures
    ∙ sym (fields_unsigned a.xs.now a.file a.len c.requires.0
    ∙ passes_first _ _ (ruled format_rule c.get-format.ensures c.if-not-format_ok.ensures)
    ∙ passes_first _ _ (ruled blocksize_rule c.get-block.ensures c.if-not-blocksize_ok.ensures)
    ∙ fails_first _ _ (ruled tasks_rule c.get-n.ensures c.if-not-tasks_ok.ensures))

pub returns-in_err-judge_value-clause-verdict : goal.returns-in_err-judge_value-clause-verdict
returns-in_err-judge_value-clause-verdict c =
    let a = c.args in
    let xs = a.xs.now in
    handed_on _ _ c.from_residual.ensures.1
    ∙ answer_first (files_test a.big xs a.file ∷ []) (number_test a.big xs a.file ∷ end_test a.len (meta1_end (number_at a.big 4 xs tasks_at)) ∷ []) _
    (c.in_err-judge_value.ensures ∙ (λ i. verdict (value_test Kinds.files files_at (signed_at a.big 4 xs files_at) (c.files_of-files.ensures i) ∷ [])))
    ∙ sym (asked_7 (goal.at.returns-in_err-judge_value-clause-verdict c).After-files_of-files)

pub returns-in_err-judge_value-2-clause-verdict : goal.returns-in_err-judge_value-2-clause-verdict
returns-in_err-judge_value-2-clause-verdict c =
    let a = c.args in
    let xs = a.xs.now in
    let ends = end_test a.len (meta1_end (number_at a.big 4 xs tasks_at)) ∷ [] in
    let files : passed ≡ verdict (files_test a.big xs a.file ∷ []) =
    c.in_ok-judge_value.ensures ∙ (λ i. verdict (value_test Kinds.files files_at (signed_at a.big 4 xs files_at) (c.files_of-files.ensures i) ∷ [])) in
    handed_on _ _ c.from_residual-in_err-judge_value-2.ensures.1
    ∙ answer_next (files_test a.big xs a.file ∷ []) (number_test a.big xs a.file ∷ ends) (omega arith, tt) files
    (answer_first (number_test a.big xs a.file ∷ []) ends _
    (c.in_err-judge_value-2.ensures
    ∙ (λ i. verdict (value_test Kinds.file_number file_number_at (signed_at a.big 4 xs file_number_at) (c.number_of-number.ensures i) ∷ []))))
    ∙ sym (asked_7 (goal.at.returns-in_err-judge_value-2-clause-verdict c).After-files_of-files)

pub meta1_end-end-requires : goal.meta1_end-end-requires
meta1_end-end-requires c = (tasks_facts _ (sym c.if-not-tasks_ok.ensures)).1

pub not_as_needed-requires : goal.not_as_needed-requires
unfolding meta1_end
not_as_needed-requires c = (omega (arith, c.meta1_end-end.ensures), omega (arith, c.meta1_end-end.ensures))

pub returns-then-len-end-clause-verdict : goal.returns-then-len-end-clause-verdict
returns-then-len-end-clause-verdict c =
    let n = number_at c.args.big 4 c.args.xs.now tasks_at in
    let end_is : c.meta1_end-end.result ≡ meta1_end n = c.meta1_end-end.ensures ∙ (λ i. meta1_end (c.get-n.ensures i).value) in
    let at = goal.at.returns-then-len-end-clause-verdict c in
    last at.After-meta1_end-end (asked_7 at.After-files_of-files)
    (ap verdict_of c.not_as_needed.ensures
    ∙ (λ i. record { refusal = 3; fault = end_fault c.args.len (end_is i) })
    ∙ sym (fails_first _ _ (rw (sym end_is) (lt-ltb _ _ c.if-len-end.true))))

pub returns : goal.returns
returns c =
    let a = c.args in
    let n = number_at a.big 4 a.xs.now tasks_at in
    let end_is : c.meta1_end-end.result ≡ meta1_end n = c.meta1_end-end.ensures ∙ (λ i. meta1_end (c.get-n.ensures i).value) in
    let passes : passed ≡ verdict (field_tests a.xs.now a.file a.len) =
    last (goal.at.returns c).After-meta1_end-end (asked_7 (goal.at.returns c).After-files_of-files)
    (sym (passes_last (end_test a.len (meta1_end n)) (rw (sym end_is) (le-ltb _ _ c.if-len-end.false)))) in
    let version = to_z-of_z {w = w32} (search rules) ∙ (λ i. (c.get.ensures i).value) in
    let patch = to_z-of_z {w = w32} (search rules) ∙ (λ i. (c.get-2.ensures i).value) in
    record {
      verdict = passes;
      head =
          (λ i. head_of (order_number a.big i) (version i) (patch i) (c.get-format.ensures i).value (c.get-block.ensures i).value
          (c.get-n.ensures i).value (c.files_of-files.ensures i) (c.number_of-number.ensures i))
          ∙ fields_read a.xs.now a.file a.len c.requires.0 passes;
    }
