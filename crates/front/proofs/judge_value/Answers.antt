-- The field read without a sign has the value exactly where the signed one has it.
use mathlib.Core.Path.{◌≡◌, ap, sym, ◌∙◌}
use mathlib.Core.Bool.{not}
use Prim.Native.Nat.{ℕ}
use borrow.Author.Tests.{eq-eqb, ne_eqb}
use Rattle.endian.specs.Number.{number_at}
use Rattle.endian.specs.Signed.{signed}
use Rattle.endian.specs.declared.read.Read.{Read}
use Rattle.format.specs.Refusals.{kind_of}
use Rattle.format.specs.Judge.{number_fault}
use Rattle.format.specs.declared.refusal.Refusal.TheVariants.{BadFiles}
use Rattle.format.proofs.Fields.{is_number}
use Rattle.format.proofs.Verdicts.{fails_first, passes_last}
use Rattle.format.proofs.Judged.{verdict_of}
use Rattle.front.proofs.judge_value.Goals as goal

pub returns-then-read-value : goal.returns-then-read-value
returns-then-read-value c =
    let v = c.args.value in
    let said = λ (r : Read ℕ). verdict_of (record { refusal = BadFiles; fault = number_fault (kind_of c.args.field) r.at (signed 31 r.value) v v }) in
    let read = number_at c.args.big 4 c.args.xs.now c.args.at in
    let differs : read ≡ v → ⊥ = λ e. c.if-read-value.true ((λ i. (c.get-read.ensures i).value) ∙ e) in
    (λ i. verdict_of (c.number4.ensures i))
    ∙ ap said c.get-read.ensures
    ∙ sym (fails_first _ _ (ap not (is_number v 31 read c.requires.1 ∙ ne_eqb read v differs)))

pub returns : goal.returns
returns c =
    let v = c.args.value in
    let read = number_at c.args.big 4 c.args.xs.now c.args.at in
    let same : read ≡ v = (λ i. (sym c.get-read.ensures i).value) ∙ c.if-read-value.false in
    sym (passes_last _ (ap not (is_number v 31 read c.requires.1 ∙ eq-eqb read v same)))
