-- Each return, by the file that the entry names.
use mathlib.Core.Path.{◌≡◌, sym, ◌∙◌}
use mathlib.Core.List.{List}
use Prim.Native.Nat.{ℕ, suc, ◌+◌, ◌*◌}
use native.Mathlib.Omega.{arith}
use borrow.Author.Rules.{rules, sfits_of}
use lib.IntN.{pos}
use lib.ListN.{length}
use mir.Facts.{to_z-of_z}
use mir.Syntax.{w64}
use Rattle.endian.specs.Number.{number_at}
use Rattle.endian.specs.Signed.{signed}
use Rattle.format.specs.Kinds
use Rattle.format.specs.Record.{entry}
use Rattle.format.specs.Refusals.{fault_of, verdict}
use Rattle.format.proofs.Judged.{verdict_of}
use Rattle.mapping.specs.Entries.{named_tests}
use Rattle.mapping.proofs.Judging.{entry_other, entry_first, entry_second}
use Rattle.mapping.proofs.judge_entry.Goals as goal
use Rattle.mapping.proofs.judge_entry.Goals.{in-0, in-1}

pub returns-in_default : goal.returns-in_default
returns-in_default c =
    let a = c.args in
    let at : ℕ = a.start + 4 + 8 * a.rank in
    let file_is : c.get-file.result.value ≡ number_at a.big 4 a.image.now at = λ i. (c.get-file.ensures i).value in
    let read : c.from-says.result ≡ signed 31 c.get-file.result.value = search rules in
    let says = to_z-of_z {w = w64} (sfits_of c.from-says.type_inv) ∙ read ∙ (λ i. signed 31 (file_is i)) in
    (λ i. verdict_of (c.bad_entry.ensures i))
    ∙ (λ i. record { refusal = 25; fault = fault_of Kinds.entry_file (suc a.rank) 0 at (says i) (pos 0) (pos 1) })
    ∙ sym (entry_other (length a.first.now) (length a.second.now) (entry a.first.now) (entry a.second.now) a.big a.image.now a.start a.rank
    (omega (arith, file_is)))

pub returns : goal.returns
returns c =
    let a = c.args in
    let at : ℕ = a.start + 4 + 8 * a.rank in
    let file_is : c.get-file.result.value ≡ number_at a.big 4 a.image.now at = λ i. (c.get-file.ensures i).value in
    let task_is : c.get-task.result.value ≡ number_at a.big 4 a.image.now (at + 4) = λ i. (c.get-task.ensures i).value in
    let judged = λ (xs : List ℕ) (is : c.match-file.ranks.now ≡ xs).
    c.judge_task.ensures ∙ (λ i. verdict (named_tests (length (is i)) (entry (is i)) (task_is i) a.rank at)) in
    elim c.match-file.branch [
      | in-0 w ↦
          let named = c.requires.0 in
          judged a.first.now (λ i. (w.ranks-is i).now)
          ∙ sym (entry_first (length a.first.now) (length a.second.now) (entry a.first.now) (entry a.second.now) a.big a.image.now a.start a.rank
          (sym file_is ∙ w.in-0.is) named.some named.few)
      | in-1 w ↦
          let named = c.requires.1 in
          judged a.second.now (λ i. (w.ranks-is i).now)
          ∙ sym (entry_second (length a.first.now) (length a.second.now) (entry a.first.now) (entry a.second.now) a.big a.image.now a.start a.rank
          (sym file_is ∙ w.in-1.is) named.some named.few)
    ]
