-- Each return, by the tests that led there.
use mathlib.Core.Path.{◌≡◌, ap, sym, ◌∙◌}
use mathlib.Core.Bool.{not}
use Prim.Native.Nat.{suc, ◌-◌, ◌≤◌}
use native.Mathlib.Omega.{arith}
use borrow.Author.Rules.{rules, sfits_of}
use borrow.Author.Tests.{eq-eqb, ne_eqb}
use lib.IntN.{pos}
use lib.ListN.{length}
use mir.Facts.{to_z-of_z, to_z_pos}
use mir.Syntax.{w64}
use Rattle.endian.specs.Signed.{signed}
use Rattle.format.specs.Kinds
use Rattle.format.specs.Limits.{max_rank}
use Rattle.format.specs.Record.{entry}
use Rattle.format.specs.Refusals.{fault_of}
use Rattle.format.proofs.Judged.{verdict_of}
use Rattle.format.proofs.Verdicts.{fails_first, passes_first, passes_last}
use Rattle.mapping.proofs.judge_task.Goals as goal

pub returns-in_default : goal.returns-in_default
returns-in_default c =
    let a = c.args in
    let read : c.from-says.result ≡ signed 31 a.task = search rules in
    let says = to_z-of_z {w = w64} (sfits_of c.from-says.type_inv) ∙ read in
    (λ i. verdict_of (c.bad_entry.ensures i))
    ∙ (λ i. record { refusal = 25; fault = fault_of Kinds.entry_task (suc a.rank) 0 a.at (says i) (pos 0) (pos (length a.ranks.now - 1)) })
    ∙ sym (fails_first _ _ (ap not (sym c.in_default.ensures.lookup.0)))

pub returns-then-carried-asked : goal.returns-then-carried-asked
returns-then-carried-asked c =
    let a = c.args in
    let there = c.in-Some.ensures.lookup in
    let rank_is : c.in-Some.field-0.now ≡ entry a.ranks.now a.task = there.3.1 0 in
    let small : entry a.ranks.now a.task ≤ max_rank = c.requires.0.small a.task there.3.0 in
    let says = to_z_pos w64 {n = c.in-Some.field-0.now} (omega (arith, small, rank_is)) ∙ ap pos rank_is in
    (λ i. verdict_of (c.bad_entry-then-carried-asked.ensures i))
    ∙ (λ i. record { refusal = 25; fault = fault_of Kinds.entry_rank (suc a.rank) 0 a.at (says i) (pos a.rank) (pos a.rank) })
    ∙ sym
    (passes_first _ _ (ap not (sym there.0))
    ∙ fails_first _ _ (ap not (ne_eqb _ _ (λ e. c.if-carried-asked.true (rank_is ∙ e)))))

pub returns : goal.returns
returns c =
    let there = c.in-Some.ensures.lookup in
    sym (passes_first _ _ (ap not (sym there.0)) ∙ passes_last _ (ap not (eq-eqb _ _ (sym (there.3.1 0) ∙ c.if-carried-asked.false))))
