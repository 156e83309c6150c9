-- Each return, by the tests that led there.
use mathlib.Core.Path.{◌≡◌, sym, ◌∙◌}
use Prim.Native.Nat.{ℕ, ◌+◌}
use native.Mathlib.Omega.{arith}
use lib.ListN.{length}
use Rattle.endian.specs.Number.{number_at}
use Rattle.endian.specs.Signed.{signed}
use Rattle.format.specs.Kinds
use Rattle.format.specs.Record.{entry}
use Rattle.format.specs.Judge.{number_fault}
use Rattle.format.proofs.Judged.{verdict_of}
use Rattle.pairs.specs.Mapping.{mapping_length}
use Rattle.mapping.proofs.Judging.{ends_early, other_size, ends_within, entries_asked}
use Rattle.mapping.proofs.judge.Goals as goal

pub returns-then-left-lt4 : goal.returns-then-left-lt4
unfolding mapping_length
returns-then-left-lt4 c =
    let a = c.args in
    (λ i. verdict_of (c.short.ensures i))
    ∙ sym (ends_early (length a.first.now) (length a.second.now) (entry a.first.now) (entry a.second.now) a.big a.image.now a.start (omega arith))

pub returns-then-read-size : goal.returns-then-read-size
returns-then-read-size c =
    let a = c.args in
    let size : ℕ = length a.first.now + length a.second.now in
    let held_is : c.get-read.result.value ≡ number_at a.big 4 a.image.now a.start = λ i. (c.get-read.ensures i).value in
    (λ i. verdict_of (c.number4.ensures i))
    ∙ (λ i. record {
      refusal = 25;
      fault = number_fault Kinds.mapping_size (c.get-read.ensures i).at (signed 31 (held_is i)) size size;
    })
    ∙ sym
    (other_size (length a.first.now) (length a.second.now) (entry a.first.now) (entry a.second.now) a.big a.image.now a.start (omega arith) (omega arith)
    (λ e. c.if-read-size.true (held_is ∙ e)))

pub returns-then-left-end : goal.returns-then-left-end
unfolding mapping_length
returns-then-left-end c =
    let a = c.args in
    let held_is : c.get-read.result.value ≡ number_at a.big 4 a.image.now a.start = λ i. (c.get-read.ensures i).value in
    (λ i. verdict_of (c.short-then-left-end.ensures i))
    ∙ sym
    (ends_within (length a.first.now) (length a.second.now) (entry a.first.now) (entry a.second.now) a.big a.image.now a.start (omega arith) (omega arith)
    (sym held_is ∙ c.if-read-size.false) (omega arith))

pub judge_entries-requires : goal.judge_entries-requires
unfolding mapping_length
judge_entries-requires c =
    let p = c.requires in
    (p.0, p.1, omega (arith, p.2, c.if-left-end.false))

pub returns : goal.returns
unfolding mapping_length
returns c =
    let a = c.args in
    let held_is : c.get-read.result.value ≡ number_at a.big 4 a.image.now a.start = λ i. (c.get-read.ensures i).value in
    c.judge_entries.ensures
    ∙ sym
    (entries_asked (length a.first.now) (length a.second.now) (entry a.first.now) (entry a.second.now) a.big a.image.now a.start (omega arith) (omega arith)
    (sym held_is ∙ c.if-read-size.false) (omega arith))
