-- Ranks, then sizes, by the first that breaks its rule, then the last two fields.
use mathlib.Core.Path.{ap, sym, ◌∙◌}
use Prim.Native.Nat.{suc, ◌+◌, ◌-◌, ◌*◌, ◌<◌}
use native.Mathlib.Omega.{arith}
use lib.IntN.{pos}
use lib.ListN.{length}
use borrow.Rule.Slice.PartMut.{mid_of}
use Rattle.lists.proofs.Below.{length_list}
use Rattle.endian.specs.Signed.{signed}
use Rattle.format.specs.Kinds
use Rattle.format.specs.Limits.{max_tasks, max_size}
use Rattle.format.specs.Record.{entry}
use Rattle.format.specs.Refusals.{fault_of}
use Rattle.format.specs.Judge.{rank_tests, requested_tests, rest_tests}
use Rattle.format.proofs.Accepting.{rank_numbered, size_numbered}
use Rattle.format.proofs.Judged.{verdict_of}
use Rattle.format.proofs.Verdicts.{verdict_passes}
use Rattle.meta1.proofs.Answers.{rank, size, ranks_part, sizes_part, rank_found, bad_rank, ranked, size_found, bad_size, sized, lists_pass}
use Rattle.meta1.proofs.judge_read.Goals as goal

pub bad_entry-requires-clause-place : goal.bad_entry-requires-clause-place
bad_entry-requires-clause-place c =
    let p = c.requires.0 in
    let below : c.in-Some.i < c.args.h.n = rank_found p (ranks_part p c.requires.1) c.in-Some.i (sym c.first_bad_rank.ensures ∙ c.in-Some.is) in
    (omega (arith, ap length (ranks_part p c.requires.1), length_list (rank p) c.args.h.n), omega (arith, p.few), omega arith)

pub returns-in-Some-clause-verdict : goal.returns-in-Some-clause-verdict
returns-in-Some-clause-verdict c =
    let p = c.requires.0 in
    ap verdict_of c.bad_entry.ensures ∙ bad_rank p (ranks_part p c.requires.1) c.in-Some.i (sym c.first_bad_rank.ensures ∙ c.in-Some.is)

pub bad_entry-requires-in-Some-first_bad_size-clause-place : goal.bad_entry-requires-in-Some-first_bad_size-clause-place
bad_entry-requires-in-Some-first_bad_size-clause-place c =
    let p = c.requires.0 in
    let i = c.in-Some-first_bad_size.i in
    let below : i < c.args.h.n = size_found p (sizes_part p c.requires.1) i (sym c.first_bad_size.ensures ∙ c.in-Some-first_bad_size.is) in
    (omega (arith, ap length (sizes_part p c.requires.1), length_list (size p) c.args.h.n), omega (arith, p.few), omega (arith, p.few, c.sizes_at-from.ensures))

pub returns-in-Some-first_bad_size-clause-verdict : goal.returns-in-Some-first_bad_size-clause-verdict
returns-in-Some-first_bad_size-clause-verdict c =
    let p = c.requires.0 in
    let i = c.in-Some-first_bad_size.i in
    let sizes = mid_of max_tasks (max_tasks + c.args.h.n - max_tasks) c.args.lists.now in
    let passes = ranked p (ranks_part p c.requires.1) (sym c.first_bad_rank.ensures ∙ c.in_default.is) in
    ap verdict_of c.bad_entry-in-Some-first_bad_size.ensures
    ∙ (λ j. record { refusal = 9; fault = fault_of Kinds.size (suc i) 0 (c.sizes_at-from.ensures j + 8 * i) (signed 63 (entry sizes i)) (pos 1) (pos max_size) })
    ∙ bad_size p (sizes_part p c.requires.1) passes i (sym c.first_bad_size.ensures ∙ c.in-Some-first_bad_size.is)

pub judge_last-requires : goal.judge_last-requires
judge_last-requires c =
    let p = c.requires.0 in
    lists_pass p c.requires.1 (ranked p (ranks_part p c.requires.1) (sym c.first_bad_rank.ensures ∙ c.in_default.is))
    (sized p (sizes_part p c.requires.1) (sym c.first_bad_size.ensures ∙ c.in_default-first_bad_size.is))

pub returns-clause-verdict : goal.returns-clause-verdict
unfolding rest_tests
returns-clause-verdict c =
    let p = c.requires.0 in
    let xs = c.args.xs.now in
    let len = c.args.len in
    let ranks = ranked p (ranks_part p c.requires.1) (sym c.first_bad_rank.ensures ∙ c.in_default.is) in
    let sizes = sized p (sizes_part p c.requires.1) (sym c.first_bad_size.ensures ∙ c.in_default-first_bad_size.is) in
    c.judge_last.ensures.verdict
    ∙ sym (verdict_passes (rank_tests xs) _ (rank_numbered xs len) ranks ∙ verdict_passes (requested_tests xs) _ (size_numbered xs len) sizes)
