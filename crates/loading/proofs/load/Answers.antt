-- What was judged, and where it is accepted the table's cells.
use mathlib.Core.Path.{◌≡◌, refl, ◌∙◌}
use native.Mathlib.Omega.{arith}
use Rattle.format.specs.Load.{load_answer}
use Rattle.format.specs.Record.{no_head, no_lists}
use Rattle.format.proofs.Refusals.{some_number}
use Rattle.loading.proofs.LoadAnswers.{fault_zeros, head_zeros, accepted_answer, refused_answer, table_kept, fillable, table_filled}
use Rattle.loading.proofs.load.Goals as goal

pub fill-requires : goal.fill-requires
fill-requires c =
    fillable _ _ _ (accepted_answer _ _ _ c.in-Ok.ensures.verdict c.in-Ok.ensures.loaded c.in-Ok.ensures.accepted) refl

pub returns-in-Ok-clause-value : goal.returns-in-Ok-clause-value
unfolding load_answer
returns-in-Ok-clause-value c =
    (λ i. record { loaded = c.in-Ok.loaded; lists = c.judge.new.lists; refusal = 0; fault = fault_zeros c.default.result c.default.ensures i })
    ∙ accepted_answer _ _ _ c.in-Ok.ensures.verdict c.in-Ok.ensures.loaded c.in-Ok.ensures.accepted

pub returns-in-Ok-clause-table_after : goal.returns-in-Ok-clause-table_after
returns-in-Ok-clause-table_after c =
    table_filled _ _ _ (accepted_answer _ _ _ c.in-Ok.ensures.verdict c.in-Ok.ensures.loaded c.in-Ok.ensures.accepted) refl c.fill.ensures

pub returns-in-Err-clause-value : goal.returns-in-Err-clause-value
unfolding load_answer
returns-in-Err-clause-value c =
    let zeros : c.default-in-Err.result ≡ no_head = head_zeros c.default-in-Err.result c.default-in-Err.ensures in
    (λ i. record { loaded = record { head = zeros i; maxchunks = 0; closed = 1 }; lists = no_lists; refusal = c.number.ensures i; fault = c.in-Err.broken.fault })
    ∙ refused_answer _ _ _ c.in-Err.broken c.in-Err.ensures.verdict

pub returns-in-Err-clause-table_after : goal.returns-in-Err-clause-table_after
returns-in-Err-clause-table_after c =
    table_kept _ _ _ (refused_answer _ _ _ c.in-Err.broken c.in-Err.ensures.verdict) (λ e. omega (arith, some_number c.in-Err.broken.refusal))
