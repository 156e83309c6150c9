-- Refused, nothing is stored; accepted, it is the opening of a single file.
use mathlib.Core.Path.{sym, ap, ◌∙◌}
use Prim.Native.Nat.{ℕ, ◌<◌}
use native.Mathlib.Omega.{arith}
use lib.ListN.{length}
use Rattle.format.specs.declared.head.File.TheVariants.{Single}
use Rattle.format.specs.Record.{no_lists}
use Rattle.format.specs.Session.{no_session}
use Rattle.format.specs.Open.{Opening, opening_of, open_refusal}
use Rattle.format.proofs.Refusals.{some_number}
use Rattle.format.proofs.Opening.{refused_answer, refused_table}
use Rattle.format.proofs.Storing.{refused_found}
use Rattle.opening.proofs.open_within.Goals as goal
use Rattle.opening.proofs.open_within.Goals.{Start, In-Err}

-- the opening that the call means
abbrev given : Start → Opening
given s = let a = s.args in opening_of Single a.plan a.ranks.now a.sizes.now a.prefix.now

-- refused by its tests
refused : (c : In-Err) → let a = c.args in 0 < open_refusal (opening_of Single a.plan a.ranks.now a.sizes.now a.prefix.now) (length a.image.now) (length a.table.now)
refused c = omega (arith, c.in-Err.ensures, some_number c.in-Err.refusal)

pub returns-in-Err-clause-value : goal.returns-in-Err-clause-value
returns-in-Err-clause-value c =
    let at = goal.at.returns-in-Err-clause-value c in
    c.no_session.ensures
    ∙ ap (λ (r : ℕ). record { session = no_session; lists = no_lists; refusal = r }) c.in-Err.ensures
    ∙ sym (refused_answer (given at.Start) c.args.image.now c.args.table.now (refused at.In-Err))

pub returns-in-Err-clause-image_after : goal.returns-in-Err-clause-image_after
returns-in-Err-clause-image_after c =
    let at = goal.at.returns-in-Err-clause-image_after c in
    sym (refused_found (given at.Start) c.args.image.now c.args.table.now (refused at.In-Err) c.args.budget)

pub returns-in-Err-clause-table_after : goal.returns-in-Err-clause-table_after
returns-in-Err-clause-table_after c =
    let at = goal.at.returns-in-Err-clause-table_after c in
    sym (refused_table (given at.Start) c.args.image.now c.args.table.now (refused at.In-Err))
