-- What the decision says is stored, and nothing else.
use mathlib.Core.Path.{sym, ap₂, ◌∙◌}
use mathlib.Core.List.{List}
use Prim.Native.Nat.{ℕ, ◌-◌}
use native.Mathlib.Omega.{arith}
use lib.IntN.{ℤ}
use lib.ListN.{set}
use mir.Facts.{to_z-of_z}
use mir.Syntax.{w64}
use borrow.Author.Rules.{sfits_of}
use Rattle.std.proofs.lemmas.Result.{err_from_is_err_and}
use Rattle.format.specs.Meta2.{value_index}
use Rattle.format.specs.Record.{file_in}
use Rattle.format.specs.Session.{State, state_of, with_count}
use Rattle.format.specs.Write.{Request, request_of}
use Rattle.format.proofs.Storing.{found_kept}
use Rattle.writing.proofs.Decisions.{not_stored}
use Rattle.writing.proofs.Puts.{Puts, puts}
use Rattle.writing.proofs.request.Goals as goal
use Rattle.writing.proofs.request.Goals.{Start, In-Some}

-- the session and the request
abbrev lent : Start → State
lent s = let a = s.args in state_of (file_in a.s.head) a.s a.lists.now a.image.now a.table.now

abbrev asked : Start → Request
asked s = request_of s.args.task s.args.bytes.now

-- where the bytes go
known : (c : In-Some) → let a = c.args in
    Puts (state_of (file_in a.s.head) a.s a.lists.now a.image.now a.table.now) (request_of a.task a.bytes.now)
    (record { chunk = c.in-Some.spot.chunk; from = c.in-Some.spot.from })
known c = puts _ _ _ c.told-lists (rw c.in-Some.is at c.in_ok-spot.ensures)

pub returns-in_err-spot-clause-value : goal.returns-in_err-spot-clause-value
returns-in_err-spot-clause-value c =
    let s : Start = (goal.at.returns-in_err-spot-clause-value c).Start in
    let p = err_from_is_err_and c.from_residual.result c.from_residual.ensures.1 in
    rw (p.1, p.2) (not_stored (lent s) (asked s) _ c.in_err-spot.ensures).0

pub returns-in_err-spot-clause-table_after : goal.returns-in_err-spot-clause-table_after
returns-in_err-spot-clause-table_after c =
    let s : Start = (goal.at.returns-in_err-spot-clause-table_after c).Start in
    sym (found_kept (lent s) (asked s) c.args.budget (not_stored (lent s) (asked s) _ c.in_err-spot.ensures).1)

pub returns-in_default-clause-value : goal.returns-in_default-clause-value
returns-in_default-clause-value c =
    let s : Start = (goal.at.returns-in_default-clause-value c).Start in
    (not_stored (lent s) (asked s) 0 (rw c.in_default.is at c.in_ok-spot.ensures)).0

pub returns-in_default-clause-table_after : goal.returns-in_default-clause-table_after
returns-in_default-clause-table_after c =
    let s : Start = (goal.at.returns-in_default-clause-table_after c).Start in
    sym (found_kept (lent s) (asked s) c.args.budget (not_stored (lent s) (asked s) 0 (rw c.in_default.is at c.in_ok-spot.ensures)).1)

pub overflow_sub-i : goal.overflow_sub-i
overflow_sub-i c = (known (goal.at.overflow_sub-i c).In-Some).there.first_task

pub overflow_sub-at : goal.overflow_sub-at
overflow_sub-at c = (known (goal.at.overflow_sub-at c).In-Some).there.first_chunk

pub overflow_mul-at : goal.overflow_mul-at
overflow_mul-at c = omega (arith, known (goal.at.overflow_mul-at c).In-Some)

pub overflow_add-at : goal.overflow_add-at
overflow_add-at c = omega (arith, known (goal.at.overflow_add-at c).In-Some)

pub put-requires : goal.put-requires
put-requires c = (known (goal.at.put-requires c).In-Some).there

pub overflow_add-spot : goal.overflow_add-spot
overflow_add-spot c = omega (arith, known (goal.at.overflow_add-spot c).In-Some)

pub cell_of-requires : goal.cell_of-requires
cell_of-requires c = (known (goal.at.cell_of-requires c).In-Some).small

pub offset_bounds-table-at : goal.offset_bounds-table-at
offset_bounds-table-at c = omega (arith, known (goal.at.offset_bounds-table-at c).In-Some)

pub bounds-table-at : goal.bounds-table-at
bounds-table-at c = (known (goal.at.bounds-table-at c).In-Some).listed

pub overflow_add-lists : goal.overflow_add-lists
overflow_add-lists c = omega (arith, known (goal.at.overflow_add-lists c).In-Some)

pub offset_bounds-lists-i : goal.offset_bounds-lists-i
offset_bounds-lists-i c = omega (arith, known (goal.at.offset_bounds-lists-i c).In-Some)

pub bounds-lists-i : goal.bounds-lists-i
bounds-lists-i c = omega (arith, known (goal.at.bounds-lists-i c).In-Some)

pub returns-clause-value : goal.returns-clause-value
returns-clause-value c = sym (known (goal.at.returns-clause-value c).In-Some).accepted

pub returns-clause-table_after : goal.returns-clause-table_after
returns-clause-table_after c =
    let a = c.args in
    let chunk : ℕ = c.in-Some.spot.chunk in
    let written = to_z-of_z {w = w64} (sfits_of c.cell_of.type_inv) ∙ c.cell_of.ensures in
    ap₂ (λ (image : List ℕ) (value : ℤ).
    state_of (file_in a.s.head) a.s (with_count a.lists.now (a.task - 1) chunk) image
    (set a.table.now (value_index a.s.head.n (chunk - 1) (a.task - 1)) value))
    c.put.ensures written
    ∙ sym ((known (goal.at.returns-clause-table_after c).In-Some).leaves a.budget)
