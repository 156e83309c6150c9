-- The record, the stores and the cells of an opening whose tests passed.
use mathlib.Core.Path.{◌≡◌, sym, ap, ap₂, ◌∙◌}
use Prim.Native.Nat.{ℕ}
use native.Mathlib.Omega.{arith}
use lib.IntN.{ℤ}
use lib.ListN.{length}
use Rattle.std.proofs.Common.{to_z, of_z, to_z-of_z}
use mir.Syntax.{w32}
use borrow.Author.Rules.{rules}
use Rattle.lists.specs.Splice.{splice}
use Rattle.format.specs.declared.head.Head.{Head}
use Rattle.lists.specs.Stores.{found}
use Rattle.format.specs.Meta1.{opening_stores}
use Rattle.format.proofs.Storing.{opened_found}
use Rattle.format.specs.Record.{entry, lists_of, rank_of, size_of, head_of}
use Rattle.format.specs.Session.{session_of}
use Rattle.format.proofs.Formats.{least_one}
use Rattle.format.specs.Open.{Opening, opening_of, blank_cells, open_head, open_session, open_lists}
use Rattle.format.proofs.Opening.{OpeningHolds, opening_holds, opening_data, ranks_kept, sizes_kept, opened_answer, opened_table}
use Rattle.opening.proofs.begin.Goals as goal
use Rattle.opening.proofs.begin.Goals.{Start, After-number_of, After-lists_of-lists}

-- the opening that the call means, and what its tests say of it
abbrev given : Start → Opening
given s = let a = s.args in opening_of a.file a.plan a.ranks.now a.sizes.now a.prefix.now

known : (s : Start) → OpeningHolds (given s) (length s.args.image.now) (length s.args.table.now)
known s = opening_holds _ _ _ s.requires

-- its head and its lists are those that the code makes
head_made : (c : After-number_of) → let a = c.args in
    head_of a.plan.order (to_z w32 (of_z w32 a.plan.version)) (to_z w32 (of_z w32 a.plan.patch)) a.plan.format a.plan.blocksize (length a.ranks.now) c.files_of.result c.number_of.result
    ≡ open_head (opening_of a.file a.plan a.ranks.now a.sizes.now a.prefix.now)
unfolding open_head
head_made c =
    let a = c.args in
    let version = to_z-of_z {w = w32} {z = a.plan.version} (search rules) in
    let patch = to_z-of_z {w = w32} {z = a.plan.patch} (search rules) in
    let n : ℕ = length a.ranks.now in
    ap₂ (λ (v p : ℤ). head_of a.plan.order v p a.plan.format a.plan.blocksize n c.files_of.result c.number_of.result) version patch
    ∙ ap₂ (head_of a.plan.order a.plan.version a.plan.patch a.plan.format a.plan.blocksize n) c.files_of.ensures c.number_of.ensures

lists_made : (c : After-lists_of-lists) → let a = c.args in
    c.lists_of-lists.result ≡ open_lists (opening_of a.file a.plan a.ranks.now a.sizes.now a.prefix.now)
unfolding open_lists
lists_made c =
    let a = c.args in
    c.lists_of-lists.ensures
    ∙ ap (λ (count : ℕ). lists_of (length a.ranks.now) (entry a.ranks.now) (entry a.sizes.now) (λ i. count)) c.least_count-begun.ensures

pub overflow_cast-head : goal.overflow_cast-head
overflow_cast-head c = omega (arith, (known (goal.at.overflow_cast-head c).Start).plan.few_tasks)

pub lists_of-lists-requires : goal.lists_of-lists-requires
lists_of-lists-requires c = let p = (known (goal.at.lists_of-lists-requires c).Start).plan in (p.few_tasks, p.listed)

pub meta1-requires-clause-blocksize_value : goal.meta1-requires-clause-blocksize_value
meta1-requires-clause-blocksize_value c =
    let p = (known (goal.at.meta1-requires-clause-blocksize_value c).Start).plan in (p.block, p.few_tasks)

pub meta1-requires-clause-prefix_len_bound : goal.meta1-requires-clause-prefix_len_bound
meta1-requires-clause-prefix_len_bound c = (known (goal.at.meta1-requires-clause-prefix_len_bound c).Start).plan.prefix_short

pub meta1-requires-clause-n_in_bounds : goal.meta1-requires-clause-n_in_bounds
meta1-requires-clause-n_in_bounds c = opening_data _ (known (goal.at.meta1-requires-clause-n_in_bounds c).Start)

pub blank-requires : goal.blank-requires
blank-requires c =
    let x = known (goal.at.blank-requires c).Start in
    let p = x.plan in
    (p.few_tasks, omega (arith, c.least_count-begun.ensures, least_one c.args.plan.format, p.some), p.few, x.table_long)

pub returns-clause-value : goal.returns-clause-value
unfolding open_session
returns-clause-value c =
    let at = goal.at.returns-clause-value c in
    let a = c.args in
    let head = head_made at.After-number_of in
    let lists = lists_made at.After-lists_of-lists in
    (λ i. record { session = session_of (head i) a.plan.planned 0; lists = lists i; refusal = 0 })
    ∙ sym (opened_answer (given at.Start) a.image.now a.table.now c.requires)

pub returns-clause-image_after : goal.returns-clause-image_after
returns-clause-image_after c =
    let at = goal.at.returns-clause-image_after c in
    let a = c.args in
    let o : Opening = given at.Start in
    let image = a.image.now in
    let lists = c.lists_of-lists.result in
    let ranks = ap rank_of (lists_made at.After-lists_of-lists) ∙ ranks_kept o (known at.Start).plan in
    let sizes = ap size_of (lists_made at.After-lists_of-lists) ∙ sizes_kept o (known at.Start).plan in
    c.meta1.ensures
    ∙ ap (λ (h : Head). found a.budget image (opening_stores h (rank_of lists) (size_of lists) a.prefix.now)) (head_made at.After-number_of)
    ∙ ap₂ (λ (rank size : ℕ → ℕ). found a.budget image (opening_stores (open_head o) rank size a.prefix.now)) ranks sizes
    ∙ sym (opened_found o image a.table.now c.requires a.budget)

pub returns-clause-table_after : goal.returns-clause-table_after
returns-clause-table_after c =
    let a = c.args in
    c.blank.ensures
    ∙ ap (λ (begun : ℕ). splice a.table.now 0 (blank_cells begun (length a.ranks.now) a.plan.planned)) c.least_count-begun.ensures
    ∙ sym (opened_table (given (goal.at.returns-clause-table_after c).Start) a.image.now a.table.now c.requires)
