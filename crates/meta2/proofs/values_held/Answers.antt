-- The loop's invariant: every value passed keeps its rule.
use Prim.Native.Nat.{ℕ, ◌+◌, ◌*◌, ◌/◌, ◌%◌, ◌≤◌, ◌<◌}
use mathlib.Core.Path.{◌≡◌, sym, ap, ◌∙◌}
use mathlib.Core.Bool.{Bool, not}
use mathlib.Core.List.{List}
use native.Mathlib.Nat.{div-add-mod', mul-le-mul_left}
use Rattle.std.proofs.Math.Nat.{div-le_self}
use native.Mathlib.Omega.{arith}
use borrow.Author.Rules.{rules}
use lib.IntN.{ℤ, pos}
use lib.ListN.{length, take, length-take}
use lib.Seq.{length-take-le}
use Rattle.lists.specs.Below.{all_below, list_below}
use Rattle.endian.specs.Signed.{signed_at}
use Rattle.lists.proofs.Below.{length_list, get_or_list, all_none, all_end, run_holds, run_fails}
use Rattle.format.specs.Layout.{capacity}
use Rattle.format.specs.Limits.{max_blocks}
use Rattle.format.specs.Meta2.{value_field, values_rule}
use Rattle.format.specs.Record.{entry, cell}
use Rattle.tables.specs.Spans.{rule_at}
use Rattle.tables.proofs.Rows.{span_cong, task_in_row}
use Rattle.tables.proofs.Held.{held_listed, held_short, held_values}
use Rattle.format.proofs.Chunks.{meta2_parts}
use Rattle.meta2.proofs.values_held.Goals as goal
use Rattle.meta2.proofs.values_held.Goals.{After-chunks_hold, After-min-w, After-span_ok}

module _ (n : ℕ) (held counts part : List ℕ) (big : Bool) where
  -- the rule of a cell
  abbrev Rule : ℕ → Bool
  Rule t = rule_at (length held) held counts t (value_field big part n t)

  -- a tile is judged by the values that stand from cell j on
  tile_judged : length held ≡ n → (j : ℕ) {w k : ℕ} {values : List ℤ} {r : Bool} → k ≡ w
      → values ≡ list_below k (λ t. signed_at big 8 part (8 * n + 8 * j + 8 * t))
      → r ≡ all_below (length values) (λ t. rule_at (length held) held counts (j / n * length held + j % n + t) (cell values t))
      → r ≡ all_below w (λ t. Rule (j + t))
  tile_judged long j {w} {k} {values} same filled judged =
      let as_many : length values ≡ w = ap length filled ∙ length_list (λ t. signed_at big 8 part (8 * n + 8 * j + 8 * t)) k ∙ same in
      span_cong (length held) held counts w (λ t. rw long (omega (arith, div-add-mod' j n)))
      (λ t h.
      let stands : 8 * n + 8 * j + 8 * t ≡ 8 * n + 8 * (j + t) = omega arith in
      ap (λ (vs : List ℤ). cell vs t) filled
      ∙ get_or_list (λ t. signed_at big 8 part (8 * n + 8 * j + 8 * t)) k t (pos 0) (omega arith)
      ∙ ap (signed_at big 8 part) stands)
      (judged ∙ ap (λ (m : ℕ). all_below m (λ t. rule_at (length held) held counts (j / n * length held + j % n + t) (cell values t))) as_many)

-- there is an entry for each task
held_long : (s : After-chunks_hold) → let n = s.args.layout.now.n in length (take n s.chunks_hold.new.holds) ≡ n
held_long s = length-take-le s.args.layout.now.n s.chunks_hold.new.holds (omega (arith, s.requires.m_in_bounds, s.chunks_hold.auto.holds))

pub loop-j-init : goal.loop-j-init
loop-j-init c = (search rules, all_none _)

-- a tile is no longer than the values that are left
width : (s : After-min-w) → (0 < s.min-w.result)
    × (s.loop-j.j + s.min-w.result ≤ s.args.layout.now.n * s.args.m)
    × (length (take s.min-w.result s.loop-j.tile) ≡ s.min-w.result)
width s = (omega (arith, s.min-w.ensures), omega (arith, s.min-w.ensures), rw length-take (omega (arith, s.min-w.ensures, s.min-w.array_long)))

pub fill-requires : goal.fill-requires
fill-requires c =
    let s : After-min-w = (goal.at.fill-requires c).After-min-w in
    let lay = c.args.layout.now in
    omega (arith, width s, meta2_parts lay.n c.args.m, c.requires.n_in_bounds.1)

pub span_ok-requires-clause-holds_listed : goal.span_ok-requires-clause-holds_listed
span_ok-requires-clause-holds_listed c =
    let p = c.requires in
    let sound = c.args.layout.now.sound in
    (held_listed sound _ p.m_in_bounds.1 c.chunks_hold.ensures, held_short sound _ p.m_in_bounds.1 c.chunks_hold.ensures _ p.n_in_bounds.0)

pub span_ok-requires-clause-cells_in_bounds : goal.span_ok-requires-clause-cells_in_bounds
span_ok-requires-clause-cells_in_bounds c =
    let a = c.args in
    let lay = a.layout.now in
    let j : ℕ = c.loop-j.j in
    let h : After-chunks_hold = (goal.at.span_ok-requires-clause-cells_in_bounds c).After-chunks_hold in
    let m : After-min-w = (goal.at.span_ok-requires-clause-cells_in_bounds c).After-min-w in
    let below : j < lay.n * a.m = omega arith in
    let small : lay.n * a.m ≤ lay.n * max_blocks = mul-le-mul_left lay.n c.requires.m_in_bounds.0 in (
      omega (arith, div-le_self j lay.n, small, lay.sound.tasks, c.fill.auto.into, width m, c.min-w.ensures),
      λ _. omega (arith, held_long h, task_in_row lay.n a.m j below),
    )

-- it is judged by the rule of its cells
tested : (s : After-span_ok) → let a = s.args in
    let n = a.layout.now.n in
    s.span_ok.result ≡ all_below s.min-w.result (λ t. Rule n (take n s.chunks_hold.new.holds) a.counts.now a.part.now a.big (s.loop-j.j + t))
tested s =
    let a = s.args in
    let n = a.layout.now.n in
    let w : After-min-w = (goal.at.After-span_ok s).After-min-w in
    let h : After-chunks_hold = (goal.at.After-span_ok s).After-chunks_hold in
    tile_judged n (take n s.chunks_hold.new.holds) a.counts.now a.part.now a.big (held_long h) s.loop-j.j (width w).2 s.fill.ensures s.span_ok.ensures

-- the rule of all cells is that of META2
all_judged : (s : After-chunks_hold) → let a = s.args in
    let lay = a.layout.now in
    all_below (lay.n * a.m) (Rule lay.n (take lay.n s.chunks_hold.new.holds) a.counts.now a.part.now a.big)
    ≡ values_rule lay.n a.m (λ i. capacity lay.blocksize (entry lay.sizes.now i)) (entry a.counts.now) (value_field a.big a.part.now lay.n)
all_judged s =
    let a = s.args in
    let lay = a.layout.now in
    held_values lay.sound _ s.requires.m_in_bounds.1 s.chunks_hold.ensures a.counts.now (value_field a.big a.part.now lay.n) a.m

pub returns-then-not-span_ok : goal.returns-then-not-span_ok
returns-then-not-span_ok c =
    let h : After-chunks_hold = (goal.at.returns-then-not-span_ok c).After-chunks_hold in
    let m : After-min-w = (goal.at.returns-then-not-span_ok c).After-min-w in
    let s : After-span_ok = (goal.at.returns-then-not-span_ok c).After-span_ok in
    run_fails _ c.loop-j.j c.min-w.result (width m).1 (tested s) (ap not c.if-not-span_ok.true) ∙ all_judged h

pub loop-j-preserved : goal.loop-j-preserved
loop-j-preserved c =
    let s : After-span_ok = (goal.at.loop-j-preserved c).After-span_ok in
    let w : c.min-w.result ≡ 128 = omega (arith, c.min-w.ensures) in
    (omega arith, rw (← w) (run_holds _ c.loop-j.j c.min-w.result c.loop-j.invariant.1 (tested s) (ap not c.if-not-span_ok.false)))

pub returns : goal.returns
returns c =
    let h : After-chunks_hold = (goal.at.returns c).After-chunks_hold in
    all_end _ (search rules) (search rules) c.loop-j.invariant.1 ∙ all_judged h

pub returns-else-not-span_ok : goal.returns-else-not-span_ok
returns-else-not-span_ok c =
    let h : After-chunks_hold = (goal.at.returns-else-not-span_ok c).After-chunks_hold in
    let s : After-span_ok = (goal.at.returns-else-not-span_ok c).After-span_ok in
    let w : c.loop-j.j + c.min-w.result ≡ c.args.layout.now.n * c.args.m = omega (arith, c.min-w.ensures) in
    sym (rw w at (run_holds _ c.loop-j.j c.min-w.result c.loop-j.invariant.1 (tested s) (ap not c.if-not-span_ok.false))) ∙ all_judged h
