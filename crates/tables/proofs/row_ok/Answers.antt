-- The loop's invariant: no top bit is set exactly where every cell passed keeps its rule.
use Rattle.std.proofs.Common.{◌≡◌, ℕ, ◌^◌, Bool, ◌&&◌, ltb, get_or, ℤ, pos, sym, ap, ◌∙◌, to_z-of_z, w64, rules}
use Rattle.lists.proofs.Below.{all_none, all_turn}
use Rattle.format.specs.Meta2.{value_rule}
use Rattle.tables.proofs.row_ok.Goals as goal

pub loop-i-init : goal.loop-i-init
loop-i-init c = sym (all_none _)

pub loop-i-preserved : goal.loop-i-preserved
loop-i-preserved c =
    let a = c.args in
    let l = c.loop-i in
    let Rule : ℕ → Bool = λ j. value_rule (ltb a.k (get_or a.counts.now j 0)) (get_or a.holds.now j 0) (get_or a.cells.now j (pos 0)) in
    let tested : ltb c.value_bad-bad.result (2 ^ 63) ≡ (ltb l.bad (2 ^ 63) && Rule l.i) =
    c.value_bad-bad.ensures
    ∙ ap (λ (z : ℤ). ltb l.bad (2 ^ 63) && value_rule (ltb a.k (get_or a.counts.now l.i 0)) (get_or a.holds.now l.i 0) z)
    (to_z-of_z {w = w64} {z = get_or a.cells.now l.i (pos 0)} (search rules)) in
    tested ∙ ap (λ (q : Bool). q && Rule l.i) l.invariant ∙ sym (all_turn Rule l.i)
