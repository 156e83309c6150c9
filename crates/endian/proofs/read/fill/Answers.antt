-- Before the first number, after a number, and at the end.
use Rattle.std.proofs.Common.{◌≡◌, ◌+◌, ◌*◌, ℕ, length, take, drop, arith, ap, ◌∙◌}
use Rattle.lists.specs.Below.{list_below}
use Rattle.lists.specs.Splice.{splice}
use Rattle.lists.proofs.Below.{length_list}
use Rattle.lists.proofs.Splice.{splice_none, splice_more, splice_over}
use Rattle.endian.proofs.read.fill.Goals as goal

pub loop-i-init : goal.loop-i-init
loop-i-init g c = splice_none c.args.into.now _

pub loop-i-preserved : goal.loop-i-preserved
loop-i-preserved g c = let n = g.T.Number in
    let a = c.args in
    let f = λ (j : ℕ). n.value_of a.big (take n.WIDTH (drop (a.at + n.WIDTH * j) a.s.now)) in
    rw (c.get.ensures, c.WIDTH.ensures, c.loop-i.invariant) (splice_more a.into.now f c.loop-i.i c.loop-i-test.true)

pub returns : goal.returns
returns g c = let n = g.T.Number in
    let a = c.args in
    let f = λ (j : ℕ). n.value_of a.big (take n.WIDTH (drop (a.at + n.WIDTH * j) a.s.now)) in
    let all : c.loop-i.i ≡ length a.into.now = omega arith in
    c.loop-i.invariant
    ∙ ap (λ (n : ℕ). splice a.into.now 0 (list_below n f)) all
    ∙ splice_over a.into.now (list_below (length a.into.now) f) (length_list f (length a.into.now))
