-- Those that there is room for are stored whole; a part of the next may follow them.
use mathlib.Core.Path.{sym, ◌∙◌}
use Rattle.lists.proofs.Splice.{put_none}
use Rattle.runs.proofs.Listed.{one_more, all_whole, next_cut}
use Rattle.runs.proofs.put_list.Goals as goal

pub loop-i-init : goal.loop-i-init
loop-i-init g c = (put_none c.args.image.now c.args.at).0

pub loop-i-preserved : goal.loop-i-preserved
loop-i-preserved g c =
    let a = c.args in
    let cut = c.split_at.ensures.by_index.0 in
    let width = c.WIDTH-width.ensures in
    one_more (g.T.Number.bytes_of a.big) c.WIDTH-width.result (λ v. g.met.T.Number.length_bytes a.big v ∙ sym width) a.image.now a.at a.values.now
    c.split_at.result.0.now c.split_at.result.1.now cut (rw (← width) at c.requires) c.loop-i.i c.loop-i-test.true c.index-whole-i.is c.loop-i.invariant
    c.put.ensures

pub returns-in-Some : goal.returns-in-Some
returns-in-Some g c =
    let a = c.args in
    let cut = c.split_at.ensures.by_index.0 in
    let width = c.WIDTH-width.ensures in
    let room = rw (← width) at c.whole_numbers.ensures in
    let few = c.split_at.ensures.front_len in
    next_cut (g.T.Number.bytes_of a.big) c.WIDTH-width.result (λ v. g.met.T.Number.length_bytes a.big v ∙ sym width) a.image.now a.at a.values.now
    c.split_at.result.0.now c.split_at.result.1.now cut (rw (← width) at c.requires) a.budget (rw few room.room) c.loop-i-test.false c.loop-i.invariant
    c.in-Some.ensures.value (rw few room.next_short) c.put_within.ensures

pub returns-in-None : goal.returns-in-None
returns-in-None g c =
    let a = c.args in
    let cut = c.split_at.ensures.by_index.0 in
    let width = c.WIDTH-width.ensures in
    let room = rw (← width) at c.whole_numbers.ensures in
    all_whole (g.T.Number.bytes_of a.big) c.WIDTH-width.result (λ v. g.met.T.Number.length_bytes a.big v ∙ sym width) a.image.now a.at a.values.now
    c.split_at.result.0.now c.split_at.result.1.now cut (rw (← width) at c.requires) a.budget (rw c.split_at.ensures.front_len room.room) c.loop-i-test.false c.loop-i.invariant
    c.in-None.ensures.value
