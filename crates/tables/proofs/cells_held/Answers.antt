-- The cells of all chunks are one span.
use Rattle.std.proofs.Common.{arith}
use Rattle.tables.proofs.Held.{held_listed, held_short, held_span}
use Rattle.tables.proofs.cells_held.Goals as goal

pub span_ok-requires-clause-holds_listed : goal.span_ok-requires-clause-holds_listed
span_ok-requires-clause-holds_listed c =
    let p = c.requires in
    let s = c.args.layout.now.sound in
    (held_listed s _ p.m_in_bounds.1 c.chunks_hold.ensures, held_short s _ p.m_in_bounds.1 c.chunks_hold.ensures _ p.n_in_bounds.0)

pub returns : goal.returns
returns c =
    let a = c.args in
    let p = c.requires in
    held_span a.layout.now.sound _ p.m_in_bounds.1 c.chunks_hold.ensures a.counts.now a.table.now a.m p.n_in_bounds.1 (λ t. omega arith) c.span_ok.ensures
