-- The tests put the chunk's cell into the table and its bytes into the image.
use mathlib.Core.Path.{◌≡◌, ap₂}
use Prim.Native.Nat.{ℕ, ◌-◌, ◌<◌}
use native.Mathlib.Omega.{arith}
use lib.ListN.{length}
use Rattle.format.specs.Meta2.{value_index}
use Rattle.format.specs.Record.{size_of, start_of}
use Rattle.format.specs.Reads.{written_in, chunk_place}
use Rattle.format.proofs.Readable.{read_sound, used_few, used_listed, written_inside}
use Rattle.chunks.proofs.place_of.Goals as goal
use Rattle.chunks.proofs.place_of.Goals.{Start, After-chunk_start-start}

-- the chunk's cell is one of the table
listed : (s : Start) → let a = s.args in value_index a.l.head.n (a.chunk - 1) (a.task - 1) < length a.table.now
listed s = used_listed s.requires.readable (s.args.chunk - 1) (omega (arith, s.requires.le_chunk))

-- where the chunk starts
starts : (c : After-chunk_start-start) → let a = c.args in c.chunk_start-start.result ≡ start_of a.l.head (size_of a.lists.now) a.task a.chunk
unfolding start_of
starts c = let l = c.of.ensures in rw (l.n, l.blocksize, l.sizes) at c.chunk_start-start.ensures

pub of-requires : goal.of-requires
of-requires c = read_sound c.requires.readable

pub chunk_start-start-requires : goal.chunk_start-start-requires
chunk_start-start-requires c =
    let r = c.requires.readable in
    (r.first_task, omega (arith, r.last_task, c.of.ensures.n), c.requires.le_chunk.0, omega (arith, used_few r, c.requires.le_chunk.1))

pub overflow_mul-at : goal.overflow_mul-at
overflow_mul-at c = omega (arith, listed (goal.at.overflow_mul-at c).Start)

pub overflow_add-at : goal.overflow_add-at
overflow_add-at c = omega (arith, listed (goal.at.overflow_add-at c).Start)

pub written-length-requires : goal.written-length-requires
written-length-requires c = listed (goal.at.written-length-requires c).Start

pub returns-clause-value : goal.returns-clause-value
unfolding chunk_place written_in
returns-clause-value c =
    ap₂ (λ (at bytes : ℕ). record { refusal = 0; start = at; length = bytes })
    (starts (goal.at.returns-clause-value c).After-chunk_start-start) c.written-length.ensures

pub returns-clause-length_in_bounds : goal.returns-clause-length_in_bounds
unfolding written_in
returns-clause-length_in_bounds c =
    let inside = written_inside c.requires.readable c.args.chunk c.requires.le_chunk.0 c.requires.le_chunk.1 in
    omega (arith, inside, starts (goal.at.returns-clause-length_in_bounds c).After-chunk_start-start, c.written-length.ensures)
