-- Document 01, "Order when loading" and the orders of the other entries, row by row: each input fails one test and the next one too, and has one
-- fault fewer than the input before it. Only the paper's order has every test before its neighbour. Then 17 for each rule that a record can
-- break. That the rules compute these numbers is proved in proofs/Numbers.antt.
use Rattle.std.specs.Prelude.{false, List, [], ◌∷◌, ◌++◌, map, ℕ, ℤ, pos, negsuc, take, drop, replicate}
use Rattle.lists.specs.Splice.{splice}
use Rattle.format.specs.declared.head.File.{File}
use Rattle.format.specs.declared.head.File.TheVariants.{Single, First, Second}
use Rattle.format.specs.declared.head.Head.{Head}
use Rattle.format.specs.Meta1.{meta1}
use Rattle.format.specs.Meta2.{meta2}
use Rattle.format.specs.Record.{entry, lists_of, head_of}
use Rattle.format.specs.Session.{State, state_of, session_of}
use Rattle.format.specs.Open.{open_refusal}
use Rattle.format.specs.Write.{request_of, write_refusal}
use Rattle.format.specs.Close.{close_answer}
use Rattle.format.specs.Loaded.{loaded_of}
use Rattle.format.specs.Load.{load_refusal}
use Rattle.format.specs.Reads.{container_of, chunk_refusal, total_answer, read_refusal}
use Rattle.format.specs.Numbers.{Row, row}

-- ---- loading: a container of one task that wrote 10 bytes in one chunk, with faults in its bytes, cut short, and with a table of so many cells

-- a byte that is put at an offset
pub record Change : Type 0 where
  pub at : ℕ
  pub byte : ℕ

abbrev pub change : ℕ → ℕ → Change
change at byte = record { at = at; byte = byte }

abbrev pub one : List ℕ
one =
    meta1 (head_of 0 (pos 1) (pos 7) 3 512 1 1 0) (λ i. 0) (λ i. 10) [] 1 2048
    ++ (replicate 944 0 ++ meta2 false 1 1 (λ i. 1) (λ j. pos 10))

-- one byte for each test but 3 and 18: 1, 2, 4, 5, 6, 7, 8, 9, 10, 11, 12, 13
abbrev pub faults : List Change
faults =
    change 3 111
    ∷ change 4 0
    ∷ change 16 5
    ∷ change 21 3
    ∷ change 24 65
    ∷ change 28 2
    ∷ change 1083 128
    ∷ change 1084 0
    ∷ change 1097 0
    ∷ change 1092 33
    ∷ change 1097 7
    ∷ change 2048 2
    ∷ []

-- an image with these faults; of two for one byte the first counts
abbrev pub spoilt : List Change → List ℕ → List ℕ
spoilt [] image = image
spoilt (f ∷ fs) image = splice (spoilt fs image) f.at (f.byte ∷ [])

-- the container with so many of the faults mended, cut to so many bytes, with a table of so many cells
abbrev pub load_of : ℕ → ℕ → ℕ → ℕ
load_of mended bytes cells = load_refusal Single (take bytes (spoilt (drop mended faults) one)) cells

-- ---- opening: an order, a format, a blocksize, ranks, sizes, how many bytes of a prefix, K, and the lengths of the image and the table

abbrev pub open_of : ℕ → ℕ → ℕ → List ℕ → List ℕ → ℕ → ℕ → ℕ → ℕ → ℕ
open_of order format blocksize ranks sizes prefix planned =
    open_refusal
    (record {
      file = Single;
      plan = record { order = order; version = pos 1; patch = pos 7; format = format; blocksize = blocksize; planned = planned };
      ranks = ranks;
      sizes = sizes;
      prefix = replicate prefix 97;
    })

-- ---- writes, closes and reads of a record of one task that wrote 10 bytes in one chunk: its mark, the bytes of its image, its table

abbrev pub one_head : Head
one_head = head_of 0 (pos 1) (pos 7) 3 512 1 1 0

abbrev pub one_list : List ℕ
one_list = lists_of 1 (λ i. 0) (λ i. 10) (λ i. 1)

abbrev pub session_at : ℕ → ℕ → List ℤ → State
session_at closed bytes table = state_of Single (session_of one_head 1 closed) one_list (replicate bytes 0) table

-- of a task, so many bytes
abbrev pub write_of : State → ℕ → ℕ → ℕ
write_of st task bytes = write_refusal st (request_of task (replicate bytes 7))

abbrev pub close_of : State → ℕ
close_of st = (close_answer st).refusal

-- a chunk, and a read from a place
abbrev pub chunk_at : ℕ → ℕ → List ℤ → ℕ → ℕ → ℕ
chunk_at closed bytes table = chunk_refusal (container_of Single (loaded_of one_head 1 closed) one_list (replicate bytes 0) table)

abbrev pub read_at : ℕ → ℕ → List ℤ → ℕ → ℕ → ℕ
read_at closed bytes table = read_refusal (container_of Single (loaded_of one_head 1 closed) one_list (replicate bytes 0) table)

-- ---- what test 17 judges: an order, a format, a blocksize, n, two ranks, two sizes, two counts, K or maxchunks, and the closed mark

pub record Numbers17 : Type 0 where
  pub order : ℕ
  pub format : ℕ
  pub blocksize : ℕ
  pub n : ℕ
  pub ranks : List ℕ
  pub sizes : List ℕ
  pub counts : List ℕ
  pub chunks : ℕ
  pub closed : ℕ

abbrev pub numbers : ℕ → ℕ → ℕ → ℕ → List ℕ → List ℕ → List ℕ → ℕ → ℕ → Numbers17
numbers order format blocksize n ranks sizes counts chunks closed =
    record {
      order = order;
      format = format;
      blocksize = blocksize;
      n = n;
      ranks = ranks;
      sizes = sizes;
      counts = counts;
      chunks = chunks;
      closed = closed;
    }

abbrev pub head_at : Numbers17 → Head
head_at r = head_of r.order (pos 1) (pos 7) r.format r.blocksize r.n 1 0

abbrev pub lists_at : Numbers17 → List ℕ
lists_at r = lists_of 2 (entry r.ranks) (entry r.sizes) (entry r.counts)

-- the record with no image and no table: sound, it is refused with 18
abbrev pub session_number : Numbers17 → ℕ
session_number r = close_of (state_of Single (session_of (head_at r) r.chunks r.closed) (lists_at r) [] [])

abbrev pub loaded_number : Numbers17 → ℕ
loaded_number r = (total_answer (container_of Single (loaded_of (head_at r) r.chunks r.closed) (lists_at r) [] []) 1).refusal

-- what both kinds of record can break: the order, the format, the blocksize, n, a rank, two ranks, a size, a count, in version 4 a count of 0, the
-- chunks, the closed mark
abbrev pub broken : List Numbers17
broken =
    numbers 2 3 512 2 (0 ∷ 1 ∷ []) (500 ∷ 600 ∷ []) (2 ∷ 3 ∷ []) 3 0
    ∷ numbers 0 2 512 2 (0 ∷ 1 ∷ []) (500 ∷ 600 ∷ []) (2 ∷ 3 ∷ []) 3 0
    ∷ numbers 0 5 512 2 (0 ∷ 1 ∷ []) (500 ∷ 600 ∷ []) (2 ∷ 3 ∷ []) 3 0
    ∷ numbers 0 3 256 2 (0 ∷ 1 ∷ []) (500 ∷ 600 ∷ []) (2 ∷ 3 ∷ []) 3 0
    ∷ numbers 0 3 768 2 (0 ∷ 1 ∷ []) (500 ∷ 600 ∷ []) (2 ∷ 3 ∷ []) 3 0
    ∷ numbers 0 3 8_388_608 2 (0 ∷ 1 ∷ []) (500 ∷ 600 ∷ []) (2 ∷ 3 ∷ []) 3 0
    ∷ numbers 0 3 512 0 (0 ∷ 1 ∷ []) (500 ∷ 600 ∷ []) (2 ∷ 3 ∷ []) 3 0
    ∷ numbers 0 3 512 65 (0 ∷ 1 ∷ []) (500 ∷ 600 ∷ []) (2 ∷ 3 ∷ []) 3 0
    ∷ numbers 0 3 512 2 (0 ∷ 2_147_483_648 ∷ []) (500 ∷ 600 ∷ []) (2 ∷ 3 ∷ []) 3 0
    ∷ numbers 0 3 512 2 (1 ∷ 1 ∷ []) (500 ∷ 600 ∷ []) (2 ∷ 3 ∷ []) 3 0
    ∷ numbers 0 3 512 2 (0 ∷ 1 ∷ []) (500 ∷ 0 ∷ []) (2 ∷ 3 ∷ []) 3 0
    ∷ numbers 0 3 512 2 (0 ∷ 1 ∷ []) (500 ∷ 1_073_741_825 ∷ []) (2 ∷ 3 ∷ []) 3 0
    ∷ numbers 0 3 512 2 (0 ∷ 1 ∷ []) (500 ∷ 600 ∷ []) (2 ∷ 4 ∷ []) 3 0
    ∷ numbers 0 4 512 2 (0 ∷ 1 ∷ []) (500 ∷ 600 ∷ []) (0 ∷ 3 ∷ []) 3 0
    ∷ numbers 0 4 512 2 (0 ∷ 1 ∷ []) (500 ∷ 600 ∷ []) (3 ∷ 0 ∷ []) 3 0
    ∷ numbers 0 3 512 2 (0 ∷ 1 ∷ []) (500 ∷ 600 ∷ []) (2 ∷ 33 ∷ []) 33 0
    ∷ numbers 0 3 512 2 (0 ∷ 1 ∷ []) (500 ∷ 600 ∷ []) (2 ∷ 3 ∷ []) 3 1
    ∷ numbers 0 3 512 2 (0 ∷ 1 ∷ []) (500 ∷ 600 ∷ []) (2 ∷ 3 ∷ []) 3 256
    ∷ []

-- sound ones, at the ends of what is allowed
abbrev pub sound : List Numbers17
sound =
    numbers 1 3 512 2 (0 ∷ 2_147_483_647 ∷ []) (1 ∷ 1_073_741_824 ∷ []) (2 ∷ 3 ∷ []) 3 0
    ∷ numbers 0 3 4_194_304 2 (1 ∷ 0 ∷ []) (500 ∷ 600 ∷ []) (32 ∷ 0 ∷ []) 32 0
    ∷ numbers 1 4 512 2 (0 ∷ 1 ∷ []) (500 ∷ 600 ∷ []) (1 ∷ 3 ∷ []) 3 0
    ∷ []

-- K is over every count or equal to it, and at least 1; maxchunks is the greatest count, and may be 0
abbrev pub chunks_over : Numbers17
chunks_over = numbers 0 3 512 2 (0 ∷ 1 ∷ []) (500 ∷ 600 ∷ []) (2 ∷ 1 ∷ []) 3 0

abbrev pub chunks_none : Numbers17
chunks_none = numbers 0 3 512 2 (0 ∷ 1 ∷ []) (500 ∷ 600 ∷ []) (0 ∷ 0 ∷ []) 0 0

-- n is at least 1, whatever else is right
abbrev pub tasks_none : Numbers17
tasks_none = numbers 0 3 512 0 [] [] [] 0 0

-- ---- nfiles and filenumber (W-204): what a load gives of an image that says these, and 17 of a session and of a loaded record, sound in all else, in a
-- call that means this file

abbrev pub suited : File → ℕ → ℕ → List ℕ
suited f files file =
    let h = head_of 0 (pos 1) (pos 7) 3 512 1 files file in
    load_refusal f (splice (splice one 28 (files ∷ [])) 32 (file ∷ [])) 1
    ∷ close_of (state_of f (session_of h 1 0) one_list [] [])
    ∷ (total_answer (container_of f (loaded_of h 1 0) one_list [] []) 1).refusal
    ∷ []

unfoldable pub order_table : List Row
order_table =
    -- loading: "1, 2, 3 (1076), 4, 5, 6, 7, 3 (full), 8, 9, 10, 11, 12, 18 (table), 13"
    row
    (load_of 0 1075 0
    ∷ load_of 1 1075 0
    ∷ load_of 2 1075 0
    ∷ load_of 2 1076 0
    ∷ load_of 3 1103 0
    ∷ load_of 4 1103 0
    ∷ load_of 5 1103 0
    ∷ load_of 6 1103 0
    ∷ load_of 6 2063 0
    ∷ load_of 7 2063 0
    ∷ load_of 8 2063 0
    ∷ load_of 9 2063 0
    ∷ load_of 10 2063 0
    ∷ load_of 11 2063 0
    ∷ load_of 11 2064 0
    ∷ load_of 11 2064 1
    ∷ load_of 12 2064 1
    ∷ [])
    (1 ∷ 2 ∷ 3 ∷ 4 ∷ 5 ∷ 6 ∷ 7 ∷ 3 ∷ 8 ∷ 9 ∷ 10 ∷ 11 ∷ 12 ∷ 12 ∷ 18 ∷ 13 ∷ 0 ∷ [])
    -- opening: "2, 5, 6, 21, 8, 9, 20, 18", and 4 "right after 2"
    ∷ row
    (open_of 2 5 768 (3 ∷ 3 ∷ []) (0 ∷ []) 1025 33 6207 5
    ∷ open_of 0 5 768 (3 ∷ 3 ∷ []) (0 ∷ []) 1025 33 6207 5
    ∷ open_of 0 3 768 (3 ∷ 3 ∷ []) (0 ∷ []) 1025 33 6207 5
    ∷ open_of 0 3 512 (3 ∷ 3 ∷ []) (0 ∷ []) 1025 33 6207 5
    ∷ open_of 0 3 512 (3 ∷ 3 ∷ []) (0 ∷ 600 ∷ []) 1025 33 6207 5
    ∷ open_of 0 3 512 (3 ∷ 3 ∷ []) (0 ∷ 600 ∷ []) 1024 33 6207 5
    ∷ open_of 0 3 512 (3 ∷ 4 ∷ []) (0 ∷ 600 ∷ []) 1024 33 6207 5
    ∷ open_of 0 3 512 (3 ∷ 4 ∷ []) (500 ∷ 600 ∷ []) 1024 33 6207 5
    ∷ open_of 0 3 512 (3 ∷ 4 ∷ []) (500 ∷ 600 ∷ []) 1024 3 6207 5
    ∷ open_of 0 3 512 (3 ∷ 4 ∷ []) (500 ∷ 600 ∷ []) 1024 3 6208 5
    ∷ open_of 0 3 512 (3 ∷ 4 ∷ []) (500 ∷ 600 ∷ []) 1024 3 6208 6
    ∷ [])
    (2 ∷ 4 ∷ 5 ∷ 6 ∷ 21 ∷ 8 ∷ 9 ∷ 20 ∷ 18 ∷ 18 ∷ 0 ∷ [])
    -- no task before 21; the order 3; one size too many or too few; a prefix of 1,025 bytes; a rank over the greatest; no K
    ∷ row
    (open_of 0 3 512 [] [] 1025 3 6208 6
    ∷ open_of 3 3 512 (3 ∷ 4 ∷ []) (500 ∷ 600 ∷ []) 0 3 6208 6
    ∷ open_of 1 3 512 (3 ∷ 4 ∷ []) (500 ∷ 600 ∷ 1 ∷ []) 0 3 6208 6
    ∷ open_of 1 3 512 (3 ∷ 4 ∷ []) (500 ∷ []) 0 3 6208 6
    ∷ open_of 1 3 512 (3 ∷ 4 ∷ []) (500 ∷ 600 ∷ []) 1025 3 6208 6
    ∷ open_of 1 3 512 (3 ∷ 2_147_483_648 ∷ []) (500 ∷ 600 ∷ []) 0 3 6208 6
    ∷ open_of 1 3 512 (3 ∷ 4 ∷ []) (500 ∷ 600 ∷ []) 0 0 6208 6
    ∷ open_of 1 3 512 (3 ∷ 4 ∷ []) (500 ∷ 600 ∷ []) 0 3 6208 6
    ∷ [])
    (6 ∷ 2 ∷ 6 ∷ 6 ∷ 21 ∷ 8 ∷ 20 ∷ 0 ∷ [])
    -- a write: "17, 18, 19, 14, empty accepted, 15, 16"; 513 bytes are more than a chunk holds, 503 more than is left of it, and 502 fill it
    ∷ row
    (write_of (session_at 1 2063 (pos 513 ∷ [])) 2 513
    ∷ write_of (session_at 0 2063 (pos 513 ∷ [])) 2 513
    ∷ write_of (session_at 0 2064 []) 2 513
    ∷ write_of (session_at 0 2064 (pos 513 ∷ [])) 2 513
    ∷ write_of (session_at 0 2064 (pos 10 ∷ [])) 2 513
    ∷ write_of (session_at 0 2064 (pos 10 ∷ [])) 1 513
    ∷ write_of (session_at 0 2064 (pos 10 ∷ [])) 1 503
    ∷ write_of (session_at 0 2064 (pos 10 ∷ [])) 1 502
    ∷ write_of (session_at 0 2064 (pos 0 ∷ [])) 1 512
    ∷ write_of (session_at 0 2064 (pos 512 ∷ [])) 1 1
    ∷ [])
    (17 ∷ 18 ∷ 18 ∷ 19 ∷ 14 ∷ 15 ∷ 16 ∷ 0 ∷ 0 ∷ 16 ∷ [])
    -- the same of an empty request
    ∷ row
    (write_of (session_at 1 2063 (pos 513 ∷ [])) 0 0
    ∷ write_of (session_at 0 2063 (pos 513 ∷ [])) 0 0
    ∷ write_of (session_at 0 2064 (pos 513 ∷ [])) 0 0
    ∷ write_of (session_at 0 2064 (pos 10 ∷ [])) 0 0
    ∷ write_of (session_at 0 2064 (pos 10 ∷ [])) 1 0
    ∷ [])
    (17 ∷ 18 ∷ 19 ∷ 14 ∷ 0 ∷ [])
    -- a close: "17, 18, 19"
    ∷ row
    (close_of (session_at 1 2063 (pos 513 ∷ []))
    ∷ close_of (session_at 0 2063 (pos 513 ∷ []))
    ∷ close_of (session_at 0 2064 [])
    ∷ close_of (session_at 0 2064 (pos 513 ∷ []))
    ∷ close_of (session_at 0 2064 (negsuc 0 ∷ []))
    ∷ close_of (session_at 0 2064 (pos 512 ∷ []))
    ∷ [])
    (17 ∷ 18 ∷ 18 ∷ 19 ∷ 19 ∷ 0 ∷ [])
    -- the reads: "17, 18, 19, 14, then 22 or 23"
    ∷ row
    (chunk_at 1 2063 (pos 513 ∷ []) 2 2
    ∷ chunk_at 0 2063 (pos 513 ∷ []) 2 2
    ∷ chunk_at 0 2064 [] 2 2
    ∷ chunk_at 0 2064 (pos 513 ∷ []) 2 2
    ∷ chunk_at 0 2064 (negsuc 0 ∷ []) 2 2
    ∷ chunk_at 0 2064 (pos 512 ∷ []) 2 2
    ∷ chunk_at 0 2064 (pos 512 ∷ []) 1 2
    ∷ chunk_at 0 2064 (pos 512 ∷ []) 1 0
    ∷ chunk_at 0 2064 (pos 512 ∷ []) 1 1
    ∷ [])
    (17 ∷ 18 ∷ 18 ∷ 19 ∷ 19 ∷ 14 ∷ 22 ∷ 22 ∷ 0 ∷ [])
    ∷ row
    (read_at 1 2063 (pos 513 ∷ []) 2 513
    ∷ read_at 0 2063 (pos 513 ∷ []) 2 513
    ∷ read_at 0 2064 (pos 513 ∷ []) 2 513
    ∷ read_at 0 2064 (pos 512 ∷ []) 2 513
    ∷ read_at 0 2064 (pos 512 ∷ []) 1 513
    ∷ read_at 0 2064 (pos 512 ∷ []) 1 512
    ∷ [])
    (17 ∷ 18 ∷ 19 ∷ 14 ∷ 23 ∷ 0 ∷ [])
    -- 17, for each rule of a record, and not for the sound ones
    ∷ row (map session_number broken) (replicate 18 17)
    ∷ row (map loaded_number broken) (replicate 18 17)
    ∷ row (map session_number sound ++ map loaded_number sound) (replicate 6 18)
    -- 7 and 17 for another file than the one that the call means
    ∷ row (suited Single 1 0 ++ suited First 2 0 ++ suited Second 2 1) (0 ∷ 18 ∷ 18 ∷ 0 ∷ 18 ∷ 18 ∷ 0 ∷ 18 ∷ 18 ∷ [])
    ∷ row (suited Single 0 0 ++ suited Single 2 0 ++ suited Single 1 1) (7 ∷ 17 ∷ 17 ∷ 7 ∷ 17 ∷ 17 ∷ 7 ∷ 17 ∷ 17 ∷ [])
    ∷ row (suited First 1 0 ++ suited First 3 0 ++ suited First 2 1) (7 ∷ 17 ∷ 17 ∷ 7 ∷ 17 ∷ 17 ∷ 7 ∷ 17 ∷ 17 ∷ [])
    ∷ row (suited Second 1 1 ++ suited Second 2 0 ++ suited Second 2 2) (7 ∷ 17 ∷ 17 ∷ 7 ∷ 17 ∷ 17 ∷ 7 ∷ 17 ∷ 17 ∷ [])
    ∷ row
    (session_number chunks_over ∷ loaded_number chunks_over ∷ session_number chunks_none ∷ loaded_number chunks_none ∷ loaded_number tasks_none ∷ [])
    (18 ∷ 17 ∷ 17 ∷ 18 ∷ 17 ∷ [])
    ∷ []
