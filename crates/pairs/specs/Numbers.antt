-- Document 02, W-204: numbers of our own for a pair of files, worked out by hand from the papers, each beside what the rules compute: what an
-- opening needs, where the chunks lie, requests by rank, both closed images byte by byte, the mapping among them, and what is loaded and read.
-- That the rules compute these numbers is proved in proofs/Numbers.antt.
use Rattle.std.specs.Prelude.{Bool, true, false, cond, List, [], ◌∷◌, ◌++◌, map, ℕ, ℤ, pos, negsuc, get_or, take, drop, replicate}
use Rattle.lists.specs.Stores.{byte_stores}
use Rattle.format.specs.declared.head.Head.{Head}
use Rattle.format.specs.declared.head.File.TheVariants.{First, Second}
use Rattle.format.specs.declared.session.Plan.{Plan}
use Rattle.format.specs.Layout.{meta1_end, data_start, globalskip, chunk_start}
use Rattle.format.specs.Record.{entry, order_of, head_of}
use Rattle.format.specs.Session.{State, state_of, session_of}
use Rattle.format.specs.Open.{Opening, opening_of, open_stores}
use Rattle.format.specs.Write.{Request, request_of}
use Rattle.format.specs.Loaded.{loaded_of}
use Rattle.format.specs.Reads.{container_of}
use Rattle.format.specs.Numbers.{Row, row, record_of}
use Rattle.pairs.specs.Open.{pair_needs, pair_open_refusal, pair_opened, pair_found, pair_images, pair_tables}
use Rattle.pairs.specs.Sessions
use Rattle.pairs.specs.Load.{pair_loaded, pair_load_tables}
use Rattle.pairs.specs.Reads

-- ---- the pair: blocksize 512, format 3, version 1, patch level 7, no prefix. File 0 has ranks 2 and 0, sizes 500 and 600, and K = 3; file 1 has
-- rank 1, size 20, and K = 2. Each file has a byte order of its own, 0 for little and 1 for big.

abbrev pub plan_of : ℕ → ℕ → Plan
plan_of order planned = record { order = order; version = pos 1; patch = pos 7; format = 3; blocksize = 512; planned = planned }

abbrev pub sizes0 : List ℕ
sizes0 = 500 ∷ 600 ∷ []

abbrev pub opening0 : ℕ → Opening
opening0 order = opening_of First (plan_of order 3) (2 ∷ 0 ∷ []) sizes0 []

abbrev pub opening1 : ℕ → Opening
opening1 order = opening_of Second (plan_of order 2) (1 ∷ []) (20 ∷ []) []

-- what its opening needs, and the answer where it is lent so many bytes and cells for each file
abbrev pub needs : List ℕ
needs =
    let a = pair_needs (opening0 0) (opening1 0) in
    a.refusal ∷ a.image0 ∷ a.cells0 ∷ a.image1 ∷ a.cells1 ∷ []

abbrev pub lent : ℕ → ℕ → ℕ → ℕ → ℕ
lent = pair_open_refusal (opening0 0) (opening1 0)

-- where META1 ends, D and G
abbrev pub layout_of : ℕ → List ℕ → List ℕ
layout_of n sizes = meta1_end n ∷ data_start 512 n ∷ globalskip 512 n (entry sizes) ∷ []

-- where chunks of a task start
abbrev pub starts_of : ℕ → List ℕ → ℕ → List ℕ → List ℕ
starts_of n sizes task = map (λ (k : ℕ). chunk_start 512 n (entry sizes) task k)

-- ---- opened over nines, with one byte and one cell more than needed

abbrev pub nines : ℕ → List ℕ
nines n = replicate n 9

abbrev pub nines_in : ℕ → List ℤ
nines_in n = replicate n (pos 9)

abbrev pub opened_pair : ℕ → ℕ → Sessions.Pair
opened_pair order order' =
    let a = pair_opened (opening0 order) (opening1 order') (nines 6237) (nines_in 7) (nines 2585) (nines_in 3) in
    let images = pair_images (opening0 order) (opening1 order') (nines 6237) (nines_in 7) (nines 2585) (nines_in 3) in
    let tables = pair_tables (opening0 order) (opening1 order') (nines 6237) (nines_in 7) (nines 2585) (nines_in 3) in
    Sessions.pair_of (state_of First a.session0 a.lists0 images.0 tables.0)
    (state_of Second a.session1 a.lists1 images.1 tables.1)

-- the mark's first byte in each file, and the byte at D, within budgets of byte stores
abbrev pub opening_edges : ℕ → ℕ → List ℕ
opening_edges b b' =
    let images = pair_found (opening0 0) (opening1 1) (nines 6237) (nines_in 7) (nines 2585) (nines_in 3) b b' in
    take 2 images.0 ++ take 2 (drop 1535 images.0) ++ take 2 images.1 ++ take 2 (drop 1535 images.1)

-- ---- requests: so many bytes of one value by a rank, 10 and the rank in its first chunk, and 20 and the rank in its second

abbrev pub by : ℕ → ℕ → ℕ → Request
by rank bytes value = request_of rank (replicate bytes value)

abbrev pub accepted : List Request
accepted = by 2 500 12 ∷ by 1 512 11 ∷ by 0 1024 10 ∷ by 2 13 22 ∷ by 1 1 21 ∷ []

-- more than a chunk of rank 0 holds, and of rank 1; more than is left to rank 1; no such rank, and also with no byte; no byte
abbrev pub further : List Request
further = by 0 1025 99 ∷ by 1 513 99 ∷ by 1 512 99 ∷ by 3 1 99 ∷ by 3 0 99 ∷ by 0 0 99 ∷ []

abbrev pub written : ℕ → ℕ → Sessions.Pair
written order order' = Sessions.pair_writes (opened_pair order order') (accepted ++ further)

-- ---- closed: both images as they must be, byte by byte, in a byte order

abbrev pub zeros : ℕ → List ℕ
zeros n = replicate n 0

-- the number low + 256 · high in 4 and in 8 bytes, and -1 in 8
abbrev pub four : Bool → ℕ → ℕ → List ℕ
four big low high = cond big (0 ∷ 0 ∷ high ∷ low ∷ []) (low ∷ high ∷ 0 ∷ 0 ∷ [])

abbrev pub eight : Bool → ℕ → ℕ → List ℕ
eight big low high = cond big (zeros 6 ++ (high ∷ low ∷ [])) (low ∷ high ∷ zeros 6)

abbrev pub minus_one : List ℕ
minus_one = replicate 8 255

-- META1 up to nfiles: the mark, the order number, version, patch level, fileformat_version, blocksize, n and nfiles
abbrev pub front_of : Bool → ℕ → List ℕ
front_of big n =
    (115 ∷ 105 ∷ 111 ∷ 110 ∷ [])
    ++ four big 1 0
    ++ four big 1 0
    ++ four big 7 0
    ++ four big 3 0
    ++ four big 0 2
    ++ four big n 0
    ++ four big 2 0

-- file 0: filenumber 0, both flags, the prefix, two ranks, two sizes, maxchunks, start_of_varheader, and zeros up to 1536
abbrev pub first0 : Bool → ℕ → ℕ → List ℕ
first0 big maxchunks high =
    front_of big 2
    ++ four big 0 0
    ++ zeros 16
    ++ zeros 1024
    ++ eight big 2 0
    ++ eight big 0 0
    ++ eight big 244 1
    ++ eight big 88 2
    ++ four big maxchunks 0
    ++ eight big 0 high
    ++ zeros 416

-- 500 bytes of rank 2 from 1536 on, 1,024 of rank 0 from 2048, 13 of rank 2 from 3072; what no request fills is left
abbrev pub chunks0 : List ℕ
chunks0 = replicate 500 12 ++ nines 12 ++ replicate 1024 10 ++ replicate 13 22 ++ nines 1523

-- META2 from 4608 to 4656: 2, 1, 500, 1024, 13, -1
abbrev pub second0 : Bool → List ℕ
second0 big = eight big 2 0 ++ eight big 1 0 ++ eight big 244 1 ++ eight big 0 4 ++ eight big 13 0 ++ minus_one

-- the mapping from 4656 to 4684: mapping_size 3, then rank 0 as file 0's task 1, rank 1 as file 1's task 0 and rank 2 as file 0's task 0
abbrev pub mapping_little : List ℕ
mapping_little =
    (3 ∷ 0 ∷ 0 ∷ 0 ∷ [])
    ++ (0 ∷ 0 ∷ 0 ∷ 0 ∷ 1 ∷ 0 ∷ 0 ∷ 0 ∷ [])
    ++ (1 ∷ 0 ∷ 0 ∷ 0 ∷ 0 ∷ 0 ∷ 0 ∷ 0 ∷ [])
    ++ (0 ∷ 0 ∷ 0 ∷ 0 ∷ 0 ∷ 0 ∷ 0 ∷ 0 ∷ [])

abbrev pub mapping_big : List ℕ
mapping_big =
    (0 ∷ 0 ∷ 0 ∷ 3 ∷ [])
    ++ (0 ∷ 0 ∷ 0 ∷ 0 ∷ 0 ∷ 0 ∷ 0 ∷ 1 ∷ [])
    ++ (0 ∷ 0 ∷ 0 ∷ 1 ∷ 0 ∷ 0 ∷ 0 ∷ 0 ∷ [])
    ++ (0 ∷ 0 ∷ 0 ∷ 0 ∷ 0 ∷ 0 ∷ 0 ∷ 0 ∷ [])

-- 6,237 bytes before the close, where both last fields are 0 and 1,629 bytes after the chunks are left; 4,684 bytes after it, where maxchunks is 2
-- and start_of_varheader is 4608
abbrev pub open0 : Bool → List ℕ
open0 big = first0 big 0 0 ++ chunks0 ++ nines 1629

abbrev pub file0 : Bool → List ℕ
file0 big = first0 big 2 18 ++ chunks0 ++ second0 big ++ cond big mapping_big mapping_little

-- file 1: filenumber 1, both flags, the prefix, one rank, one size, maxchunks, start_of_varheader, and zeros up to 1536
abbrev pub first1 : Bool → ℕ → ℕ → List ℕ
first1 big maxchunks high =
    front_of big 1
    ++ four big 1 0
    ++ zeros 16
    ++ zeros 1024
    ++ eight big 1 0
    ++ eight big 20 0
    ++ four big maxchunks 0
    ++ eight big 0 high
    ++ zeros 432

-- 512 bytes of rank 1 from 1536 on, and 1 byte at 2048
abbrev pub chunks1 : List ℕ
chunks1 = replicate 512 11 ++ (21 ∷ nines 511)

-- 2,585 bytes before the close; 2,584 bytes after it, where maxchunks is 2, start_of_varheader is 2560, and META2 holds 2, 512, 1
abbrev pub open1 : Bool → List ℕ
open1 big = first1 big 0 0 ++ chunks1 ++ nines 25

abbrev pub file1 : Bool → List ℕ
file1 big = first1 big 2 10 ++ chunks1 ++ (eight big 2 0 ++ eight big 0 2 ++ eight big 1 0)

-- ---- the pair after its requests, written down: what opening and the requests must hand back

abbrev pub head0 : Bool → Head
head0 big = head_of (order_of big) (pos 1) (pos 7) 3 512 2 2 0

abbrev pub head1 : Bool → Head
head1 big = head_of (order_of big) (pos 1) (pos 7) 3 512 1 2 1

-- ranks, sizes and counts, each filled up with zeros
abbrev pub lists0 : ℕ → ℕ → List ℕ
lists0 a b = (2 ∷ 0 ∷ zeros 62) ++ (500 ∷ 600 ∷ zeros 62) ++ (a ∷ b ∷ zeros 62)

abbrev pub lists1 : ℕ → List ℕ
lists1 a = (1 ∷ zeros 63) ++ (20 ∷ zeros 63) ++ (a ∷ zeros 63)

abbrev pub cells0 : List ℤ
cells0 = pos 500 ∷ pos 1024 ∷ pos 13 ∷ negsuc 0 ∷ []

abbrev pub cells1 : List ℤ
cells1 = pos 512 ∷ pos 1 ∷ []

abbrev pub done0 : Bool → State
done0 big = state_of First (session_of (head0 big) 3 0) (lists0 2 1) (open0 big) (cells0 ++ (negsuc 0 ∷ negsuc 0 ∷ pos 9 ∷ []))

abbrev pub done1 : Bool → State
done1 big = state_of Second (session_of (head1 big) 2 0) (lists1 2) (open1 big) (cells1 ++ (pos 9 ∷ []))

abbrev pub done : Bool → Bool → Sessions.Pair
done big big' = Sessions.pair_of (done0 big) (done1 big')

-- and as opening must hand it back, over nines
abbrev pub fresh : Bool → Bool → Sessions.Pair
fresh big big' =
    Sessions.pair_of (state_of First (session_of (head0 big) 3 0) (lists0 0 0) (first0 big 0 0 ++ nines 4701) (replicate 6 (negsuc 0) ++ (pos 9 ∷ [])))
    (state_of Second (session_of (head1 big') 2 0) (lists1 0) (first1 big' 0 0 ++ nines 1049) (replicate 2 (negsuc 0) ++ (pos 9 ∷ [])))

-- a pair of sessions as numbers: both records, both tables, both images
abbrev pub shown_of : Sessions.Pair → List ℤ
shown_of p =
    record_of p.first.session.head p.first.session.planned p.first.session.closed p.first.lists
    ++ record_of p.second.session.head p.second.session.planned p.second.session.closed p.second.lists
    ++ p.first.table
    ++ p.second.table
    ++ map pos (p.first.image ++ p.second.image)

abbrev pub written_row : Bool → Bool → Row
written_row big big' = record { computed = shown_of (written (order_of big) (order_of big')); stated = shown_of (done big big') }

-- what closing answers: the refusal, both lengths, both marks; then both images whole
abbrev pub closed_of : Sessions.Pair → List ℕ
closed_of p =
    let a = Sessions.pair_closed p in
    let images = Sessions.pair_close_images p in
    a.refusal ∷ a.length0 ∷ a.length1 ∷ a.session0.closed ∷ a.session1.closed ∷ images.0 ++ images.1

abbrev pub closed_row : Bool → Bool → Row
closed_row big big' =
    row (closed_of (done big big'))
    (0 ∷ 4684 ∷ 2584 ∷ 1 ∷ 1 ∷ (file0 big ++ nines 1553) ++ (file1 big' ++ nines 1))

-- file 0 in little order, closed within a budget of byte stores: META1's last two fields, the first byte of META2's last number, the first byte of
-- the mapping, its last, and the byte after it
abbrev pub closing_parts0 : ℕ → List ℕ
closing_parts0 b =
    let image = (Sessions.pair_close_found (done false false) b 0).0 in
    take 12 (drop 1108 image) ++ take 1 (drop 4648 image) ++ take 1 (drop 4656 image) ++ take 2 (drop 4683 image)

-- file 1 so: META1's last two fields, the first byte of META2, its last, and the byte after it
abbrev pub closing_parts1 : ℕ → List ℕ
closing_parts1 b =
    let image = (Sessions.pair_close_found (done false false) 0 b).1 in
    take 12 (drop 1092 image) ++ take 1 (drop 2560 image) ++ take 2 (drop 2583 image)

-- one write within budgets: three bytes of both images from 1536 on, and the first cell of both tables
abbrev pub cut_write : Request → ℕ → ℕ → List ℤ
cut_write q b b' =
    let p = Sessions.pair_write_found (fresh false false) q b b' in
    map pos (take 3 (drop 1536 p.first.image) ++ take 3 (drop 1536 p.second.image)) ++ (take 1 p.first.table ++ take 1 p.second.table)

-- ---- what the written images hold at these places

abbrev pub bytes_at : List ℕ → List ℕ → List ℕ
bytes_at image = map (λ (at : ℕ). get_or image at 0)

-- ---- loaded: from the images above, with one cell more than needed, of nines

-- the refusal, and both records with their tables
abbrev pub load_shown : Bool → Bool → List ℤ
load_shown big big' =
    let a = pair_loaded (file0 big) (file1 big') (nines_in 5) (nines_in 3) in
    let tables = pair_load_tables (file0 big) (file1 big') (nines_in 5) (nines_in 3) in
    pos a.refusal
    ∷ record_of a.loaded0.head a.loaded0.maxchunks a.loaded0.closed a.lists0
    ++ record_of a.loaded1.head a.loaded1.maxchunks a.loaded1.closed a.lists1
    ++ tables.0
    ++ tables.1

abbrev pub loaded_row : Bool → Bool → Row
loaded_row big big' =
    record {
      computed = load_shown big big';
      stated =
          pos 0
          ∷ record_of (head0 big) 2 0 (lists0 2 1)
          ++ record_of (head1 big') 2 0 (lists1 2)
          ++ (cells0 ++ (pos 9 ∷ []))
          ++ (cells1 ++ (pos 9 ∷ []));
    }

-- the same, written down, and as the load hands it back
abbrev pub done_loaded : Bool → Bool → Reads.LoadedPair
done_loaded big big' =
    Reads.loaded_pair (container_of First (loaded_of (head0 big) 2 0) (lists0 2 1) (file0 big) (cells0 ++ (pos 9 ∷ [])))
    (container_of Second (loaded_of (head1 big') 2 0) (lists1 2) (file1 big') (cells1 ++ (pos 9 ∷ [])))

abbrev pub from_load : Bool → Bool → Reads.LoadedPair
from_load big big' = Reads.pair_from (file0 big) (file1 big') (nines_in 5) (nines_in 3)

-- ---- read: totals by rank, and a chunk of a rank by the image that holds it, its start and its length

abbrev pub total : Reads.LoadedPair → ℕ → List ℕ
total p rank = let a = Reads.pair_total p rank in a.refusal ∷ a.bytes ∷ []

abbrev pub totals : Reads.LoadedPair → List ℕ
totals p = total p 0 ++ total p 1 ++ total p 2 ++ total p 3

abbrev pub part : Reads.LoadedPair → ℕ → ℕ → List ℕ
part p rank chunk = let a = Reads.pair_part p rank chunk in a.refusal ∷ a.file ∷ a.start ∷ a.length ∷ []

-- from a place of a rank's stream into four bytes of 8: the refusal, how many are copied, and what they are then
abbrev pub read_of : Reads.LoadedPair → ℕ → ℕ → List ℕ
read_of p rank place =
    let a = Reads.pair_read_answer p rank place (replicate 4 8) in
    a.refusal ∷ a.bytes ∷ Reads.pair_read_output p rank place (replicate 4 8)

abbrev pub reads : Reads.LoadedPair → List ℕ
reads p =
    totals p
    ++ (part p 2 1 ++ part p 2 2 ++ part p 0 1 ++ part p 1 1 ++ part p 1 2)
    ++ (part p 1 3 ++ part p 0 2 ++ part p 2 0 ++ part p 3 1)
    ++ (Reads.pair_chunk p 2 2 ++ Reads.pair_chunk p 1 2 ++ Reads.pair_chunk p 0 2)
    ++ (read_of p 2 498 ++ read_of p 1 511 ++ read_of p 0 1024 ++ read_of p 0 1025 ++ read_of p 1 514 ++ read_of p 3 0)

abbrev pub reads_row : Reads.LoadedPair → Row
reads_row p =
    row (reads p)
    ((0 ∷ 1024 ∷ 0 ∷ 513 ∷ 0 ∷ 513 ∷ 14 ∷ 0 ∷ [])
    ++ ((0 ∷ 0 ∷ 1536 ∷ 500 ∷ [])
    ++ (0 ∷ 0 ∷ 3072 ∷ 13 ∷ [])
    ++ (0 ∷ 0 ∷ 2048 ∷ 1024 ∷ [])
    ++ (0 ∷ 1 ∷ 1536 ∷ 512 ∷ [])
    ++ (0 ∷ 1 ∷ 2048 ∷ 1 ∷ []))
    ++ ((22 ∷ 0 ∷ 0 ∷ 0 ∷ []) ++ (22 ∷ 0 ∷ 0 ∷ 0 ∷ []) ++ (22 ∷ 0 ∷ 0 ∷ 0 ∷ []) ++ (14 ∷ 0 ∷ 0 ∷ 0 ∷ []))
    ++ (replicate 13 22 ++ (21 ∷ []))
    ++ ((0 ∷ 4 ∷ 12 ∷ 12 ∷ 22 ∷ 22 ∷ [])
    ++ (0 ∷ 2 ∷ 11 ∷ 21 ∷ 8 ∷ 8 ∷ [])
    ++ (0 ∷ 0 ∷ 8 ∷ 8 ∷ 8 ∷ 8 ∷ [])
    ++ (23 ∷ 0 ∷ 8 ∷ 8 ∷ 8 ∷ 8 ∷ [])
    ++ (23 ∷ 0 ∷ 8 ∷ 8 ∷ 8 ∷ 8 ∷ [])
    ++ (14 ∷ 0 ∷ 8 ∷ 8 ∷ 8 ∷ 8 ∷ [])))

-- opening
unfoldable pub opening_table : List Row
opening_table =
    -- file 0: 1536 + 3·1536 + 16·4 bytes and the mapping's 4 + 8·3; file 1: 1536 + 2·512 + 8·3 bytes
    row needs (0 ∷ 6236 ∷ 6 ∷ 2584 ∷ 2 ∷ [])
    -- just so much; a byte or a cell fewer in file 0, and in file 1
    ∷ row
    (lent 6236 6 2584 2 ∷ lent 6235 6 2584 2 ∷ lent 6236 5 2584 2 ∷ lent 6236 6 2583 2 ∷ lent 6236 6 2584 1 ∷ [])
    (0 ∷ 18 ∷ 18 ∷ 18 ∷ 18 ∷ [])
    -- where META1 ends, D and G; then where the chunks start, of rank 2, rank 0 and rank 1
    ∷ row (layout_of 2 sizes0 ++ layout_of 1 (20 ∷ [])) (1120 ∷ 1536 ∷ 1536 ∷ 1104 ∷ 1536 ∷ 512 ∷ [])
    ∷ row
    (starts_of 2 sizes0 1 (1 ∷ 2 ∷ 3 ∷ []) ++ starts_of 2 sizes0 2 (1 ∷ 2 ∷ 3 ∷ []) ++ starts_of 1 (20 ∷ []) 1 (1 ∷ 2 ∷ []))
    ((1536 ∷ 3072 ∷ 4608 ∷ []) ++ (2048 ∷ 3584 ∷ 5120 ∷ []) ++ (1536 ∷ 2048 ∷ []))
    -- what an opening hands back
    ∷ record { computed = shown_of (opened_pair 0 1); stated = shown_of (fresh false true) }
    -- its stores, in each file 1,537: of the mark's first byte twice, and of each other byte before D once
    ∷ row
    (byte_stores (open_stores (opening0 0) (nines 6237) (nines_in 7)) ∷ byte_stores (open_stores (opening1 0) (nines 2585) (nines_in 3)) ∷ [])
    (1537 ∷ 1537 ∷ [])
    ∷ row (opening_edges 1536 1535) ((0 ∷ 105 ∷ []) ++ (0 ∷ 9 ∷ []) ++ (0 ∷ 105 ∷ []) ++ (9 ∷ 9 ∷ []))
    ∷ row (opening_edges 1537 0) ((115 ∷ 105 ∷ []) ++ (0 ∷ 9 ∷ []) ++ (9 ∷ 9 ∷ []) ++ (9 ∷ 9 ∷ []))
    ∷ row (opening_edges 1 1537) ((0 ∷ 9 ∷ []) ++ (9 ∷ 9 ∷ []) ++ (115 ∷ 105 ∷ []) ++ (0 ∷ 9 ∷ []))
    ∷ []

-- requests and closing
unfoldable pub closing_table : List Row
closing_table =
    row (Sessions.pair_refusals (opened_pair 0 1) (accepted ++ further))
    ((0 ∷ 0 ∷ 0 ∷ 0 ∷ 0 ∷ []) ++ (15 ∷ 15 ∷ 16 ∷ 14 ∷ 14 ∷ 0 ∷ []))
    -- file 0: rank 2 from 1536 up to 2036, rank 0 from 2048 up to 3072, rank 2 again from 3072 up to 3085
    ∷ row
    (bytes_at (written 0 1).first.image
    (1535 ∷ 1536 ∷ 2035 ∷ 2036 ∷ 2047 ∷ 2048 ∷ 3071 ∷ 3072 ∷ 3084 ∷ 3085 ∷ 3584 ∷ 4608 ∷ []))
    (0 ∷ 12 ∷ 12 ∷ 9 ∷ 9 ∷ 10 ∷ 10 ∷ 22 ∷ 22 ∷ 9 ∷ 9 ∷ 9 ∷ [])
    -- file 1: rank 1 from 1536 up to 2048, and there one byte
    ∷ row (bytes_at (written 0 1).second.image (1535 ∷ 1536 ∷ 2047 ∷ 2048 ∷ 2049 ∷ 2560 ∷ [])) (0 ∷ 11 ∷ 11 ∷ 21 ∷ 9 ∷ 9 ∷ [])
    -- both records, both tables and both images whole
    ∷ written_row false true
    ∷ written_row true false
    -- the budget of file 0 is spent by rank 2, that of file 1 by rank 1
    ∷ record { computed = cut_write (by 2 500 12) 2 0; stated = map pos ((12 ∷ 12 ∷ 9 ∷ []) ++ (9 ∷ 9 ∷ 9 ∷ [])) ++ (pos 500 ∷ negsuc 0 ∷ []) }
    ∷ record { computed = cut_write (by 1 512 11) 0 1; stated = map pos ((9 ∷ 9 ∷ 9 ∷ []) ++ (11 ∷ 9 ∷ 9 ∷ [])) ++ (negsuc 0 ∷ pos 512 ∷ []) }
    -- both images whole, in all four pairs of byte orders
    ∷ closed_row false false
    ∷ closed_row true true
    ∷ closed_row false true
    ∷ closed_row true false
    -- closing makes 48 + 28 + 12 stores in file 0, and 24 + 12 in file 1
    ∷ row
    (byte_stores (Sessions.first_stores (done false false)) ∷ byte_stores (Sessions.second_stores (done false false)) ∷ [])
    (88 ∷ 36 ∷ [])
    -- META2 of file 0, then the mapping, then maxchunks, then start_of_varheader
    ∷ row (closing_parts0 0 ++ closing_parts0 40) ((zeros 12 ++ (9 ∷ 9 ∷ 9 ∷ 9 ∷ [])) ++ (zeros 12 ++ (9 ∷ 9 ∷ 9 ∷ 9 ∷ [])))
    ∷ row (closing_parts0 48 ++ closing_parts0 49) ((zeros 12 ++ (255 ∷ 9 ∷ 9 ∷ 9 ∷ [])) ++ (zeros 12 ++ (255 ∷ 3 ∷ 9 ∷ 9 ∷ [])))
    ∷ row (closing_parts0 75 ++ closing_parts0 76) ((zeros 12 ++ (255 ∷ 3 ∷ 9 ∷ 9 ∷ [])) ++ (zeros 12 ++ (255 ∷ 3 ∷ 0 ∷ 9 ∷ [])))
    ∷ row
    (closing_parts0 77 ++ closing_parts0 81 ++ closing_parts0 82)
    ((2 ∷ zeros 11 ++ (255 ∷ 3 ∷ 0 ∷ 9 ∷ []))
    ++ (2 ∷ zeros 11 ++ (255 ∷ 3 ∷ 0 ∷ 9 ∷ []))
    ++ (2 ∷ zeros 4 ++ (18 ∷ zeros 6) ++ (255 ∷ 3 ∷ 0 ∷ 9 ∷ [])))
    -- file 1: no mapping follows its META2
    ∷ row
    (closing_parts1 0 ++ closing_parts1 23 ++ closing_parts1 24)
    ((zeros 12 ++ (9 ∷ 9 ∷ 9 ∷ [])) ++ (zeros 12 ++ (2 ∷ 9 ∷ 9 ∷ [])) ++ (zeros 12 ++ (2 ∷ 0 ∷ 9 ∷ [])))
    ∷ row
    (closing_parts1 25 ++ closing_parts1 29 ++ closing_parts1 30)
    ((2 ∷ zeros 11 ++ (2 ∷ 0 ∷ 9 ∷ [])) ++ (2 ∷ zeros 11 ++ (2 ∷ 0 ∷ 9 ∷ [])) ++ (2 ∷ zeros 4 ++ (10 ∷ zeros 6) ++ (2 ∷ 0 ∷ 9 ∷ [])))
    ∷ []

-- loading, in all four pairs of byte orders, and reading
unfoldable pub reading_table : List Row
reading_table =
    loaded_row false false
    ∷ loaded_row true true
    ∷ loaded_row false true
    ∷ loaded_row true false
    ∷ reads_row (done_loaded false true)
    ∷ row (totals (from_load true false)) (0 ∷ 1024 ∷ 0 ∷ 513 ∷ 0 ∷ 513 ∷ 14 ∷ 0 ∷ [])
    ∷ []
