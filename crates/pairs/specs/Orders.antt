-- Document 02, W-204, the orders of tests of a pair, row by row: each input fails one test and the next one too, and has one fault fewer than the
-- input before it. Then which ranks a pair may have, 17 for records that do not suit the call, and what refused calls leave. That the rules compute
-- these numbers is proved in proofs/Orders.antt.
use Rattle.std.specs.Prelude.{false, List, [], ◌∷◌, ◌++◌, map, ℕ, ℤ, pos, negsuc, length, replicate}
use Rattle.format.specs.declared.head.Head.{Head}
use Rattle.format.specs.declared.head.File.{File}
use Rattle.format.specs.declared.head.File.TheVariants.{First, Second}
use Rattle.format.specs.Record.{entry, lists_of, head_of}
use Rattle.format.specs.Session.{state_of, session_of}
use Rattle.format.specs.Open.{Opening, opening_of}
use Rattle.format.specs.Loaded.{loaded_of}
use Rattle.format.specs.Reads.{container_of}
use Rattle.format.specs.Numbers.{Row, row, record_of, zeros_marked}
use Rattle.pairs.specs.Open.{pair_needs, pair_open_refusal, pair_opened, pair_found, pair_images, pair_tables}
use Rattle.pairs.specs.Sessions
use Rattle.pairs.specs.Reads
use Rattle.pairs.specs.Numbers.{opening0, opening1, by, nines, nines_in, head0, head1, lists0, lists1, shown_of}

-- ---- opening: an order, a format, a blocksize, ranks, sizes, how many bytes of a prefix, and K

abbrev pub opening_at : File → ℕ → ℕ → ℕ → List ℕ → List ℕ → ℕ → ℕ → Opening
opening_at file order format blocksize ranks sizes prefix planned =
    opening_of file (record { order = order; version = pos 1; patch = pos 7; format = format; blocksize = blocksize; planned = planned }) ranks sizes
    (replicate prefix 97)

-- with all of 2, 4, 5, 6, 21, 8, 9 and 20, then with one fewer, and at last with none and these ranks
abbrev pub stairs : File → List ℕ → List Opening
stairs file ranks =
    opening_at file 2 5 768 (3 ∷ 3 ∷ []) (0 ∷ []) 1025 33
    ∷ opening_at file 0 5 768 (3 ∷ 3 ∷ []) (0 ∷ []) 1025 33
    ∷ opening_at file 0 3 768 (3 ∷ 3 ∷ []) (0 ∷ []) 1025 33
    ∷ opening_at file 0 3 512 (3 ∷ 3 ∷ []) (0 ∷ []) 1025 33
    ∷ opening_at file 0 3 512 (3 ∷ 3 ∷ []) (0 ∷ 600 ∷ []) 1025 33
    ∷ opening_at file 0 3 512 (3 ∷ 3 ∷ []) (0 ∷ 600 ∷ []) 1024 33
    ∷ opening_at file 0 3 512 (3 ∷ 4 ∷ []) (0 ∷ 600 ∷ []) 1024 33
    ∷ opening_at file 0 3 512 (3 ∷ 4 ∷ []) (500 ∷ 600 ∷ []) 1024 33
    ∷ opening_at file 0 3 512 ranks (500 ∷ 600 ∷ []) 1024 3
    ∷ []

-- with none, and file 1 with all
abbrev pub fine : File → List ℕ → Opening
fine file ranks = opening_at file 0 3 512 ranks (500 ∷ 600 ∷ []) 1024 3

abbrev pub worst1 : Opening
worst1 = opening_at Second 2 5 768 (3 ∷ 3 ∷ []) (0 ∷ []) 1025 33

-- two tasks in each file, lent so many bytes and cells
abbrev pub lent_two : ℕ → ℕ → ℕ → ℕ → ℕ
lent_two = pair_open_refusal (fine First (2 ∷ 0 ∷ [])) (fine Second (1 ∷ 3 ∷ []))

-- what an opening with these ranks needs: the refusal, and the bytes of file 0
abbrev pub ranked : List ℕ → List ℕ → List ℕ
ranked ranks ranks' =
    let o = opening_at First 0 3 512 ranks (replicate (length ranks) 1) 0 1 in
    let o' = opening_at Second 0 3 512 ranks' (replicate (length ranks') 1) 0 1 in
    (pair_needs o o').refusal ∷ (pair_needs o o').image0 ∷ []

-- ---- the worked pair's records after its requests: for each file its mark, the bytes of its image, its table

abbrev pub sessions_at : ℕ → ℕ → List ℤ → ℕ → ℕ → List ℤ → Sessions.Pair
sessions_at closed bytes table closed' bytes' table' =
    Sessions.pair_of (state_of First (session_of (head0 false) 3 closed) (lists0 2 1) (replicate bytes 0) table)
    (state_of Second (session_of (head1 false) 2 closed') (lists1 2) (replicate bytes' 0) table')

abbrev pub loaded_at : ℕ → ℕ → List ℤ → ℕ → ℕ → List ℤ → Reads.LoadedPair
loaded_at closed bytes table closed' bytes' table' =
    Reads.loaded_pair (container_of First (loaded_of (head0 false) 2 closed) (lists0 2 1) (replicate bytes 0) table)
    (container_of Second (loaded_of (head1 false) 2 closed') (lists1 2) (replicate bytes' 0) table')

-- the cells of both files, with another number for chunk 1: 513 is a byte more than it holds; and of file 0 those of all 3 planned blocks
abbrev pub cells0 : ℤ → List ℤ
cells0 first = first ∷ pos 1024 ∷ pos 13 ∷ negsuc 0 ∷ []

abbrev pub cells1 : ℤ → List ℤ
cells1 first = first ∷ pos 1 ∷ []

abbrev pub planned0 : ℤ → List ℤ
planned0 first = cells0 first ++ (negsuc 0 ∷ negsuc 0 ∷ [])

-- 17 of file 0, 17 of file 1, 18 of file 0 (image, table), 19 of file 0, 18 of file 1 (image, table), 19 of file 1, and none
abbrev pub session_stairs : List Sessions.Pair
session_stairs =
    sessions_at 1 6235 (planned0 (pos 513)) 1 2583 (cells1 (pos 513))
    ∷ sessions_at 0 6235 (planned0 (pos 513)) 1 2583 (cells1 (pos 513))
    ∷ sessions_at 0 6235 (planned0 (pos 513)) 0 2583 (cells1 (pos 513))
    ∷ sessions_at 0 6236 (cells0 (pos 513) ++ (negsuc 0 ∷ [])) 0 2583 (cells1 (pos 513))
    ∷ sessions_at 0 6236 (planned0 (pos 513)) 0 2583 (cells1 (pos 513))
    ∷ sessions_at 0 6236 (planned0 (pos 500)) 0 2583 (cells1 (pos 513))
    ∷ sessions_at 0 6236 (planned0 (pos 500)) 0 2584 (pos 513 ∷ [])
    ∷ sessions_at 0 6236 (planned0 (pos 500)) 0 2584 (cells1 (pos 513))
    ∷ sessions_at 0 6236 (planned0 (pos 500)) 0 2584 (cells1 (pos 512))
    ∷ []

-- the same of loaded records, whose 18 does not count the mapping: META2 of file 0 ends at 4656
abbrev pub loaded_stairs : List Reads.LoadedPair
loaded_stairs =
    loaded_at 1 4655 (cells0 (pos 513)) 1 2583 (cells1 (pos 513))
    ∷ loaded_at 0 4655 (cells0 (pos 513)) 1 2583 (cells1 (pos 513))
    ∷ loaded_at 0 4655 (cells0 (pos 513)) 0 2583 (cells1 (pos 513))
    ∷ loaded_at 0 4656 (pos 513 ∷ pos 1024 ∷ pos 13 ∷ []) 0 2583 (cells1 (pos 513))
    ∷ loaded_at 0 4656 (cells0 (pos 513)) 0 2583 (cells1 (pos 513))
    ∷ loaded_at 0 4656 (cells0 (pos 500)) 0 2583 (cells1 (pos 513))
    ∷ loaded_at 0 4656 (cells0 (pos 500)) 0 2584 (pos 513 ∷ [])
    ∷ loaded_at 0 4656 (cells0 (pos 500)) 0 2584 (cells1 (pos 513))
    ∷ loaded_at 0 4656 (cells0 (pos 500)) 0 2584 (cells1 (pos 512))
    ∷ []

abbrev pub fine_sessions : Sessions.Pair
fine_sessions = sessions_at 0 6236 (planned0 (pos 500)) 0 2584 (cells1 (pos 512))

abbrev pub fine_loaded : Reads.LoadedPair
fine_loaded = loaded_at 0 4656 (cells0 (pos 500)) 0 2584 (cells1 (pos 512))

-- a write by a rank of so many bytes
abbrev pub write : ℕ → ℕ → Sessions.Pair → ℕ
write rank bytes p = Sessions.pair_write_refusal p (by rank bytes 7)

abbrev pub close : Sessions.Pair → ℕ
close p = (Sessions.pair_closed p).refusal

-- a rank's total, a chunk of it, and a read from a place of its stream
abbrev pub total : ℕ → Reads.LoadedPair → ℕ
total rank p = (Reads.pair_total p rank).refusal

abbrev pub chunk : ℕ → ℕ → Reads.LoadedPair → ℕ
chunk rank number p = Reads.pair_chunk_refusal p rank number

abbrev pub read_at : ℕ → ℕ → Reads.LoadedPair → ℕ
read_at rank place p = Reads.pair_read_refusal p rank place

-- ---- what test 17 judges: nfiles, filenumber and ranks of each record, in a write, a close and a total; a sound pair with no image is refused with
-- 18

abbrev pub head_at : ℕ → ℕ → ℕ → Head
head_at n files file = head_of 0 (pos 1) (pos 7) 3 512 n files file

abbrev pub judged : ℕ → ℕ → List ℕ → ℕ → ℕ → List ℕ → List ℕ
judged files file ranks files' file' ranks' =
    let h = head_at (length ranks) files file in
    let h' = head_at (length ranks') files' file' in
    let lists = lists_of (length ranks) (entry ranks) (λ i. 500) (λ i. 1) in
    let lists' = lists_of (length ranks') (entry ranks') (λ i. 500) (λ i. 1) in
    let p = Sessions.pair_of (state_of First (session_of h 1 0) lists [] []) (state_of Second (session_of h' 1 0) lists' [] []) in
    let l = Reads.loaded_pair (container_of First (loaded_of h 1 0) lists [] []) (container_of Second (loaded_of h' 1 0) lists' [] []) in
    write 0 1 p ∷ close p ∷ total 0 l ∷ []

-- ---- what refused calls leave where each file alone has all that it needs, and only the mapping's room lacks a byte

-- an opening over nines: both records, both images, within budgets too, and both tables
abbrev pub refused_opening : List ℤ
refused_opening =
    let a = pair_opened (opening0 0) (opening1 0) (nines 6235) (nines_in 6) (nines 2584) (nines_in 2) in
    let images = pair_images (opening0 0) (opening1 0) (nines 6235) (nines_in 6) (nines 2584) (nines_in 2) in
    let cut = pair_found (opening0 0) (opening1 0) (nines 6235) (nines_in 6) (nines 2584) (nines_in 2) 1 1 in
    let tables = pair_tables (opening0 0) (opening1 0) (nines 6235) (nines_in 6) (nines 2584) (nines_in 2) in
    (pos a.refusal ∷ [])
    ++ record_of a.session0.head a.session0.planned a.session0.closed a.lists0
    ++ record_of a.session1.head a.session1.planned a.session1.closed a.lists1
    ++ map pos (images.0 ++ images.1 ++ cut.0 ++ cut.1)
    ++ (tables.0 ++ tables.1)

abbrev pub short : Sessions.Pair
short = sessions_at 0 6235 (planned0 (pos 500)) 0 2584 (cells1 (pos 512))

-- a close of that: the refusal, both lengths, the records' chunks and marks, and both images
abbrev pub refused_close : List ℕ
refused_close =
    let a = Sessions.pair_closed short in
    let images = Sessions.pair_close_images short in
    let cut = Sessions.pair_close_found short 9 9 in
    (a.refusal ∷ a.length0 ∷ a.length1 ∷ a.session0.planned ∷ a.session0.closed ∷ a.session1.planned ∷ a.session1.closed ∷ [])
    ++ (images.0 ++ images.1 ++ cut.0 ++ cut.1)

unfoldable pub order_table : List Row
order_table =
    -- opening: "tests file 0 up to 20", which file 1's 2 follows, "then file 1 so; then each rank from 0 up must come exactly once over both lists,
    -- else 8"
    row (map (λ (o : Opening). pair_open_refusal o worst1 0 0 0 0) (stairs First (2 ∷ 0 ∷ []))) (2 ∷ 4 ∷ 5 ∷ 6 ∷ 21 ∷ 8 ∷ 9 ∷ 20 ∷ 2 ∷ [])
    ∷ row
    (map (λ (o : Opening). pair_open_refusal (fine First (2 ∷ 0 ∷ [])) o 0 0 0 0) (stairs Second (1 ∷ 2 ∷ [])))
    (2 ∷ 4 ∷ 5 ∷ 6 ∷ 21 ∷ 8 ∷ 9 ∷ 20 ∷ 8 ∷ [])
    -- "then 18 for file 0, then file 1": 6,208 bytes in each file, and 36 for the mapping
    ∷ row
    (lent_two 6243 6 6207 5 ∷ lent_two 6244 5 6207 5 ∷ lent_two 6244 6 6207 5 ∷ lent_two 6244 6 6208 5 ∷ lent_two 6244 6 6208 6 ∷ [])
    (18 ∷ 18 ∷ 18 ∷ 18 ∷ 0 ∷ [])
    -- which ranks: those below 3 each once, and none twice, lacking or over; file 0 needs 1536 + n·512 + 16·n bytes and 4 + 8·(n + m)
    ∷ row (ranked (2 ∷ 0 ∷ []) (1 ∷ []) ++ ranked (0 ∷ 1 ∷ []) (2 ∷ [])) (0 ∷ 2620 ∷ 0 ∷ 2620 ∷ [])
    ∷ row (ranked (1 ∷ []) (0 ∷ []) ++ ranked (1 ∷ []) (2 ∷ 0 ∷ [])) (0 ∷ 2084 ∷ 0 ∷ 2092 ∷ [])
    ∷ row (ranked (2 ∷ 0 ∷ []) (2 ∷ []) ++ ranked (2 ∷ 0 ∷ []) (3 ∷ []) ++ ranked (2 ∷ 0 ∷ []) (0 ∷ [])) (8 ∷ 0 ∷ 8 ∷ 0 ∷ 8 ∷ 0 ∷ [])
    ∷ row (ranked (1 ∷ []) (2 ∷ []) ++ ranked (0 ∷ []) (0 ∷ []) ++ ranked (0 ∷ []) (2 ∷ [])) (8 ∷ 0 ∷ 8 ∷ 0 ∷ 8 ∷ 0 ∷ [])
    -- a write: "17 for file 0, then for file 1, then 18, 19 for file 0, then for file 1; then 14", also where there is no byte
    ∷ row (map (write 3 1025) session_stairs) (17 ∷ 17 ∷ 18 ∷ 18 ∷ 19 ∷ 18 ∷ 18 ∷ 19 ∷ 14 ∷ [])
    ∷ row (map (write 3 0) session_stairs) (17 ∷ 17 ∷ 18 ∷ 18 ∷ 19 ∷ 18 ∷ 18 ∷ 19 ∷ 14 ∷ [])
    -- then "empty accepted, 15, 16" by the file that has the rank: rank 0 holds 1,024 bytes a chunk; 511 are left to rank 1, whose K is 2; rank 2 has
    -- another chunk, as its K is 3
    ∷ row
    (write 0 0 fine_sessions
    ∷ write 0 1025 fine_sessions
    ∷ write 0 1024 fine_sessions
    ∷ write 1 513 fine_sessions
    ∷ write 1 512 fine_sessions
    ∷ write 1 511 fine_sessions
    ∷ write 2 513 fine_sessions
    ∷ write 2 512 fine_sessions
    ∷ [])
    (0 ∷ 15 ∷ 0 ∷ 15 ∷ 16 ∷ 0 ∷ 15 ∷ 0 ∷ [])
    -- a close
    ∷ row (map close session_stairs) (17 ∷ 17 ∷ 18 ∷ 18 ∷ 19 ∷ 18 ∷ 18 ∷ 19 ∷ 0 ∷ [])
    -- the reads
    ∷ row (map (total 3) loaded_stairs) (17 ∷ 17 ∷ 18 ∷ 18 ∷ 19 ∷ 18 ∷ 18 ∷ 19 ∷ 14 ∷ [])
    ∷ row (map (chunk 3 9) loaded_stairs) (17 ∷ 17 ∷ 18 ∷ 18 ∷ 19 ∷ 18 ∷ 18 ∷ 19 ∷ 14 ∷ [])
    ∷ row (map (read_at 3 9999) loaded_stairs) (17 ∷ 17 ∷ 18 ∷ 18 ∷ 19 ∷ 18 ∷ 18 ∷ 19 ∷ 14 ∷ [])
    ∷ row
    (total 2 fine_loaded ∷ chunk 1 3 fine_loaded ∷ chunk 1 2 fine_loaded ∷ read_at 0 1025 fine_loaded ∷ read_at 0 1024 fine_loaded ∷ [])
    (0 ∷ 22 ∷ 0 ∷ 23 ∷ 0 ∷ [])
    -- each file's mark alone
    ∷ row
    (write 0 1 (sessions_at 1 6236 (planned0 (pos 500)) 0 2584 (cells1 (pos 512)))
    ∷ write 0 1 (sessions_at 0 6236 (planned0 (pos 500)) 1 2584 (cells1 (pos 512)))
    ∷ total 0 (loaded_at 1 4656 (cells0 (pos 500)) 0 2584 (cells1 (pos 512)))
    ∷ total 0 (loaded_at 0 4656 (cells0 (pos 500)) 1 2584 (cells1 (pos 512)))
    ∷ [])
    (17 ∷ 17 ∷ 17 ∷ 17 ∷ [])
    ∷ []

unfoldable pub sound_table : List Row
sound_table =
    -- sound
    row (judged 2 0 (2 ∷ 0 ∷ []) 2 1 (1 ∷ []) ++ judged 2 0 (0 ∷ 1 ∷ []) 2 1 (2 ∷ [])) (replicate 6 18)
    -- "17 also where they do not suit the call": a single file's record for file 0, for file 1; the records of both files in each other's place;
    -- file 0 twice, and file 1 twice
    ∷ row (judged 1 0 (2 ∷ 0 ∷ []) 2 1 (1 ∷ []) ++ judged 2 0 (2 ∷ 0 ∷ []) 1 0 (1 ∷ [])) (replicate 6 17)
    ∷ row (judged 2 1 (1 ∷ []) 2 0 (2 ∷ 0 ∷ [])) (replicate 3 17)
    ∷ row (judged 2 0 (2 ∷ 0 ∷ []) 2 0 (1 ∷ []) ++ judged 2 1 (2 ∷ 0 ∷ []) 2 1 (1 ∷ [])) (replicate 6 17)
    -- "or, judged with file 1, a pair lacks some rank below mapping_size": rank 1 is missing, as rank 3, 2 or 0 is there for it; rank 0 is
    -- missing, and rank 2
    ∷ row (judged 2 0 (2 ∷ 0 ∷ []) 2 1 (3 ∷ []) ++ judged 2 0 (2 ∷ 0 ∷ []) 2 1 (2 ∷ []) ++ judged 2 0 (2 ∷ 0 ∷ []) 2 1 (0 ∷ [])) (replicate 9 17)
    ∷ row (judged 2 0 (1 ∷ 2 ∷ []) 2 1 (3 ∷ []) ++ judged 2 0 (0 ∷ 1 ∷ []) 2 1 (3 ∷ [])) (replicate 6 17)
    -- refused calls: 6,235 and 2,584 bytes twice
    ∷ record { computed = refused_opening; stated = (pos 18 ∷ []) ++ zeros_marked ++ zeros_marked ++ nines_in 17638 ++ nines_in 8 }
    ∷ record { computed = shown_of (Sessions.pair_after_write short (by 1 1 7)); stated = shown_of short }
    ∷ record { computed = shown_of (Sessions.pair_write_found short (by 1 1 7) 9 9); stated = shown_of short }
    ∷ row refused_close ((18 ∷ 0 ∷ 0 ∷ 3 ∷ 0 ∷ 2 ∷ 0 ∷ []) ++ replicate 17638 0)
    ∷ []
