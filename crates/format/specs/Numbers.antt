-- Document 01, "Numbers to check by", with P11 to P13 as W-202 has them: each number of the papers beside what the rules compute. That the two
-- are the same is one statement for each of the two tables, proved in proofs/Numbers.antt.
use Rattle.std.specs.Prelude.{◌≡◌, Bool, true, false, cond, List, [], ◌∷◌, ◌++◌, map, ℕ, ◌+◌, ◌*◌, eqb, ℤ, pos, negsuc, length, get_or, take, replicate}
use Rattle.lists.specs.Below.{list_below}
use Rattle.endian.specs.Signed.{signed_at}
use Rattle.format.specs.declared.head.File.TheVariants.{Single}
use Rattle.format.specs.Layout.{meta1_end, data_start, extended, capacity, requested, globalskip, chunk_start, image_needed}
use Rattle.lists.specs.Splice.{splice}
use Rattle.format.specs.declared.head.Head.{Head}
use Rattle.format.specs.Meta1.{format_field, maxchunks_field, start_field, meta1}
use Rattle.format.specs.Meta2.{meta2}
use Rattle.format.specs.Refusals.{first_failing}
use Rattle.format.specs.Record.{entry, order_of, lists_of, head_of, cells_agree}
use Rattle.format.specs.Session.{State}
use Rattle.format.specs.Open.{Opening, needs_answer, open_refusal, open_answer, opened}
use Rattle.format.specs.Write.{Request, target, writes, refusals}
use Rattle.format.specs.Close.{close_answer, close_image}
use Rattle.format.specs.Judge.{meta2_tests}
use Rattle.format.specs.Load.{load_refusal, load_answer}
use Rattle.format.specs.Reads.{Container, chunk_refusal, chunk_part, part_answer, total_answer, read_refusal, read_answer, read_output, loaded_from}
use Rattle.format.specs.About.{chunk_size_answer, length_answer, prefix_answer}
use Rattle.format.specs.Tally.{Terms, terms_of, fed, Tallies, offset, initial, outcome_in, feed_all, answers, held}

-- a row: what the rules compute, and what the paper says
pub record Row : Type 0 where
  pub computed : List ℤ
  pub stated : List ℤ

abbrev pub row : List ℕ → List ℕ → Row
row computed stated = record { computed = map pos computed; stated = map pos stated }

-- every row of a table computes what the paper states
abbrev pub Agrees : List Row → Type 0
Agrees [] = Unit {0}
Agrees (r ∷ rows) = (r.computed ≡ r.stated) × Agrees rows

-- ---- sessions, run by the rules over an image and a table of zeros

-- an opening in a format, and in document 01's
abbrev pub plan_in : ℕ → ℕ → ℕ → List ℕ → ℕ → Opening
plan_in format order blocksize sizes planned =
    record {
      file = Single;
      plan = record { order = order; version = pos 1; patch = pos 7; format = format; blocksize = blocksize; planned = planned };
      ranks = list_below (length sizes) (λ i. i);
      sizes = sizes;
      prefix = [];
    }

abbrev pub plan : ℕ → ℕ → List ℕ → ℕ → Opening
plan = plan_in 3

abbrev pub opened_zeros : Opening → ℕ → ℕ → State
opened_zeros o imageLength cells = opened o (replicate imageLength 0) (replicate cells (pos 0))

-- a write of task 1: so many bytes of one value
abbrev pub write : ℕ → ℕ → Request
write bytes value = record { task = 1; bytes = replicate bytes value }

-- ---- "blocksize 512, sizes 500 and 600, K=3": after 300 and 200 bytes of task 1, and after 1 more

abbrev pub two : List ℕ
two = 500 ∷ 600 ∷ []

abbrev pub two_opened : ℕ → State
two_opened order = opened_zeros (plan order 512 two 3) 6208 6

abbrev pub two_first : List Request
two_first = write 300 1 ∷ write 200 2 ∷ []

abbrev pub two_last : Request
two_last = write 1 3

abbrev pub two_written : State
two_written = writes (two_opened 0) two_first

abbrev pub two_done : ℕ → State
two_done order = writes (two_opened order) (two_first ++ (two_last ∷ []))

abbrev pub two_plan : Terms
two_plan = terms_of (plan 0 512 two 3)

abbrev pub two_book : Tallies
two_book = feed_all two_plan initial (fed two_first)

-- and 12 bytes more, one over what is left: where the tally puts the first of them
abbrev pub two_moved : ℕ
two_moved =
    let book = feed_all two_plan initial (fed (two_first ++ (two_last ∷ []))) in
    offset two_plan 1 (outcome_in two_plan book (record { task = 1; L = 12 })) (book 1)

-- a session of two tasks closed, in a byte order: META1's last two fields, four numbers of META2, the length and the closed mark
abbrev pub closed_two : Bool → State → List ℤ
closed_two big done =
    let image = close_image done in
    maxchunks_field big image 2
    ∷ start_field big image 2
    ∷ list_below 4 (λ j. signed_at big 8 image (3072 + 8 * j))
    ++ (pos (close_answer done).length ∷ pos (close_answer done).session.closed ∷ [])

abbrev pub two_closed : Bool → List ℤ
two_closed big = closed_two big (two_done (order_of big))

abbrev pub two_stated : List ℤ
two_stated = pos 1 ∷ pos 3072 ∷ pos 1 ∷ pos 0 ∷ pos 501 ∷ negsuc 0 ∷ pos 3104 ∷ pos 1 ∷ []

-- ---- "Size 500, K=2", one task, with blocksize 512, and then of another size or in another format: requests of so many bytes, by the session's
-- rules and by the tally; at last twice the bytes held and one more, beside K·c

abbrev pub one_plan : ℕ → ℕ → Opening
one_plan format size = plan_in format 0 512 (size ∷ []) 2

abbrev pub one_answers_in : ℕ → ℕ → List ℕ → List ℕ
one_answers_in format size lengths =
    let requests = map (λ (L : ℕ). write L 7) lengths in
    let p = terms_of (one_plan format size) in
    let byTally = answers p initial (fed requests) in
    refusals (opened_zeros (one_plan format size) (image_needed 512 1 (λ i. size) 2) 2) requests
    ++ (byTally ++ (2 * (held 1 (fed requests) byTally + 1) ∷ p.K 1 * p.c 1 ∷ []))

abbrev pub one_answers : ℕ → List ℕ → List ℕ
one_answers = one_answers_in 3

-- P1 to P13, in order
unfoldable pub p_table : List Row
p_table =
    -- P1
    row (meta1_end 2 ∷ []) (1120 ∷ [])
    -- P2
    ∷ row (meta1_end 28 ∷ []) (1536 ∷ [])
    -- P3
    ∷ row (meta1_end 29 ∷ []) (1552 ∷ [])
    -- P4
    ∷ row (data_start 512 28 ∷ []) (1536 ∷ [])
    -- P5
    ∷ row (data_start 512 29 ∷ []) (2048 ∷ [])
    -- P6
    ∷ row (extended 512 512 ∷ []) (512 ∷ [])
    -- P7
    ∷ row (extended 512 513 ∷ []) (1024 ∷ [])
    -- P8
    ∷ row (data_start 512 2 ∷ globalskip 512 2 (entry two) ∷ []) (1536 ∷ 1536 ∷ [])
    -- P9
    ∷ row (chunk_start 512 2 (entry two) 1 1 ∷ chunk_start 512 2 (entry two) 2 1 ∷ []) (1536 ∷ 2048 ∷ [])
    -- P10
    ∷ row
    (chunk_start 512 2 (entry two) 1 3
    ∷ chunk_start 512 2 (entry two) 2 3
    ∷ image_needed 512 2 (entry two) 3
    ∷ open_refusal (plan 0 512 two 3) 6208 6
    ∷ open_refusal (plan 0 512 two 3) 6207 6
    ∷ [])
    (4608 ∷ 5120 ∷ 6208 ∷ 0 ∷ 18 ∷ [])
    -- P11, with the last byte's offset by the session's rule, the bytes there before and after, and its offset by the tally
    ∷ row
    (refusals (two_opened 0) (two_first ++ (two_last ∷ []))
    ++ (target two_written two_last
    ∷ get_or two_written.image 2036 0
    ∷ get_or (two_done 0).image 2036 0
    ∷ offset two_plan 1 (outcome_in two_plan two_book (record { task = 1; L = 1 })) (two_book 1)
    ∷ []))
    (0 ∷ 0 ∷ 0 ∷ 2036 ∷ 0 ∷ 3 ∷ 2036 ∷ [])
    -- P12
    ∷ record { computed = two_closed false ++ two_closed true; stated = two_stated ++ two_stated }
    -- P13: 1, 512 and 1, with a request of 513 at each moment
    ∷ row (one_answers 500 (513 ∷ 1 ∷ 513 ∷ 512 ∷ 513 ∷ 1 ∷ 513 ∷ []))
    (15 ∷ 0 ∷ 15 ∷ 0 ∷ 15 ∷ 16 ∷ 15 ∷ 15 ∷ 0 ∷ 15 ∷ 0 ∷ 15 ∷ 16 ∷ 15 ∷ 1028 ∷ 1024 ∷ [])
    ∷ []

-- ---- the numbers without a P, and the limits, with opening's answers, and containers loaded and read

abbrev pub with_blocksize : ℕ → ℕ
with_blocksize b = open_refusal (plan 0 b (500 ∷ []) 1) (8 * 4_194_304) 1

abbrev pub with_tasks : ℕ → ℕ
with_tasks n = open_refusal (plan 0 512 (replicate n 512) 1) 65_536 64

-- what an opening needs
abbrev pub needed : Opening → List ℕ
needed o = let a = needs_answer o in a.refusal ∷ a.image ∷ a.cells ∷ []

abbrev pub with_planned : ℕ → ℕ
with_planned k = open_refusal (plan 0 512 (500 ∷ []) k) 65_536 64

abbrev pub with_size : ℕ → ℕ
with_size c = open_refusal (plan 0 512 (c ∷ []) 1) (2 * 1_073_741_824) 1

abbrev pub with_ranks : List ℕ → ℕ
with_ranks ranks =
    let o = plan 0 512 (500 ∷ 500 ∷ []) 1 in
    open_refusal (record { file = o.file; plan = o.plan; ranks = ranks; sizes = o.sizes; prefix = o.prefix }) 65_536 2

-- ---- what a refusal hands back: the numbers of the record, then its lists

abbrev pub record_of : Head → ℕ → ℕ → List ℕ → List ℤ
record_of h chunks closed lists =
    (pos h.order ∷ h.version ∷ h.patch ∷ pos h.format ∷ pos h.blocksize ∷ pos h.n ∷ pos h.files ∷ pos h.file ∷ pos chunks ∷ pos closed ∷ [])
    ++ map pos lists

abbrev pub refused_load : List ℤ
refused_load = let a = load_answer Single [] [] in record_of a.loaded.head a.loaded.maxchunks a.loaded.closed a.lists

abbrev pub refused_opening : List ℤ
refused_opening =
    let a = open_answer (plan 2 512 two 3) [] [] in record_of a.session.head a.session.planned a.session.closed a.lists

abbrev pub zeros_marked : List ℤ
zeros_marked = map pos ((0 ∷ 0 ∷ 0 ∷ 0 ∷ 0 ∷ 0 ∷ 0 ∷ 0 ∷ 0 ∷ 1 ∷ []) ++ replicate 192 0)

-- ---- what a chunk holds, by a blocksize and a requested size: the number itself, then 13 of META2, 19's rule of the cells, and the tally's answer, of
-- just as many bytes and of one more

abbrev pub head_with : ℕ → Head
head_with b = head_of 0 (pos 1) (pos 7) 3 b 1 1 0

abbrev pub filled_by : ℕ → ℕ → ℕ → List ℕ
filled_by b size bytes =
    first_failing (meta2_tests (head_with b) (λ i. size) 1 0 (meta2 false 1 1 (λ i. 1) (λ j. pos bytes)))
    ∷ cond (cells_agree (head_with b) (lists_of 1 (λ i. 0) (λ i. size) (λ i. 1)) 1 (pos bytes ∷ [])) 0 19
    ∷ answers (terms_of (plan 0 b (size ∷ []) 1)) initial (record { task = 1; L = bytes } ∷ [])

abbrev pub held_by : ℕ → ℕ → List ℕ
held_by b size = let c = capacity b size in c ∷ filled_by b size c ++ filled_by b size (c + 1)

abbrev pub sized : ℕ → ℕ → List ℕ
sized size b = let a = chunk_size_answer size b in a.refusal ∷ a.bytes ∷ []

-- ---- a container's image, and what loading it hands back

abbrev pub two_image : ℕ → ℕ → List ℕ
two_image order bytes = take bytes (close_image (two_done order))

-- the container that the session of P12 gave while a chunk held its requested size only: the last byte at 3072, in chunk 2, and META2 at 4608
abbrev pub stored_two : ℕ → List ℕ
stored_two order =
    meta1 (head_of order (pos 1) (pos 7) 3 512 2 1 0) (λ i. i) (entry two) [] 2 4608
    ++ replicate 416 0
    ++ (replicate 300 1 ++ replicate 200 2 ++ replicate 1036 0)
    ++ (3 ∷ replicate 1535 0)
    ++ meta2 (eqb order 1) 2 2 (entry (2 ∷ 0 ∷ [])) (λ j. get_or (pos 500 ∷ negsuc 0 ∷ pos 1 ∷ negsuc 0 ∷ []) j (pos 0))

abbrev pub loaded_here : List ℕ → Container
loaded_here image = loaded_from Single image (replicate 4 (pos 0))

-- what it says: the refusal number, n, maxchunks and each task's total; then library version, patch level and fileformat_version, as the record has
-- it and as it stands
abbrev pub said : List ℕ → List ℤ
said image =
    let c = loaded_here image in
    map pos (
    load_refusal Single image 4
    ∷ c.loaded.head.n
    ∷ c.loaded.maxchunks
    ∷ (total_answer c 1).bytes
    ∷ (total_answer c 2).bytes
    ∷ [])
    ++ (c.loaded.head.version ∷ c.loaded.head.patch ∷ pos c.loaded.head.format ∷ format_field false image ∷ [])

-- the second chunk of task 1 and its place, no third one, the last two bytes of its stream into four bytes of 9, a place past its total, and no
-- third task
abbrev pub reads : Container → List ℕ
reads c =
    chunk_part c 1 2
    ++ ((part_answer c 1 2).start
    ∷ (part_answer c 1 2).length
    ∷ chunk_refusal c 1 3
    ∷ (read_answer c 1 499 (replicate 4 9)).bytes
    ∷ read_output c 1 499 (replicate 4 9)
    ++ (read_refusal c 1 502 ∷ read_refusal c 3 0 ∷ []))

-- its length and its prefix
abbrev pub whole : List ℕ → List ℕ
whole image =
    let c = loaded_here image in
    (length_answer c).refusal ∷ (length_answer c).bytes ∷ (prefix_answer c).refusal ∷ (prefix_answer c).start ∷ (prefix_answer c).length ∷ []

-- ---- the numbers of loading: a container of one task that wrote nothing, whole, cut short, and with one byte changed
abbrev pub smallest : List ℕ
smallest =
    meta1 (head_of 0 (pos 1) (pos 7) 3 512 1 1 0) (λ i. 0) (λ i. 1) [] 0 1536 ++ (replicate 432 0 ++ replicate 8 0)

abbrev pub cut_to : ℕ → ℕ
cut_to bytes = load_refusal Single (take bytes smallest) 0

abbrev pub changed : ℕ → ℕ → ℕ
changed at byte = load_refusal Single (splice smallest at (byte ∷ [])) 0

-- ---- the ends of what 4 bytes in little order and 8 bytes in big order hold
abbrev pub signed_ends : List ℕ
signed_ends =
    (255 ∷ 255 ∷ 255 ∷ 127 ∷ [])
    ++ (0 ∷ 0 ∷ 0 ∷ 128 ∷ [])
    ++ (127 ∷ replicate 7 255)
    ++ (128 ∷ replicate 7 0)

unfoldable pub other_table : List Row
other_table =
    row (map with_blocksize (512 ∷ 4_194_304 ∷ 256 ∷ 768 ∷ 8_388_608 ∷ [])) (0 ∷ 0 ∷ 5 ∷ 5 ∷ 5 ∷ [])
    ∷ row (map with_tasks (64 ∷ 0 ∷ 65 ∷ [])) (0 ∷ 6 ∷ 6 ∷ [])
    ∷ row (map with_planned (1 ∷ 32 ∷ 0 ∷ 33 ∷ [])) (0 ∷ 0 ∷ 20 ∷ 20 ∷ [])
    ∷ row (map with_size (1 ∷ 1_073_741_824 ∷ 0 ∷ 1_073_741_825 ∷ [])) (0 ∷ 0 ∷ 9 ∷ 9 ∷ [])
    ∷ row
    (with_ranks (0 ∷ 2_147_483_647 ∷ []) ∷ with_ranks (0 ∷ 2_147_483_648 ∷ []) ∷ with_ranks (3 ∷ 3 ∷ []) ∷ [])
    (0 ∷ 8 ∷ 8 ∷ [])
    ∷ row (needed (plan 0 512 two 3) ++ needed (plan 2 512 two 3)) (0 ∷ 6208 ∷ 6 ∷ 2 ∷ 0 ∷ 0 ∷ [])
    -- "A refused opening or load hands back a record of zeros marked closed"
    ∷ record { computed = refused_load; stated = zeros_marked }
    ∷ record { computed = refused_opening; stated = zeros_marked }
    -- P12's 3,104 bytes, and the 4,656 of the container that was stored before; with one byte fewer META2 does not fit
    ∷ record {
      computed = said (two_image 0 3104) ++ said (stored_two 0);
      stated =
          (pos 0 ∷ pos 2 ∷ pos 1 ∷ pos 501 ∷ pos 0 ∷ pos 1 ∷ pos 7 ∷ pos 3 ∷ pos 3 ∷ [])
          ++ (pos 0 ∷ pos 2 ∷ pos 2 ∷ pos 501 ∷ pos 0 ∷ pos 1 ∷ pos 7 ∷ pos 3 ∷ pos 3 ∷ []);
    }
    ∷ row
    (load_refusal Single (two_image 1 3103) 4 ∷ load_refusal Single (two_image 0 3104) 1 ∷ load_refusal Single (take 4655 (stored_two 1)) 4 ∷ load_refusal Single (stored_two 0) 3 ∷ [])
    (12 ∷ 18 ∷ 12 ∷ 18 ∷ [])
    -- what a chunk holds: of the least size, of one more and one less than a multiple of the blocksize, and of a multiple, which holds what it did
    ∷ row
    (held_by 512 1 ++ held_by 512 513 ++ held_by 512 1023 ++ held_by 512 1024)
    ((512 ∷ 0 ∷ 0 ∷ 0 ∷ 13 ∷ 19 ∷ 15 ∷ [])
    ++ (1024 ∷ 0 ∷ 0 ∷ 0 ∷ 13 ∷ 19 ∷ 15 ∷ [])
    ++ (1024 ∷ 0 ∷ 0 ∷ 0 ∷ 13 ∷ 19 ∷ 15 ∷ [])
    ++ (1024 ∷ 0 ∷ 0 ∷ 0 ∷ 13 ∷ 19 ∷ 15 ∷ []))
    -- and what it held before
    ∷ row (map (requested 512) (1 ∷ 500 ∷ 513 ∷ 1024 ∷ [])) (1 ∷ 500 ∷ 513 ∷ 1024 ∷ [])
    -- with the greatest blocksize: sizes 1 and 1,073,741,823
    ∷ row
    (held_by 4_194_304 1 ++ held_by 4_194_304 1_073_741_823)
    ((4_194_304 ∷ 0 ∷ 0 ∷ 0 ∷ 13 ∷ 19 ∷ 15 ∷ []) ++ (1_073_741_824 ∷ 0 ∷ 0 ∷ 0 ∷ 13 ∷ 19 ∷ 15 ∷ []))
    -- as an answer: of the least and the greatest size, of one past each, with a blocksize that is no power of two, and with both numbers wrong
    ∷ row
    (sized 1 512 ++ sized 1_073_741_824 4_194_304 ++ sized 0 512 ++ sized 1_073_741_825 512 ++ sized 500 768 ++ sized 0 0)
    (0 ∷ 512 ∷ 0 ∷ 1_073_741_824 ∷ 9 ∷ 0 ∷ 9 ∷ 0 ∷ 5 ∷ 0 ∷ 5 ∷ 0 ∷ [])
    -- where the tally begins the next chunk of P11's task 1; where the session does is among the bytes of Bytes.antt
    ∷ row (two_moved ∷ []) (3072 ∷ [])
    -- size 512, a multiple of the blocksize: what size 500 is answered in P13; and with size 500, chunks filled to the last byte of both
    ∷ row (one_answers 512 (513 ∷ 1 ∷ 513 ∷ 512 ∷ 513 ∷ 1 ∷ 513 ∷ []))
    (15 ∷ 0 ∷ 15 ∷ 0 ∷ 15 ∷ 16 ∷ 15 ∷ 15 ∷ 0 ∷ 15 ∷ 0 ∷ 15 ∷ 16 ∷ 15 ∷ 1028 ∷ 1024 ∷ [])
    ∷ row (one_answers 500 (500 ∷ 12 ∷ 500 ∷ 11 ∷ 2 ∷ 1 ∷ 1 ∷ [])) (0 ∷ 0 ∷ 0 ∷ 0 ∷ 16 ∷ 0 ∷ 16 ∷ 0 ∷ 0 ∷ 0 ∷ 0 ∷ 16 ∷ 0 ∷ 16 ∷ 2050 ∷ 1024 ∷ [])
    -- the other numbers of loading, by cuts and by single bytes
    ∷ row (map cut_to (1544 ∷ 3 ∷ 4 ∷ 7 ∷ 8 ∷ 1075 ∷ 1076 ∷ 1103 ∷ 1104 ∷ 1543 ∷ [])) (0 ∷ 1 ∷ 2 ∷ 2 ∷ 3 ∷ 3 ∷ 3 ∷ 3 ∷ 12 ∷ 12 ∷ [])
    ∷ row
    (changed 3 111
    ∷ changed 4 0
    ∷ changed 16 5
    ∷ changed 21 3
    ∷ changed 24 0
    ∷ changed 28 2
    ∷ changed 32 1
    ∷ changed 35 1
    ∷ changed 1083 128
    ∷ changed 1084 0
    ∷ changed 1097 0
    ∷ changed 1092 33
    ∷ changed 1097 7
    ∷ changed 1536 1
    ∷ [])
    (1 ∷ 2 ∷ 4 ∷ 5 ∷ 6 ∷ 7 ∷ 7 ∷ 7 ∷ 8 ∷ 9 ∷ 10 ∷ 11 ∷ 12 ∷ 13 ∷ [])
    -- "A chunk not used by a task has the value -1", and not 0: the second task, chunk 1; and 512 and 513 bytes in the first task's chunk 1
    ∷ row
    (load_refusal Single (splice (stored_two 0) 4632 (replicate 8 0)) 4
    ∷ load_refusal Single (splice (stored_two 0) 4624 (0 ∷ 2 ∷ [])) 4
    ∷ load_refusal Single (splice (stored_two 0) 4624 (1 ∷ 2 ∷ [])) 4
    ∷ [])
    (13 ∷ 0 ∷ 13 ∷ [])
    -- "signed two's complement": the greatest and the least number of 4 and of 8 bytes
    ∷ record {
      computed = map (signed_at false 4 signed_ends) (0 ∷ 4 ∷ []) ++ map (signed_at true 8 signed_ends) (8 ∷ 16 ∷ []);
      stated = pos 2_147_483_647 ∷ negsuc 2_147_483_647 ∷ pos 9_223_372_036_854_775_807 ∷ negsuc 9_223_372_036_854_775_807 ∷ [];
    }
    -- versions, flags, prefix and padding are not tested: their first and last bytes
    ∷ row (map (λ (at : ℕ). changed at 255) (8 ∷ 15 ∷ 36 ∷ 43 ∷ 44 ∷ 51 ∷ 52 ∷ 1075 ∷ 1104 ∷ 1535 ∷ [])) (replicate 10 0)
    ∷ row (reads (loaded_here (stored_two 1))) (3 ∷ 3072 ∷ 1 ∷ 22 ∷ 2 ∷ 2 ∷ 3 ∷ 9 ∷ 9 ∷ 23 ∷ 14 ∷ [])
    -- and the bytes of P12 that stand on both sides of its requested size
    ∷ row (read_output (loaded_here (two_image 1 3104)) 1 499 (replicate 4 9)) (2 ∷ 3 ∷ 9 ∷ 9 ∷ [])
    -- P12's length, whatever follows; no prefix, one of two bytes before a zero, one that fills its field; and a record of zeros
    ∷ row
    (whole (two_image 0 6000)
    ++ (whole (splice (stored_two 1) 52 (110 ∷ 97 ∷ 0 ∷ 97 ∷ []))
    ++ (whole (splice (stored_two 0) 52 (replicate 1024 1)) ++ whole [])))
    (0 ∷ 3104 ∷ 0 ∷ 52 ∷ 0 ∷ 0 ∷ 4656 ∷ 0 ∷ 52 ∷ 2 ∷ 0 ∷ 4656 ∷ 0 ∷ 52 ∷ 1024 ∷ 17 ∷ 0 ∷ 17 ∷ 0 ∷ 0 ∷ [])
    ∷ []
