-- W-205, "Say where it broke": for containers with one fault or several, the refusal and the field that a load names, each beside what the rules
-- compute. That the two are the same is proved in proofs/Places.antt.
use Rattle.std.specs.Prelude.{Bool, true, false, ℕ, ℤ, pos, negsuc, length, take, drop, replicate}
use mathlib.Core.List.{List, [], ◌∷◌, ◌++◌, map, flatten}
use Rattle.lists.specs.Splice.{splice}
use Rattle.endian.specs.Signed.{signed_digits}
use Rattle.format.specs.declared.head.File.TheVariants.{Single}
use Rattle.format.specs.declared.fault.Fault.{Fault}
use Rattle.format.specs.Refusals.{first_failing, first_fault}
use Rattle.format.specs.Meta1.{meta1}
use Rattle.format.specs.Record.{entry, head_of, order_of}
use Rattle.format.specs.Judge.{meta2_tests}
use Rattle.format.specs.Load.{load_refusal, load_fault}
use Rattle.format.specs.Numbers.{Row}

-- ---- a row: the refusal, the place, the kind of the field, its task and its chunk, what it says, and from where to where it may be

abbrev pub shown : ℕ → Fault → List ℤ
shown refusal f =
    pos refusal ∷ pos f.place ∷ pos f.field ∷ pos f.task ∷ pos f.chunk ∷ f.says ∷ f.least ∷ f.most ∷ []

-- of a load of an image with a table of so many cells
abbrev pub found_in : List ℕ → ℕ → List ℤ
found_in image cells = shown (load_refusal Single image cells) (load_fault Single image cells)

-- as it is expected
abbrev pub broken : ℕ → ℕ → ℕ → ℕ → ℕ → ℤ → ℤ → ℤ → List ℤ
broken refusal place field task chunk says least most =
    pos refusal ∷ pos place ∷ pos field ∷ pos task ∷ pos chunk ∷ says ∷ least ∷ most ∷ []

abbrev pub nothing : List ℤ
nothing = broken 0 0 0 0 0 (pos 0) (pos 0) (pos 0)

-- a container in little order, and in big order, with a table of so many cells
abbrev pub little : (Bool → List ℕ) → ℕ → List ℤ → Row
little image cells expected = record { computed = found_in (image false) cells; stated = expected }

abbrev pub big : (Bool → List ℕ) → ℕ → List ℤ → Row
big image cells expected = record { computed = found_in (image true) cells; stated = expected }

-- ---- containers with blocksize 512, in a byte order

-- META1 of a format, with ranks, sizes, maxchunks and start_of_varheader
abbrev pub first : ℕ → List ℕ → List ℕ → ℕ → ℕ → Bool → List ℕ
first format ranks sizes maxchunks start order =
    meta1 (head_of (order_of order) (pos 1) (pos 7) format 512 (length ranks) 1 0) (entry ranks) (entry sizes) [] maxchunks start

-- META2: numbers of 8 bytes, the counts and then the values
abbrev pub second : List ℤ → Bool → List ℕ
second numbers order = flatten (map (signed_digits order 8) numbers)

-- one task with one chunk: META1 up to 1104, the chunk from 1536 on, META2 from 2048 to 2064
abbrev pub one_first : Bool → List ℕ
one_first = first 3 (0 ∷ []) (10 ∷ []) 1 2048

abbrev pub one_task : Bool → List ℕ
one_task order = one_first order ++ (replicate 944 0 ++ second (pos 1 ∷ pos 10 ∷ []) order)

-- two tasks with one chunk, of a format: META1 up to 1120, 512 bytes for each from 1536 on, META2 from 2560 to 2592
abbrev pub two_first : ℕ → Bool → List ℕ
two_first format = first format (0 ∷ 1 ∷ []) (10 ∷ 20 ∷ []) 1 2560

abbrev pub two_tasks : ℕ → List ℤ → Bool → List ℕ
two_tasks format numbers order = two_first format order ++ (replicate 1440 0 ++ second numbers order)

-- and with two chunks: META2 from 3584 to 3632
abbrev pub two_chunks : List ℤ → Bool → List ℕ
two_chunks numbers order = first 3 (0 ∷ 1 ∷ []) (10 ∷ 20 ∷ []) 2 3584 order ++ (replicate 2464 0 ++ second numbers order)

-- three tasks that wrote nothing: META1 up to 1136, META2 from 1536 to 1560
abbrev pub three_first : Bool → List ℕ
three_first = first 3 (0 ∷ 1 ∷ 2 ∷ []) (10 ∷ 20 ∷ 30 ∷ []) 0 1536

abbrev pub three_tasks : Bool → List ℕ
three_tasks order = three_first order ++ replicate 424 0

-- META2 alone, of two tasks whose chunks hold 512 and 1,024 bytes: a format, maxchunks, where it starts, and its numbers
abbrev pub alone : ℕ → ℕ → ℕ → List ℤ → Bool → List ℤ
alone format maxchunks start numbers order =
    let tests = meta2_tests (head_of (order_of order) (pos 1) (pos 7) format 512 2 1 0) (entry (10 ∷ 600 ∷ [])) maxchunks start (second numbers order) in
    shown (first_failing tests) (first_fault tests)

abbrev pub alone_both : ℕ → ℕ → ℕ → List ℤ → List ℤ → Row
alone_both format maxchunks start numbers expected =
    record {
      computed = alone format maxchunks start numbers false ++ alone format maxchunks start numbers true;
      stated = expected ++ expected;
    }

-- ---- other numbers in an image's fields: where each stands, its bytes, and what it says

pub record Wrong : Type 0 where
  pub at : ℕ
  pub bytes : ℕ
  pub says : ℤ

abbrev pub wrong : ℕ → ℕ → ℤ → Wrong
wrong at bytes says = record { at = at; bytes = bytes; says = says }

-- of two for one field the first counts
abbrev pub spoilt : List Wrong → (Bool → List ℕ) → Bool → List ℕ
spoilt [] image order = image order
spoilt (w ∷ ws) image order = splice (spoilt ws image order) w.at (signed_digits order w.bytes w.says)

abbrev pub with : (Bool → List ℕ) → ℕ → ℕ → ℤ → Bool → List ℕ
with image at bytes says = spoilt (wrong at bytes says ∷ []) image

-- three tasks with these ranks
abbrev pub ranked : ℤ → ℤ → ℤ → Bool → List ℕ
ranked a b c = spoilt (wrong 1076 8 a ∷ wrong 1084 8 b ∷ wrong 1092 8 c ∷ []) three_first

abbrev pub cut : ℕ → (Bool → List ℕ) → Bool → List ℕ
cut bytes image order = take bytes (image order)

-- ---- nearly everything that can be broken in a container of two tasks with one chunk, which the second does not use, in the order of the tests

-- in META1, which nothing follows: with so many faults mended, cut to so many bytes
abbrev pub first_faults : List Wrong
first_faults =
    wrong 4 4 (pos 2)
    ∷ wrong 16 4 (pos 5)
    ∷ wrong 20 4 (pos 1000)
    ∷ wrong 24 4 (pos 65)
    ∷ wrong 28 4 (pos 2)
    ∷ wrong 32 4 (pos 1)
    ∷ wrong 1084 8 (pos 0)
    ∷ wrong 1092 8 (pos 0)
    ∷ wrong 1100 8 (negsuc 4)
    ∷ wrong 1112 8 (pos 0)
    ∷ wrong 1108 4 (pos 33)
    ∷ wrong 1112 8 (pos 2561)
    ∷ []

abbrev pub first_mended : ℕ → ℕ → Bool → List ℕ
first_mended count bytes = cut bytes (spoilt (drop count first_faults) (two_first 3))

-- and in META2
abbrev pub second_faults : List Wrong
second_faults = wrong 2568 8 (pos 3) ∷ wrong 2560 8 (pos 0) ∷ wrong 2576 8 (pos 513) ∷ wrong 2584 8 (pos 5) ∷ []

abbrev pub second_mended : ℕ → Bool → List ℕ
second_mended count = spoilt (drop count second_faults) (two_tasks 3 (pos 1 ∷ pos 0 ∷ pos 10 ∷ negsuc 0 ∷ []))

-- 1 to 11
unfoldable pub place_table : List Row
place_table =
    -- 1: an image of no byte, and a wrong mark
    little (λ order. []) 0 (broken 1 0 1 0 0 (pos 0) (pos 0) (pos 0))
    ∷ big (λ order. splice (one_first order) 3 (111 ∷ [])) 1 (broken 1 0 1 0 0 (pos 0) (pos 0) (pos 0))
    -- 2: an image of six bytes, and a wrong order number
    ∷ little (cut 6 one_first) 1 (broken 2 4 2 0 0 (pos 0) (pos 0) (pos 0))
    ∷ big (with one_first 4 4 (pos 2)) 1 (broken 2 4 2 0 0 (pos 0) (pos 0) (pos 0))
    -- 3: META1 cut before its 1,076th byte, and after it
    ∷ little (cut 1050 three_first) 0 (broken 3 1050 3 0 0 (pos 1050) (pos 1076) (pos 1076))
    ∷ little (cut 1119 (two_first 3)) 2 (broken 3 1119 3 0 0 (pos 1119) (pos 1120) (pos 1120))
    -- 4, 5 and 6: numbers below 0, and over
    ∷ big (with one_first 16 4 (negsuc 2)) 1 (broken 4 16 4 0 0 (negsuc 2) (pos 3) (pos 4))
    ∷ little (with one_first 20 4 (negsuc 511)) 1 (broken 5 20 5 0 0 (negsuc 511) (pos 512) (pos 4_194_304))
    ∷ big (with one_first 24 4 (pos 65)) 1 (broken 6 24 6 0 0 (pos 65) (pos 1) (pos 64))
    -- 7: nfiles, and filenumber
    ∷ little (with one_first 28 4 (pos 2)) 1 (broken 7 28 7 0 0 (pos 2) (pos 1) (pos 1))
    ∷ big (with one_first 32 4 (negsuc 0)) 1 (broken 7 32 8 0 0 (negsuc 0) (pos 0) (pos 0))
    -- 8: "For a repeated rank it is the later of the pair, taking the earliest such one", and ranks out of range among them
    ∷ little (ranked (pos 5) (pos 5) (negsuc 0)) 0 (broken 8 1084 9 2 0 (pos 5) (pos 0) (pos 2_147_483_647))
    ∷ big (ranked (pos 5) (negsuc 0) (pos 5)) 0 (broken 8 1084 9 2 0 (negsuc 0) (pos 0) (pos 2_147_483_647))
    ∷ little (ranked (negsuc 0) (pos 5) (pos 5)) 0 (broken 8 1076 9 1 0 (negsuc 0) (pos 0) (pos 2_147_483_647))
    ∷ big (ranked (pos 4) (pos 7) (pos 4)) 0 (broken 8 1092 9 3 0 (pos 4) (pos 0) (pos 2_147_483_647))
    ∷ little (ranked (pos 6) (pos 6) (pos 6)) 0 (broken 8 1084 9 2 0 (pos 6) (pos 0) (pos 2_147_483_647))
    ∷ big (ranked (pos 6) (pos 2_147_483_647) (pos 2_147_483_648)) 0 (broken 8 1092 9 3 0 (pos 2_147_483_648) (pos 0) (pos 2_147_483_647))
    -- and one pair within another
    ∷ little (first 3 (4 ∷ 7 ∷ 7 ∷ 4 ∷ []) (1 ∷ 1 ∷ 1 ∷ 1 ∷ []) 0 1536) 0 (broken 8 1092 9 3 0 (pos 7) (pos 0) (pos 2_147_483_647))
    -- 9: the second size, and both
    ∷ big (with (two_first 3) 1100 8 (negsuc 19)) 2 (broken 9 1100 10 2 0 (negsuc 19) (pos 1) (pos 1_073_741_824))
    ∷ little (first 3 (0 ∷ 1 ∷ []) (1_073_741_825 ∷ 0 ∷ []) 1 2560) 2 (broken 9 1092 10 1 0 (pos 1_073_741_825) (pos 1) (pos 1_073_741_824))
    -- 10 and 11
    ∷ little (first 3 (0 ∷ []) (10 ∷ []) 1 0) 1 (broken 10 1096 12 0 0 (pos 0) (pos 1) (pos 9_223_372_036_854_775_807))
    ∷ big (with (two_first 3) 1108 4 (negsuc 0)) 2 (broken 11 1108 11 0 0 (negsuc 0) (pos 0) (pos 32))
    ∷ []

-- 12, 18 and 13; accepted containers; and several faults at once
unfoldable pub late_table : List Row
late_table =
    -- "In 12 the field is judged before the fit": a wrong start in an image that is too short; then META2 cut by a byte
    little (first 3 (0 ∷ []) (10 ∷ []) 1 2047) 1 (broken 12 1096 12 0 0 (pos 2047) (pos 2048) (pos 2048))
    ∷ big (cut 2063 one_task) 1 (broken 12 2063 3 0 0 (pos 2063) (pos 2064) (pos 2064))
    -- 18: a cell too few
    ∷ little (two_tasks 3 (pos 1 ∷ pos 1 ∷ pos 10 ∷ pos 20 ∷ [])) 1 (broken 18 0 13 0 0 (pos 1) (pos 2) (pos 2))
    -- 13: a count over maxchunks, a count of 0 in format 4, the greatest count under maxchunks, a value over what chunk 2 holds
    ∷ big (two_tasks 3 (pos 1 ∷ pos 2 ∷ pos 10 ∷ pos 20 ∷ [])) 2 (broken 13 2568 14 2 0 (pos 2) (pos 0) (pos 1))
    ∷ little (two_tasks 4 (pos 1 ∷ pos 0 ∷ pos 10 ∷ negsuc 0 ∷ [])) 2 (broken 13 2568 14 2 0 (pos 0) (pos 1) (pos 1))
    ∷ big (two_chunks (pos 1 ∷ pos 1 ∷ pos 10 ∷ pos 20 ∷ negsuc 0 ∷ negsuc 0 ∷ [])) 4 (broken 13 1108 11 0 0 (pos 2) (pos 1) (pos 1))
    ∷ little (two_chunks (pos 2 ∷ pos 1 ∷ pos 512 ∷ pos 20 ∷ pos 601 ∷ negsuc 0 ∷ [])) 4 (broken 13 3616 15 1 2 (pos 601) (pos 0) (pos 512))
    -- META2 alone: a count of each task, of both, and below 0; in format 4 of 0, also where maxchunks is 0
    ∷ alone_both 3 1 3072 (pos 1 ∷ pos 2 ∷ pos 10 ∷ pos 20 ∷ []) (broken 13 3080 14 2 0 (pos 2) (pos 0) (pos 1))
    ∷ alone_both 3 1 3072 (pos 3 ∷ pos 2 ∷ pos 10 ∷ pos 20 ∷ []) (broken 13 3072 14 1 0 (pos 3) (pos 0) (pos 1))
    ∷ alone_both 3 1 3072 (pos 1 ∷ negsuc 0 ∷ pos 10 ∷ negsuc 0 ∷ []) (broken 13 3080 14 2 0 (negsuc 0) (pos 0) (pos 1))
    ∷ alone_both 4 1 3072 (pos 0 ∷ pos 1 ∷ negsuc 0 ∷ pos 20 ∷ []) (broken 13 3072 14 1 0 (pos 0) (pos 1) (pos 1))
    ∷ alone_both 4 0 1536 (pos 0 ∷ pos 0 ∷ []) (broken 13 1536 14 1 0 (pos 0) (pos 1) (pos 0))
    -- a count before a value; and before the greatest count, which is then over maxchunks or under it
    ∷ alone_both 3 1 3072 (pos 1 ∷ pos 2 ∷ pos 513 ∷ pos 20 ∷ []) (broken 13 3080 14 2 0 (pos 2) (pos 0) (pos 1))
    ∷ alone_both 3 2 4608 (pos 1 ∷ pos 3 ∷ pos 10 ∷ pos 20 ∷ negsuc 0 ∷ pos 20 ∷ []) (broken 13 4616 14 2 0 (pos 3) (pos 0) (pos 2))
    ∷ alone_both 3 2 4608 (pos 1 ∷ negsuc 0 ∷ pos 10 ∷ negsuc 0 ∷ negsuc 0 ∷ negsuc 0 ∷ []) (broken 13 4616 14 2 0 (negsuc 0) (pos 0) (pos 2))
    -- the greatest count under maxchunks, also where a value is broken
    ∷ alone_both 3 2 4608 (pos 0 ∷ pos 1 ∷ negsuc 0 ∷ pos 20 ∷ negsuc 0 ∷ negsuc 0 ∷ []) (broken 13 1108 11 0 0 (pos 2) (pos 1) (pos 1))
    ∷ alone_both 3 2 4608 (pos 1 ∷ pos 0 ∷ pos 513 ∷ pos 5 ∷ negsuc 0 ∷ negsuc 0 ∷ []) (broken 13 1108 11 0 0 (pos 2) (pos 1) (pos 1))
    -- a value over what chunk 1 holds, and chunk 2
    ∷ alone_both 3 1 3072 (pos 1 ∷ pos 1 ∷ pos 513 ∷ pos 1024 ∷ []) (broken 13 3088 15 1 1 (pos 513) (pos 0) (pos 512))
    ∷ alone_both 3 1 3072 (pos 1 ∷ pos 1 ∷ pos 512 ∷ pos 1025 ∷ []) (broken 13 3096 15 2 1 (pos 1025) (pos 0) (pos 1024))
    ∷ alone_both 3 2 4608 (pos 2 ∷ pos 1 ∷ pos 512 ∷ pos 1024 ∷ pos 601 ∷ negsuc 0 ∷ []) (broken 13 4640 15 1 2 (pos 601) (pos 0) (pos 512))
    -- of two, chunk 1 of task 2 before chunk 2 of task 1
    ∷ alone_both 3 2 4608 (pos 2 ∷ pos 1 ∷ pos 512 ∷ pos 1025 ∷ pos 601 ∷ negsuc 0 ∷ []) (broken 13 4632 15 2 1 (pos 1025) (pos 0) (pos 1024))
    -- a chunk that is not in use says 5, or 0; one that is in use says -1
    ∷ alone_both 3 2 4608 (pos 2 ∷ pos 1 ∷ pos 512 ∷ pos 1024 ∷ pos 10 ∷ pos 5 ∷ []) (broken 13 4648 15 2 2 (pos 5) (negsuc 0) (negsuc 0))
    ∷ alone_both 3 1 3072 (pos 0 ∷ pos 1 ∷ pos 0 ∷ pos 20 ∷ []) (broken 13 3088 15 1 1 (pos 0) (negsuc 0) (negsuc 0))
    ∷ alone_both 3 2 4608 (pos 1 ∷ pos 2 ∷ pos 512 ∷ negsuc 0 ∷ negsuc 0 ∷ pos 10 ∷ []) (broken 13 4632 15 2 1 (negsuc 0) (pos 0) (pos 1024))
    -- nothing is broken
    ∷ alone_both 3 2 4608 (pos 1 ∷ pos 2 ∷ pos 512 ∷ pos 0 ∷ negsuc 0 ∷ pos 1024 ∷ []) nothing
    ∷ big (two_tasks 4 (pos 1 ∷ pos 1 ∷ pos 0 ∷ pos 512 ∷ [])) 2 nothing
    ∷ little three_tasks 1 nothing
    -- nearly everything is broken, and mended one after the other: the first that is left counts
    ∷ little (first_mended 0 1075) 1 (broken 2 4 2 0 0 (pos 0) (pos 0) (pos 0))
    ∷ big (first_mended 1 1075) 1 (broken 3 1075 3 0 0 (pos 1075) (pos 1076) (pos 1076))
    ∷ little (first_mended 1 1119) 1 (broken 4 16 4 0 0 (pos 5) (pos 3) (pos 4))
    ∷ big (first_mended 2 1119) 1 (broken 5 20 5 0 0 (pos 1000) (pos 512) (pos 4_194_304))
    ∷ little (first_mended 3 1119) 1 (broken 6 24 6 0 0 (pos 65) (pos 1) (pos 64))
    ∷ big (first_mended 4 1119) 1 (broken 7 28 7 0 0 (pos 2) (pos 1) (pos 1))
    ∷ little (first_mended 5 1119) 1 (broken 7 32 8 0 0 (pos 1) (pos 0) (pos 0))
    ∷ big (first_mended 6 1119) 1 (broken 3 1119 3 0 0 (pos 1119) (pos 1120) (pos 1120))
    ∷ little (first_mended 6 1120) 1 (broken 8 1084 9 2 0 (pos 0) (pos 0) (pos 2_147_483_647))
    ∷ big (first_mended 7 1120) 1 (broken 9 1092 10 1 0 (pos 0) (pos 1) (pos 1_073_741_824))
    ∷ little (first_mended 8 1120) 1 (broken 9 1100 10 2 0 (negsuc 4) (pos 1) (pos 1_073_741_824))
    ∷ big (first_mended 9 1120) 1 (broken 10 1112 12 0 0 (pos 0) (pos 1) (pos 9_223_372_036_854_775_807))
    ∷ little (first_mended 10 1120) 1 (broken 11 1108 11 0 0 (pos 33) (pos 0) (pos 32))
    ∷ big (first_mended 11 1120) 1 (broken 12 1112 12 0 0 (pos 2561) (pos 2560) (pos 2560))
    ∷ little (first_mended 12 1120) 1 (broken 12 1120 3 0 0 (pos 1120) (pos 2592) (pos 2592))
    ∷ big (second_mended 0) 1 (broken 18 0 13 0 0 (pos 1) (pos 2) (pos 2))
    ∷ little (second_mended 0) 2 (broken 13 2568 14 2 0 (pos 3) (pos 0) (pos 1))
    ∷ big (second_mended 1) 2 (broken 13 1108 11 0 0 (pos 1) (pos 0) (pos 0))
    ∷ little (second_mended 2) 2 (broken 13 2576 15 1 1 (pos 513) (pos 0) (pos 512))
    ∷ big (second_mended 3) 2 (broken 13 2584 15 2 1 (pos 5) (negsuc 0) (negsuc 0))
    ∷ little (second_mended 4) 2 nothing
    ∷ []
