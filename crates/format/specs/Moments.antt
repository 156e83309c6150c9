-- Document 02, W-212: numbers of our own for power cuts, each beside what the rules compute: how many byte stores opening and closing make, what is found after
-- some of them, and what a load gives of it. That the rules compute these numbers is proved in proofs/Moments.antt.
use Rattle.std.specs.Prelude.{Bool, true, false, List, [], ◌∷◌, ◌++◌, map, ℕ, ◌+◌, pos, negsuc, take, drop, replicate}
use Rattle.lists.specs.Stores.{store, byte_stores, found}
use Rattle.format.specs.declared.head.File.TheVariants.{Single}
use Rattle.format.specs.Layout.{meta2_start, meta2_length}
use Rattle.format.specs.declared.head.Head.{Head}
use Rattle.format.specs.Meta1.{last_at, last_fields, meta1}
use Rattle.format.specs.Record.{order_of, head_of, count_of}
use Rattle.format.specs.Session.{State}
use Rattle.format.specs.Open.{Opening, open_stores, open_found}
use Rattle.format.specs.Write.{write_found}
use Rattle.format.specs.Close.{close_stores, close_found, close_image}
use Rattle.format.specs.Load.{load_refusal, load_fault}
use Rattle.format.specs.Numbers.{Row, row, plan, write, two, two_opened, two_done}

-- ---- P12's session, opened over nines and over its own container

abbrev pub two_planned : ℕ → Opening
two_planned order = plan order 512 two 3

abbrev pub over_nines_at : ℕ → List ℕ
over_nines_at b = open_found (two_planned 0) (replicate 6208 9) (replicate 6 (pos 0)) b

-- the first three bytes, the last before D and one more
abbrev pub edges : List ℕ → List ℕ
edges image = take 3 image ++ (take 1 (drop 1535 image) ++ take 1 (drop 1536 image))

-- what a load gives, with a table of 6 cells, after so many stores of the opening over the container that its own close left
abbrev pub opening_gives : ℕ → List ℕ → List ℕ
opening_gives order = map (λ (b : ℕ). load_refusal Single (open_found (two_planned order) (close_image (two_done order)) (replicate 6 (pos 0)) b) 6)

-- and after so many stores of the close
abbrev pub closing_gives : State → List ℕ → List ℕ
closing_gives st = map (λ (b : ℕ). load_refusal Single (close_found st b) 6)

-- META1's last two fields, and the first count of META2, after so many stores of the close
abbrev pub closing_parts : ℕ → List ℕ
closing_parts b = let image = close_found (two_done 0) b in take 12 (drop 1108 image) ++ take 2 (drop 3072 image)

-- a write of 300 bytes to task 1, cut after 2
abbrev pub cut_write : State
cut_write = write_found (two_opened 0) (write 300 1) 2

-- ---- META2 at 66,048: META1 of one task, blocksize 512, size 64,512, after so many stores of its last two fields; the number that a load gives, and the
-- place: 1096 is start_of_varheader, and 1104 the image's end, where the field is right and META2 is missing

abbrev pub far_head : Bool → Head
far_head big = head_of (order_of big) (pos 1) (pos 7) 3 512 1 1 0

abbrev pub far_at : Bool → ℕ → List ℕ
far_at big b = found b (meta1 (far_head big) (λ i. 0) (λ i. 64_512) [] 0 0) (store (last_at 1) (last_fields big 1 66_048) ∷ [])

abbrev pub far_gives : Bool → ℕ → List ℕ
far_gives big b = load_refusal Single (far_at big b) 1 ∷ (load_fault Single (far_at big b) 1).place ∷ []

unfoldable pub moment_table : List Row
moment_table =
    -- P12's opening makes D + 1 stores, its closing 8·2·2 + 12; a refused opening none
    row
    (byte_stores (open_stores (two_planned 0) (replicate 6208 9) (replicate 6 (pos 0)))
    ∷ byte_stores (close_stores (two_done 0))
    ∷ byte_stores (open_stores (two_planned 0) (replicate 6207 9) (replicate 6 (pos 0)))
    ∷ []) (1537 ∷ 44 ∷ 0 ∷ [])
    -- "first put zero in the mark's first byte, then write the rest of META1, and put the `s` back last"
    ∷ row (edges (over_nines_at 0)) (9 ∷ 9 ∷ 9 ∷ 9 ∷ 9 ∷ [])
    ∷ row (edges (over_nines_at 1)) (0 ∷ 9 ∷ 9 ∷ 9 ∷ 9 ∷ [])
    ∷ row (edges (over_nines_at 2)) (0 ∷ 105 ∷ 9 ∷ 9 ∷ 9 ∷ [])
    ∷ row (edges (over_nines_at 1535)) (0 ∷ 105 ∷ 111 ∷ 9 ∷ 9 ∷ [])
    ∷ row (edges (over_nines_at 1536)) (0 ∷ 105 ∷ 111 ∷ 0 ∷ 9 ∷ [])
    ∷ row (edges (over_nines_at 1537)) (115 ∷ 105 ∷ 111 ∷ 0 ∷ 9 ∷ [])
    -- "the earlier image's answer before the first store, 1 while opening runs, 10 during the session"
    ∷ row (opening_gives 0 (0 ∷ 1 ∷ 1120 ∷ 1536 ∷ 1537 ∷ 1538 ∷ [])) (0 ∷ 1 ∷ 1 ∷ 1 ∷ 10 ∷ 10 ∷ [])
    ∷ row (opening_gives 1 (0 ∷ 1 ∷ 1120 ∷ 1536 ∷ 1537 ∷ [])) (0 ∷ 1 ∷ 1 ∷ 1 ∷ 10 ∷ [])
    -- a cut write: two of its bytes, but the count and the cell of the whole
    ∷ row (take 3 (drop 1536 cut_write.image) ++ (count_of cut_write.lists 0 ∷ load_refusal Single cut_write.image 6 ∷ [])) (1 ∷ 1 ∷ 0 ∷ 1 ∷ 10 ∷ [])
    ∷ record { computed = take 2 cut_write.table; stated = pos 300 ∷ negsuc 0 ∷ [] }
    -- "Closing writes META2, then maxchunks, then start_of_varheader"
    ∷ row (closing_parts 0) (replicate 14 0)
    ∷ row (closing_parts 1) (replicate 12 0 ++ (1 ∷ 0 ∷ []))
    ∷ row (closing_parts 32) (replicate 12 0 ++ (1 ∷ 0 ∷ []))
    ∷ row (closing_parts 33) (1 ∷ replicate 11 0 ++ (1 ∷ 0 ∷ []))
    ∷ row (closing_parts 37) (1 ∷ replicate 11 0 ++ (1 ∷ 0 ∷ []))
    ∷ row (closing_parts 38) (1 ∷ 0 ∷ 0 ∷ 0 ∷ 0 ∷ 12 ∷ replicate 6 0 ++ (1 ∷ 0 ∷ []))
    -- "10, 12 or the complete container during closing": META2 at 3072 has one byte that is not 0, the second in little order and the last but one in big
    ∷ row (closing_gives (two_done 0) (0 ∷ 32 ∷ 36 ∷ 37 ∷ 38 ∷ 44 ∷ [])) (10 ∷ 10 ∷ 10 ∷ 10 ∷ 0 ∷ 0 ∷ [])
    ∷ row (closing_gives (two_done 1) (0 ∷ 36 ∷ 42 ∷ 43 ∷ 44 ∷ 45 ∷ [])) (10 ∷ 10 ∷ 10 ∷ 0 ∷ 0 ∷ 0 ∷ [])
    -- 66,048 has two: 12 after 22 of 28 stores in little order, of which META2 has 16, and after 26 in big
    ∷ row (meta2_start 512 1 (λ i. 64_512) 1 ∷ (meta2_length 1 1 + 12) ∷ []) (66_048 ∷ 28 ∷ [])
    ∷ row (far_gives false 5 ++ (far_gives false 6 ++ far_gives false 7)) (10 ∷ 1096 ∷ 12 ∷ 1096 ∷ 12 ∷ 1104 ∷ [])
    ∷ row (far_gives true 9 ++ (far_gives true 10 ++ far_gives true 11)) (10 ∷ 1096 ∷ 12 ∷ 1096 ∷ 12 ∷ 1104 ∷ [])
    ∷ []
