-- W-209, "Idle tasks from format number 4": numbers of our own for both versions, each beside what the rules compute. That the two are the same is
-- proved in proofs/Numbers.antt.
use Rattle.std.specs.Prelude.{Bool, true, false, List, [], ◌∷◌, ◌++◌, map, ℕ, ℤ, pos, negsuc, length, get_or, take, replicate}
use Rattle.lists.specs.Splice.{splice}
use Rattle.format.specs.declared.head.File.TheVariants.{Single}
use Rattle.format.specs.Meta1.{format_field, meta1}
use Rattle.format.specs.Meta2.{unused, meta2}
use Rattle.format.specs.Record.{entry, count_of, head_of, order_of}
use Rattle.format.specs.Session.{State}
use Rattle.format.specs.Open.{open_refusal, opened}
use Rattle.format.specs.Write.{writes}
use Rattle.format.specs.Close.{close_answer, close_image}
use Rattle.format.specs.Load.{load_refusal}
use Rattle.format.specs.Line.{line_of}
use Rattle.format.specs.Tally.{count_by, terms_of, fed, feed_all, initial}
use Rattle.format.specs.Numbers.{Row, row, plan_in, opened_zeros, two, two_first, two_last, closed_two, one_answers_in, said, smallest}

-- ---- P12's session in version 4: opened over an image of zeros and a table of nines, with nothing written, and after the writes of P11

abbrev pub idle_opened : Bool → State
idle_opened big = opened (plan_in 4 (order_of big) 512 two 3) (replicate 6208 0) (replicate 7 (pos 9))

abbrev pub idle_done : Bool → State
idle_done big = writes (idle_opened big) (two_first ++ (two_last ∷ []))

-- its record's format, its two counts, and its table; then the format that stands in the image
abbrev pub idle_fresh : Bool → List ℤ
idle_fresh big =
    let st = idle_opened big in
    pos st.session.head.format
    ∷ pos (count_of st.lists 0)
    ∷ pos (count_of st.lists 1)
    ∷ st.table
    ++ (format_field big st.image ∷ [])

-- the container that it leaves, as bytes in little order: of a format, with a count and a value for task 2, which wrote nothing
abbrev pub idle_bytes : ℕ → ℕ → ℤ → List ℕ
idle_bytes format count value =
    meta1 (head_of 0 (pos 1) (pos 7) format 512 2 1 0) (λ i. i) (entry two) [] 1 3072
    ++ replicate 416 0
    ++ (replicate 300 1 ++ replicate 200 2 ++ (3 ∷ replicate 1035 0))
    ++ meta2 false 2 1 (entry (1 ∷ count ∷ [])) (λ j. get_or (pos 501 ∷ value ∷ []) j (pos 0))

abbrev pub idle_two : List ℕ
idle_two = idle_bytes 4 1 (pos 0)

-- both counts of the tally after the writes of P11, in a version
abbrev pub idle_counts : ℕ → List ℕ
idle_counts format =
    let o = plan_in format 0 512 two 3 in
    let book = feed_all (terms_of o) initial (fed (two_first ++ (two_last ∷ []))) in
    count_by format (book 1) ∷ count_by format (book 2) ∷ []

-- ---- the smallest container of version 4: one task that wrote nothing, as bytes and as a session leaves it

abbrev pub idle_smallest : List ℕ
idle_smallest =
    meta1 (head_of 0 (pos 1) (pos 7) 4 512 1 1 0) (λ i. 0) (λ i. 1) [] 1 2048
    ++ (replicate 944 0 ++ meta2 false 1 1 (λ i. 1) (λ j. pos 0))

abbrev pub idle_nothing : State
idle_nothing = opened_zeros (plan_in 4 0 512 (1 ∷ []) 1) 2064 1

-- an image of another format, in little order
abbrev pub image_in : ℕ → List ℕ → List ℕ
image_in format image = splice image 16 (format ∷ [])

abbrev pub open_in : ℕ → ℕ
open_in format = open_refusal (plan_in format 0 512 two 3) 6208 6

unfoldable pub idle_table : List Row
idle_table =
    -- "A fresh version 4 session has count 1 and cell 0 for each task", -1 in the other n·(K-1) cells, and no more
    record {
      computed = idle_fresh false ++ idle_fresh true;
      stated =
          let one = pos 4 ∷ pos 1 ∷ pos 1 ∷ pos 0 ∷ pos 0 ∷ negsuc 0 ∷ negsuc 0 ∷ negsuc 0 ∷ negsuc 0 ∷ pos 9 ∷ pos 4 ∷ [] in
          one ++ one;
    }
    -- P12's session in version 4: META2 at 3072 holding 1, 1, 501, 0, and the length 3104; closed with nothing written, 1, 1, 0, 0
    ∷ record {
      computed = closed_two true (idle_done true) ++ closed_two false (idle_opened false);
      stated =
          (pos 1 ∷ pos 3072 ∷ pos 1 ∷ pos 1 ∷ pos 501 ∷ pos 0 ∷ pos 3104 ∷ pos 1 ∷ [])
          ++ (pos 1 ∷ pos 3072 ∷ pos 1 ∷ pos 1 ∷ pos 0 ∷ pos 0 ∷ pos 3104 ∷ pos 1 ∷ []);
    }
    -- and byte for byte; it loads, and says what it does
    ∷ row (take 3104 (close_image (idle_done false))) idle_two
    ∷ record { computed = said idle_two; stated = pos 0 ∷ pos 2 ∷ pos 1 ∷ pos 501 ∷ pos 0 ∷ pos 1 ∷ pos 7 ∷ pos 4 ∷ pos 4 ∷ [] }
    -- "the greater of u and 1"
    ∷ row (idle_counts 4 ++ idle_counts 3) (1 ∷ 1 ∷ 1 ∷ 0 ∷ [])
    -- "no acceptance of a write depends on it": the requests of P13 and others, answered in version 4 as in version 3
    ∷ row (one_answers_in 4 500 (513 ∷ 1 ∷ 513 ∷ 512 ∷ 513 ∷ 1 ∷ 513 ∷ []))
    (15 ∷ 0 ∷ 15 ∷ 0 ∷ 15 ∷ 16 ∷ 15 ∷ 15 ∷ 0 ∷ 15 ∷ 0 ∷ 15 ∷ 16 ∷ 15 ∷ 1028 ∷ 1024 ∷ [])
    ∷ row (one_answers_in 4 500 (512 ∷ 512 ∷ 1 ∷ [])) (0 ∷ 0 ∷ 16 ∷ 0 ∷ 0 ∷ 16 ∷ 2050 ∷ 1024 ∷ [])
    -- the smallest container of version 4, 2,064 bytes, is what a session that wrote nothing leaves; `0 1 1 0`, and `0 2 1 501 0`
    ∷ row (length idle_smallest ∷ (close_answer idle_nothing).length ∷ load_refusal Single idle_smallest 1 ∷ []) (2064 ∷ 2064 ∷ 0 ∷ [])
    ∷ row (close_image idle_nothing) idle_smallest
    ∷ row (line_of idle_smallest) (48 ∷ 32 ∷ 49 ∷ 32 ∷ 49 ∷ 32 ∷ 48 ∷ [])
    ∷ row (line_of idle_two) (48 ∷ 32 ∷ 50 ∷ 32 ∷ 49 ∷ 32 ∷ 53 ∷ 48 ∷ 49 ∷ 32 ∷ 48 ∷ [])
    -- "There the only new 13 is a count of 0": P12's container as one of version 4, and one whose maxchunks is 0; the same two of version 3
    ∷ row
    (load_refusal Single (idle_bytes 4 0 unused) 4
    ∷ load_refusal Single (image_in 4 smallest) 4
    ∷ load_refusal Single (idle_bytes 3 0 unused) 4
    ∷ load_refusal Single smallest 4
    ∷ [])
    (13 ∷ 13 ∷ 0 ∷ 0 ∷ [])
    -- a count of 1 with 0 bytes is no error in version 3: both containers of version 4 as ones of it
    ∷ row (load_refusal Single (idle_bytes 3 1 (pos 0)) 4 ∷ load_refusal Single (image_in 3 idle_smallest) 1 ∷ []) (0 ∷ 0 ∷ [])
    -- "take 3 or 4, else refusal 4": at loading, also where the number's other bytes are not 0, and at opening
    ∷ row
    (map (λ (format : ℕ). load_refusal Single (image_in format idle_smallest) 1) (0 ∷ 2 ∷ 3 ∷ 4 ∷ 5 ∷ 255 ∷ [])
    ++ (load_refusal Single (splice idle_smallest 17 (1 ∷ [])) 1 ∷ load_refusal Single (splice idle_smallest 19 (128 ∷ [])) 1 ∷ []))
    (4 ∷ 4 ∷ 0 ∷ 0 ∷ 4 ∷ 4 ∷ 4 ∷ 4 ∷ [])
    ∷ row (map open_in (0 ∷ 2 ∷ 3 ∷ 4 ∷ 5 ∷ 260 ∷ [])) (4 ∷ 4 ∷ 0 ∷ 0 ∷ 4 ∷ 4 ∷ [])
    ∷ []
