-- Document 02, W-210, and numbers of our own for packing, each beside what the rules compute. That the rules compute these numbers is proved in
-- proofs/Numbers.antt.
use Rattle.std.specs.Prelude.{Bool, true, false, List, [], ◌∷◌, ◌++◌, map, ℕ, ◌+◌, ◌*◌, ℤ, pos, negsuc, get_or, take, replicate}
use Rattle.lists.specs.Below.{list_below}
use Rattle.endian.specs.Signed.{signed_at}
use Rattle.format.specs.declared.head.File.TheVariants.{Single}
use Rattle.format.specs.Meta1.{size_field, maxchunks_field, start_field}
use Rattle.format.specs.Record.{order_of}
use Rattle.format.specs.Session.{State}
use Rattle.format.specs.Write.{Request, writes}
use Rattle.format.specs.Close.{close_image}
use Rattle.format.specs.Reads.{Container, loaded_from}
use Rattle.format.specs.Numbers.{Row, row, plan_in, opened_zeros, write, two}
use Rattle.packs.specs.Pack

abbrev pub nines : ℕ → List ℕ
nines n = replicate n 9

abbrev pub nine_cells : ℕ → List ℤ
nine_cells n = replicate n (pos 9)

-- the session of P12 in a format and a byte order, after these requests, closed and loaded
abbrev pub done_in : ℕ → Bool → List Request → State
done_in format big requests = writes (opened_zeros (plan_in format (order_of big) 512 two 3) 6208 6) requests

abbrev pub loaded_in : ℕ → Bool → List Request → Container
loaded_in format big requests = loaded_from Single (close_image (done_in format big requests)) (nine_cells 2)

abbrev pub requests : List Request
requests = write 300 1 ∷ write 200 2 ∷ write 1 3 ∷ []

abbrev pub p12 : ℕ → Bool → Container
p12 format big = loaded_in format big requests

-- packed over nines: both requested sizes, the last two fields, four numbers of META2, and the length
abbrev pub packed_two : Container → Bool → List ℤ
packed_two c big =
    let image = Pack.pack_image c (nines 2600) in
    size_field big image 2 0
    ∷ size_field big image 2 1
    ∷ maxchunks_field big image 2
    ∷ start_field big image 2
    ∷ list_below 4 (λ j. signed_at big 8 image (2560 + 8 * j))
    ++ (pos (Pack.pack_answer c (nines 2600)).refusal ∷ pos (Pack.pack_answer c (nines 2600)).bytes ∷ [])

-- bytes of it: the ends of the stream's requests, the first zero of the gap, chunk 1 of task 2, the last byte before META2 and the first after the length
abbrev pub places : Container → List ℕ
places c =
    let image = Pack.pack_image c (nines 2600) in
    map (λ (at : ℕ). get_or image at 0) (0 ∷ 1535 ∷ 1536 ∷ 1835 ∷ 1836 ∷ 2035 ∷ 2036 ∷ 2037 ∷ 2048 ∷ 2559 ∷ 2592 ∷ [])

unfoldable pub pack_table : List Row
pack_table =
    -- "P12's container packs to sizes 501 and 1, G 1,024, META2 at 2,560 holding 1, 0, 501, -1, length 2,592", in both byte orders
    record {
      computed = packed_two (p12 3 false) false ++ packed_two (p12 3 true) true;
      stated =
          let stated : List ℤ = pos 501 ∷ pos 1 ∷ pos 1 ∷ pos 2560 ∷ pos 1 ∷ pos 0 ∷ pos 501 ∷ negsuc 0 ∷ pos 0 ∷ pos 2592 ∷ [] in stated ++ stated;
    }
    -- "version 4: 1, 1, 501, 0, the same length"
    ∷ record {
      computed = packed_two (p12 4 false) false;
      stated = pos 501 ∷ pos 1 ∷ pos 1 ∷ pos 2560 ∷ pos 1 ∷ pos 1 ∷ pos 501 ∷ pos 0 ∷ pos 0 ∷ pos 2592 ∷ [];
    }
    -- its bytes, over nines: gaps and padding are zeros, later bytes stay
    ∷ row (places (p12 3 false)) (115 ∷ 0 ∷ 1 ∷ 1 ∷ 2 ∷ 2 ∷ 3 ∷ 0 ∷ 0 ∷ 0 ∷ 9 ∷ [])
    -- the length beforehand, one byte too little, and what that leaves
    ∷ row
    ((Pack.pack_needs (p12 3 false)).refusal
    ∷ (Pack.pack_needs (p12 3 false)).bytes
    ∷ Pack.pack_refusal (p12 3 false) (nines 2591)
    ∷ Pack.pack_refusal (p12 3 false) (nines 2592)
    ∷ take 2 (Pack.pack_image (p12 3 false) (nines 2591)))
    (0 ∷ 2592 ∷ 18 ∷ 0 ∷ 9 ∷ 9 ∷ [])
    -- nothing written: in version 3 no chunk at all, and META2 at D
    ∷ row
    (Pack.packed_most (loaded_in 3 false [])
    ∷ (Pack.pack_needs (loaded_in 3 false [])).bytes
    ∷ Pack.packed_most (loaded_in 4 false [])
    ∷ (Pack.pack_needs (loaded_in 4 false [])).bytes
    ∷ [])
    (0 ∷ 1552 ∷ 1 ∷ 2592 ∷ [])
    ∷ []
