-- Document 01, "The first metadata block" and "The second metadata block", as the bytes that opening and closing store over an image of nines,
-- written out number by number in both byte orders. That the rules compute these bytes is proved in proofs/Numbers.antt.
use Rattle.std.specs.Prelude.{List, [], ◌∷◌, ◌++◌, ℕ, pos, negsuc, take, drop, replicate}
use Rattle.format.specs.declared.head.File.TheVariants.{Single}
use Rattle.format.specs.Session.{State}
use Rattle.format.specs.Open.{Opening, opened}
use Rattle.format.specs.Write.{writes}
use Rattle.format.specs.Close.{close_image}
use Rattle.format.specs.Numbers.{Row, row, plan, two, write, two_first, two_last}

-- ---- opening: version -2, patch level 7, blocksize 512, ranks 5 and 258, sizes 500 and 600, the prefix `ab`

abbrev pub ab_plan : ℕ → Opening
ab_plan order =
    record {
      file = Single;
      plan = record { order = order; version = negsuc 1; patch = pos 7; format = 3; blocksize = 512; planned = 3 };
      ranks = 5 ∷ 258 ∷ [];
      sizes = two;
      prefix = 97 ∷ 98 ∷ [];
    }

-- an image and a table of nines, opened
abbrev pub over_nines : Opening → State
over_nines o = opened o (replicate 6208 9) (replicate 7 (pos 9))

-- META1, the zeros up to 1536, and one byte more
abbrev pub ab_bytes : ℕ → List ℕ
ab_bytes order = take 1537 (over_nines (ab_plan order)).image

abbrev pub zeros : ℕ → List ℕ
zeros n = replicate n 0

-- the magic number, the number 1, version, patch level, fileformat_version, blocksize, n, nfiles; filenumber; both flags; the prefix; two ranks; two sizes;
-- maxchunks and start_of_varheader, which are 0; the zeros up to D; a byte of the image
abbrev pub ab_little : List ℕ
ab_little =
    (115 ∷ 105 ∷ 111 ∷ 110 ∷ [])
    ++ (1 ∷ 0 ∷ 0 ∷ 0 ∷ [])
    ++ (254 ∷ 255 ∷ 255 ∷ 255 ∷ [])
    ++ (7 ∷ 0 ∷ 0 ∷ 0 ∷ [])
    ++ (3 ∷ 0 ∷ 0 ∷ 0 ∷ [])
    ++ (0 ∷ 2 ∷ 0 ∷ 0 ∷ [])
    ++ (2 ∷ 0 ∷ 0 ∷ 0 ∷ [])
    ++ (1 ∷ 0 ∷ 0 ∷ 0 ∷ [])
    ++ zeros 4
    ++ zeros 16
    ++ (97 ∷ 98 ∷ zeros 1022)
    ++ (5 ∷ zeros 7)
    ++ (2 ∷ 1 ∷ zeros 6)
    ++ (244 ∷ 1 ∷ zeros 6)
    ++ (88 ∷ 2 ∷ zeros 6)
    ++ zeros 12
    ++ zeros 416
    ++ (9 ∷ [])

-- the same in big order
abbrev pub ab_big : List ℕ
ab_big =
    (115 ∷ 105 ∷ 111 ∷ 110 ∷ [])
    ++ (0 ∷ 0 ∷ 0 ∷ 1 ∷ [])
    ++ (255 ∷ 255 ∷ 255 ∷ 254 ∷ [])
    ++ (0 ∷ 0 ∷ 0 ∷ 7 ∷ [])
    ++ (0 ∷ 0 ∷ 0 ∷ 3 ∷ [])
    ++ (0 ∷ 0 ∷ 2 ∷ 0 ∷ [])
    ++ (0 ∷ 0 ∷ 0 ∷ 2 ∷ [])
    ++ (0 ∷ 0 ∷ 0 ∷ 1 ∷ [])
    ++ zeros 4
    ++ zeros 16
    ++ (97 ∷ 98 ∷ zeros 1022)
    ++ (zeros 7 ++ (5 ∷ []))
    ++ (zeros 6 ++ (1 ∷ 2 ∷ []))
    ++ (zeros 6 ++ (1 ∷ 244 ∷ []))
    ++ (zeros 6 ++ (2 ∷ 88 ∷ []))
    ++ zeros 12
    ++ zeros 416
    ++ (9 ∷ [])

-- ---- closing: the session of P11 over nines, and 12 bytes more, which no longer fit

abbrev pub closed_nines : ℕ → List ℕ
closed_nines order = close_image (writes (over_nines (plan order 512 two 3)) (two_first ++ (two_last ∷ write 12 4 ∷ [])))

-- META1's last two fields; the byte of P11 with those around it; the ends of the bytes in chunk 2, with one before and one after; META2, 2, 0,
-- 501, -1, 12, -1, and one byte more
abbrev pub closed_parts : List ℕ → List ℕ
closed_parts image =
    take 12 (drop 1108 image)
    ++ take 3 (drop 2035 image)
    ++ take 2 (drop 3071 image)
    ++ take 2 (drop 3083 image)
    ++ take 49 (drop 4608 image)

abbrev pub all255 : List ℕ
all255 = replicate 8 255

unfoldable pub byte_table : List Row
byte_table =
    row (ab_bytes 0) ab_little
    ∷ row (ab_bytes 1) ab_big
    -- -1 in the first 6 cells, and no more
    ∷ record { computed = (over_nines (ab_plan 0)).table; stated = replicate 6 (negsuc 0) ++ (pos 9 ∷ []) }
    ∷ row (closed_parts (closed_nines 0))
    ((2 ∷ zeros 3)
    ++ (0 ∷ 18 ∷ zeros 6)
    ++ (2 ∷ 3 ∷ 9 ∷ [])
    ++ (9 ∷ 4 ∷ 4 ∷ 9 ∷ [])
    ++ ((2 ∷ zeros 7) ++ zeros 8 ++ (245 ∷ 1 ∷ zeros 6) ++ all255 ++ (12 ∷ zeros 7) ++ all255 ++ (9 ∷ [])))
    ∷ row (closed_parts (closed_nines 1))
    ((zeros 3 ++ (2 ∷ []))
    ++ (zeros 6 ++ (18 ∷ 0 ∷ []))
    ++ (2 ∷ 3 ∷ 9 ∷ [])
    ++ (9 ∷ 4 ∷ 4 ∷ 9 ∷ [])
    ++ ((zeros 7 ++ (2 ∷ [])) ++ zeros 8 ++ (zeros 6 ++ (1 ∷ 245 ∷ [])) ++ all255 ++ (zeros 7 ++ (12 ∷ [])) ++ all255 ++ (9 ∷ [])))
    ∷ []
