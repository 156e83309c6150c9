-- The program's line for inputs whose answer the papers give, each beside what the rules compute. That the two are the
-- same is proved in proofs/Numbers.antt.
use Rattle.std.specs.Prelude.{List, [], ◌∷◌, take, replicate}
use Rattle.format.specs.Numbers.{Row, row, two_image, stored_two, smallest}
use Rattle.format.specs.Line.{line_of}

unfoldable pub line_table : List Row
line_table =
    -- P12, "the program's line `0 2 1 501 0`" by W-202, from its 3,104 bytes
    row (line_of (two_image 0 3104)) (48 ∷ 32 ∷ 50 ∷ 32 ∷ 49 ∷ 32 ∷ 53 ∷ 48 ∷ 49 ∷ 32 ∷ 48 ∷ [])
    -- the container that was stored before it keeps the line of document 01, `0 2 2 501 0`
    ∷ row (line_of (stored_two 0)) (48 ∷ 32 ∷ 50 ∷ 32 ∷ 50 ∷ 32 ∷ 53 ∷ 48 ∷ 49 ∷ 32 ∷ 48 ∷ [])
    -- an empty input: `1`
    ∷ row (line_of []) (49 ∷ [])
    -- a container of one task that wrote nothing, cut short by one byte: `12`
    ∷ row (line_of (take 1543 smallest)) (49 ∷ 50 ∷ [])
    -- the most bytes that are judged, all of them 0, and one more: `1` and `long`
    ∷ row (line_of (replicate 65_536 0)) (49 ∷ [])
    ∷ row (line_of (replicate 65_537 0)) (108 ∷ 111 ∷ 110 ∷ 103 ∷ [])
    ∷ []
