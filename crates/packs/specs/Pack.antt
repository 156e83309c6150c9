-- Document 02, W-210, "Packing before the copy": a loaded container written anew into a second image, with all bytes of each task in its chunk 1.
-- Tasks are counted from 0 here: i for task i + 1.
use Rattle.std.specs.Prelude.{cond, not, List, [], ◌∷◌, ◌++◌, ℕ, ◌+◌, ◌-◌, max, ltb, eqb, ℤ, pos, length, take, drop, replicate}
use Rattle.lists.specs.Below.{all_below, greatest_below, join_below}
use Rattle.lists.specs.Splice.{splice}
use Rattle.lists.specs.Stores.{Store, store, applied, found}
use Rattle.format.specs.declared.head.Head.{Head}
use Rattle.format.specs.declared.loaded.ByteCount.{ByteCount}
use Rattle.format.specs.Limits.{max_size}
use Rattle.format.specs.Layout.{meta1_end, data_start, capacity, meta2_start, meta2_end}
use Rattle.format.specs.Meta1.{magic, fixed_length, meta1}
use Rattle.format.specs.Meta2.{unused, least_count, meta2}
use Rattle.format.specs.Refusals.{Test, test, first_failing}
use Rattle.format.specs.Record.{rank_of, is_big}
use Rattle.format.specs.Reads.{Container, loaded_tests, stream_of, total_of}

-- where the flags stand in META1, with the prefix behind them
abbrev pub flags_at : ℕ
flags_at = 36

module _ (c : Container) where
  abbrev pub head : Head
  head = c.loaded.head

  abbrev pub total : ℕ → ℕ
  total i = total_of c (i + 1)

  -- "each task's size is its total, at least 1"
  abbrev pub packed_size : ℕ → ℕ
  packed_size i = max 1 (total i)

  -- "A task with total 0 has count 0 (version 4: count 1 with 0 bytes)"; all others have chunk 1 in use, and maxchunks is the greatest count
  abbrev pub packed_count : ℕ → ℕ
  packed_count i = cond (eqb (total i) 0) (least_count head.format) 1

  abbrev pub packed_most : ℕ
  packed_most = greatest_below head.n packed_count

  -- what META2 says of chunk 1
  abbrev pub packed_cell : ℕ → ℤ
  packed_cell i = cond (eqb (packed_count i) 0) unused (pos (total i))

  abbrev pub packed_start : ℕ
  packed_start = meta2_start head.blocksize head.n packed_size packed_most

  unfoldable pub packed_length : ℕ
  packed_length = meta2_end head.blocksize head.n packed_size packed_most

  -- "byte order, versions, ranks and blocksize of the record, flags and prefix of the image"
  unfoldable pub packed_meta1 : List ℕ
  packed_meta1 =
      splice (meta1 head (rank_of c.lists) packed_size [] packed_most packed_start) flags_at
      (take (fixed_length - flags_at) (drop flags_at c.image))

  -- "all its bytes stand in chunk 1"; "Gaps and padding are written as zeros"
  unfoldable pub packed_chunk : ℕ → List ℕ
  packed_chunk i = stream_of c (i + 1) ++ replicate (capacity head.blocksize (packed_size i) - total i) 0

  unfoldable pub packed_bytes : List ℕ
  packed_bytes =
      packed_meta1
      ++ replicate (data_start head.blocksize head.n - meta1_end head.n) 0
      ++ cond (eqb packed_most 0) [] (join_below head.n packed_chunk)
      ++ meta2 (is_big head) head.n packed_most packed_count packed_cell

  -- as stores, in order: 0 into the mark's first byte, then all from the second byte on, and the `s` last
  unfoldable pub packed_stores : List Store
  packed_stores = store 0 (0 ∷ []) ∷ store 1 (drop 1 packed_bytes) ∷ store 0 (take 1 magic) ∷ []

  -- ---- the tests: "After 17, 18 and 19, a total over 1,073,741,824 gives 9; then a second image shorter than the packed container gives 18"

  unfoldable pub pack_tests : List Test
  pack_tests = loaded_tests c ++ (test 9 (not (all_below head.n (λ i. not (ltb max_size (total i))))) ∷ [])

  -- the packed length beforehand
  unfoldable pub pack_needs : ByteCount
  pack_needs =
      cond (eqb (first_failing pack_tests) 0) (record { refusal = 0; bytes = packed_length })
      (record { refusal = first_failing pack_tests; bytes = 0 })

  module _ (second : List ℕ) where
    unfoldable pub pack_refusal : ℕ
    pack_refusal = first_failing (pack_tests ++ (test 18 (ltb (length second) packed_length) ∷ []))

    unfoldable pub pack_answer : ByteCount
    pack_answer = cond (eqb pack_refusal 0) (record { refusal = 0; bytes = packed_length }) (record { refusal = pack_refusal; bytes = 0 })

    -- a refused one stores nothing
    unfoldable pub pack_stores : List Store
    pack_stores = cond (eqb pack_refusal 0) packed_stores []

    -- what is left of the second image, with all of its stores and within a budget; "Later bytes stay"
    unfoldable pub pack_image : List ℕ
    pack_image = applied second pack_stores

    unfoldable pub pack_found : ℕ → List ℕ
    pack_found budget = found budget second pack_stores
