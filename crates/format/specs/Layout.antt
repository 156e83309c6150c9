-- Document 01, "Where the chunks lie", with the ends of both metadata blocks, and W-202. b is the blocksize, n the number of tasks, `size i` the
-- requested size of task i + 1. A task or a chunk that is an argument by that name is counted from 1, as in the paper.
use Rattle.std.specs.Prelude.{ℕ, ◌+◌, ◌-◌, ◌*◌, ◌/◌}
use Rattle.lists.specs.Below.{sum_below}

-- "META1 ends at 1088+16n"
unfoldable pub meta1_end : ℕ → ℕ
meta1_end n = 1088 + 16 * n

-- the least multiple of b that is at least x
unfoldable pub round_up : ℕ → ℕ → ℕ
round_up b x = (x + (b - 1)) / b * b

-- D: "the least multiple of blocksize that is at least 1088+16n"
unfoldable pub data_start : ℕ → ℕ → ℕ
data_start b n = round_up b (meta1_end n)

-- "The extended size of a task is its requested size rounded up to a multiple of blocksize"
unfoldable pub extended : ℕ → ℕ → ℕ
extended b size = round_up b size

-- what a chunk holds, by W-202: "a chunk holds its extended size"
unfoldable pub capacity : ℕ → ℕ → ℕ
capacity b size = extended b size

-- and what it held before: "A chunk holds at most the requested size; the rest of the extended chunk is a gap"
abbrev pub requested : ℕ → ℕ → ℕ
requested b size = size

-- "the extended sizes of the tasks before it", for task i + 1
unfoldable pub extended_before : ℕ → (ℕ → ℕ) → ℕ → ℕ
extended_before b size i = sum_below i (λ j. extended b (size j))

-- G: "the sum of all extended sizes"
unfoldable pub globalskip : ℕ → ℕ → (ℕ → ℕ) → ℕ
globalskip b n size = extended_before b size n

-- "Chunk 1 of a task starts at D plus the extended sizes of the tasks before it; chunk k starts (k-1) times G later"
unfoldable pub chunk_start : ℕ → ℕ → (ℕ → ℕ) → ℕ → ℕ → ℕ
chunk_start b n size task chunk = data_start b n + extended_before b size (task - 1) + (chunk - 1) * globalskip b n size

-- "META2 starts at D + maxchunks times G", and "has 8n(1+maxchunks) bytes"
unfoldable pub meta2_start : ℕ → ℕ → (ℕ → ℕ) → ℕ → ℕ
meta2_start b n size maxchunks = data_start b n + maxchunks * globalskip b n size

unfoldable pub meta2_length : ℕ → ℕ → ℕ
meta2_length n maxchunks = 8 * n * (1 + maxchunks)

unfoldable pub meta2_end : ℕ → ℕ → (ℕ → ℕ) → ℕ → ℕ
meta2_end b n size maxchunks = meta2_start b n size maxchunks + meta2_length n maxchunks

-- "The image needs D + K·G + 8n(1+K) bytes": up to the end of META2 if all K planned blocks come into use
abbrev pub image_needed : ℕ → ℕ → (ℕ → ℕ) → ℕ → ℕ
image_needed b n size planned = meta2_end b n size planned
