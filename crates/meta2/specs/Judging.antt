-- META2's part as code judges it: what is known of the part, of its head and of the lists beside it.
use Rattle.std.specs.Prelude.{◌≡◌, List, ℕ, ◌+◌, ◌*◌, ◌^◌, ◌≤◌, ◌<◌, length}
use Rattle.endian.specs.Number.{number_at}
use Rattle.format.specs.Limits.{max_blocks, Sound}
use Rattle.format.specs.Layout.{meta2_length}
use Rattle.format.specs.declared.head.Head.{Head}
use Rattle.format.specs.Record.{sizes_of, count_of, is_big}
use Rattle.format.specs.Judge.{count_in}

-- META1 passed: the part is whole, starts at `at` of the image, and the lists have the sizes
pub record Meta2There (part : List ℕ) (at : ℕ) (h : Head) (maxchunks : ℕ) (lists : List ℕ) : Type 0 where
  pub sound : Sound h.blocksize h.n (sizes_of lists)
  pub small : maxchunks ≤ max_blocks
  pub whole : meta2_length h.n maxchunks ≤ length part
  pub ends : at + length part < 2 ^ 64

-- the counts are read, without a sign
pub record CountsRead (part : List ℕ) (at : ℕ) (h : Head) (maxchunks : ℕ) (lists : List ℕ) : Type 0 where
  pub there : Meta2There part at h maxchunks lists
  pub counts_are : (i : ℕ) → i < h.n → count_of lists i ≡ number_at (is_big h) 8 part (8 * i)

-- they passed, and so they are what the fields say
pub record CountsPassed (part : List ℕ) (at : ℕ) (h : Head) (maxchunks : ℕ) (lists : List ℕ) : Type 0 where
  pub there : Meta2There part at h maxchunks lists
  pub kept : (i : ℕ) → i < h.n → count_of lists i ≡ count_in h part i
