-- What is known of a record that passed tests 17, 18 and 19, a session's or a loaded one's; write, close and the reads go by it.
use Rattle.std.specs.Prelude.{true, List, ◌≡◌, ℕ, ◌*◌, ◌≤◌, ◌<◌, ℤ, length}
use Rattle.format.specs.Limits.{max_blocks, Sound}
use Rattle.format.specs.declared.head.Head.{Head}
use Rattle.format.specs.Meta2.{least_count}
use Rattle.format.specs.Record.{all_lists, sizes_of, size_of, count_of, head_sound, end_at, cells_agree}
use Rattle.format.specs.Reads.{Container}

-- for m chunks of each task: a session's planned blocks, or a loaded record's maxchunks
pub record Passed (h : Head) (lists : List ℕ) (m : ℕ) (image : List ℕ) (table : List ℤ) : Type 0 where
  pub head : head_sound h lists ≡ true
  pub few : m ≤ max_blocks
  pub counts : (i : ℕ) → i < h.n → (least_count h.format ≤ count_of lists i) × (count_of lists i ≤ m)
  pub image_long : end_at h (size_of lists) m ≤ length image
  pub table_long : h.n * m ≤ length table
  pub agree : cells_agree h lists m table ≡ true

-- what a store of META2 and a fill from it ask for: it is whole in the image, and the table has a cell for each of its values
pub record Meta2Fits (h : Head) (lists : List ℕ) (m : ℕ) (image : List ℕ) (table : List ℤ) : Type 0 where
  pub as_many : length lists ≡ all_lists
  pub sound : Sound h.blocksize h.n (sizes_of lists)
  pub few : m ≤ max_blocks
  pub image_long : end_at h (size_of lists) m ≤ length image
  pub table_long : h.n * m ≤ length table

-- what the reads of one task, counted from 1, ask for beside it
pub record Readable (c : Container) (task : ℕ) : Type 0 where
  pub as_many : length c.lists ≡ all_lists
  pub passed : Passed c.loaded.head c.lists c.loaded.maxchunks c.image c.table
  pub first_task : 1 ≤ task
  pub last_task : task ≤ c.loaded.head.n
