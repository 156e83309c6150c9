-- What tests 17, 18, 19 and 14 give a read of a task: its chunks that are in use, with their cells and their bytes in the image.
use mathlib.Core.Path.{◌≡◌}
use Prim.Native.Nat.{ℕ, ◌+◌, ◌-◌, ◌≤◌, ◌<◌}
use native.Mathlib.Omega.{arith}
use borrow.Author.Tests.{not-false}
use lib.ListN.{length}
use Rattle.endian.proofs.Signed.{within_facts}
use Rattle.format.specs.Limits.{max_size, max_blocks, Sound, max_tasks}
use Rattle.format.specs.Refusals.{first_failing}
use Rattle.format.specs.Meta2.{value_index}
use Rattle.format.specs.Record.{all_lists, sizes_of, size_of, holds, start_of, record_tests, entry, count_at, file_in}
use Rattle.format.proofs.Refusals.{Numbered, both_pass, none_fails}
use Rattle.format.specs.Reads.{Container, loaded_tests, read_tests, chunks_used, written_in, chunk_refusal}
use Rattle.format.specs.Passed.{Readable}
use Rattle.format.proofs.Passing.{passed_sound, holds_small, count_few, cell_listed, chunk_inside, cell_range}
use Rattle.format.proofs.LoadedRecords.{loaded_numbered, loaded_passed, loaded_file}
use Rattle.format.proofs.Stripes.{count_at_place}

pub read_numbered : (c : Container) (task : ℕ) → Numbered (read_tests c task)
unfolding read_tests loaded_tests record_tests
read_numbered c task = omega arith

module _ (c : Container) (task : ℕ) (long : length c.lists ≡ all_lists) where
  pub readable : first_failing (read_tests c task) ≡ 0 → Readable c task
  unfolding read_tests
  readable e =
      let (record_passes, task_passes) = both_pass (loaded_tests c) _ (loaded_numbered c) e in
      let (first, last) = within_facts 1 _ task (not-false _ (none_fails _ (omega arith, tt) task_passes).0) in
      record { as_many = long; passed = loaded_passed c record_passes; first_task = first; last_task = last }

  -- and test 22 a chunk in use
  pub chunk_readable : (chunk : ℕ) → chunk_refusal c task chunk ≡ 0 → Readable c task × ((1 ≤ chunk) × (chunk ≤ chunks_used c task))
  unfolding chunk_refusal
  chunk_readable chunk e =
      let (all, last) = both_pass (read_tests c task) _ (read_numbered c task) e in
      (readable all, within_facts 1 (chunks_used c task) chunk (not-false _ (none_fails _ (omega arith, tt) last).0))

-- the file that the call means is then the one that the record says it is
pub read_file : (c : Container) (task : ℕ) → first_failing (read_tests c task) ≡ 0 → file_in c.loaded.head ≡ c.file
unfolding read_tests
read_file c task e = loaded_file c (both_pass (loaded_tests c) _ (loaded_numbered c) e).0

pub chunk_file : (c : Container) (task chunk : ℕ) → chunk_refusal c task chunk ≡ 0 → file_in c.loaded.head ≡ c.file
unfolding chunk_refusal
chunk_file c task chunk e = read_file c task (both_pass (read_tests c task) _ (read_numbered c task) e).0

module _ {c : Container} {task : ℕ} (r : Readable c task) where
  pub read_sound : Sound c.loaded.head.blocksize c.loaded.head.n (sizes_of c.lists)
  read_sound = passed_sound r.passed r.as_many

  -- the task has an entry in each list, and its count is the chunks that it uses
  pub read_listed : task - 1 < max_tasks
  read_listed = omega (arith, r.first_task, r.last_task, read_sound.tasks)

  pub read_counted : entry c.lists (count_at (task - 1)) ≡ chunks_used c task
  unfolding chunks_used
  read_counted = count_at_place c.lists (task - 1) read_listed

  used_fewer : chunks_used c task ≤ c.loaded.maxchunks
  unfolding chunks_used
  used_fewer = count_few r.passed task r.first_task r.last_task

  pub used_few : chunks_used c task ≤ max_blocks
  used_few = omega (arith, used_fewer, r.passed.few)

  -- the cell of chunk k + 1
  pub used_listed : (k : ℕ) → k < chunks_used c task → value_index c.loaded.head.n k (task - 1) < length c.table
  used_listed k l = cell_listed r.passed task r.first_task r.last_task k (omega (arith, used_fewer))

  module _ (chunk : ℕ) (first : 1 ≤ chunk) (last : chunk ≤ chunks_used c task) where
    written_holds : written_in c task chunk ≤ holds c.loaded.head (size_of c.lists) (task - 1)
    unfolding written_in chunks_used
    written_holds = (cell_range r.passed task r.first_task r.last_task (chunk - 1) (omega arith)).2

    pub written_small : written_in c task chunk ≤ max_size
    written_small = omega (arith, written_holds, holds_small r.passed task r.first_task r.last_task)

    pub written_inside : start_of c.loaded.head (size_of c.lists) task chunk + written_in c task chunk ≤ length c.image
    written_inside =
        omega (
          arith,
          written_holds,
          chunk_inside r.passed task r.first_task r.last_task chunk first (omega (arith, used_fewer)),
        )
