-- What a look for a rank finds: the file of the pair that has its task, and the task there, which may be read.
use Rattle.std.specs.Prelude.{◌≡◌, ℕ}
use Rattle.format.specs.Reads.{Container}
use Rattle.format.specs.Passed.{Readable}
use Rattle.pairs.specs.Mapping.{file_of_rank}
use Rattle.pairs.specs.Reads.{LoadedPair, second?, file_there, task_there}

pub record Found (p : LoadedPair) (rank file : ℕ) (c : Container) (task : ℕ) : Type 0 where
  pub which : file ≡ file_of_rank (second? p rank)
  pub file_is : c ≡ file_there p rank
  pub task_is : task ≡ task_there p rank
  pub may_read : Readable c task
