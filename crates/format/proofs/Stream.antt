-- Laws of a task's stream: it has the length of its total, and each of its chunks may be read.
use mathlib.Core.Path.{◌≡◌, ◌∙◌}
use Prim.Native.Nat.{ℕ, ◌+◌, ◌<◌, ◌≤◌}
use native.Mathlib.Omega.{arith}
use lib.ListN.{length, length-drop}
use lib.Seq.{length-take-le}
use Rattle.lists.proofs.Below.{length_joined}
use Rattle.endian.proofs.Signed.{within_holds}
use Rattle.format.specs.Refusals.{first_failing}
use Rattle.format.proofs.Refusals.{first_passes}
use Rattle.format.specs.declared.loaded.ByteCount.{ByteCount}
use Rattle.format.specs.Reads.{Container, read_tests, chunks_used, written_in, chunk_bytes, chunk_refusal, stream_of, total_of}
use Rattle.format.specs.Passed.{Readable}
use Rattle.format.proofs.Readable.{read_numbered, written_inside}

module _ (c : Container) (task : ℕ) (r : Readable c task) where
  pub chunk_length : (k : ℕ) → k < chunks_used c task → length (chunk_bytes c task (k + 1)) ≡ written_in c task (k + 1)
  unfolding chunk_bytes
  chunk_length k l = length-take-le (written_in c task (k + 1)) _ (simp length-drop (omega (arith, written_inside r (k + 1) (omega arith) (omega arith))))

  pub stream_length : length (stream_of c task) ≡ total_of c task
  unfolding stream_of total_of
  stream_length = length_joined _ _ (chunks_used c task) chunk_length

-- where a task may be read, a chunk that it uses may be
pub chunk_passes : (c : Container) (task chunk : ℕ) → first_failing (read_tests c task) ≡ 0 → 1 ≤ chunk → chunk ≤ chunks_used c task → chunk_refusal c task chunk ≡ 0
unfolding chunk_refusal first_failing
chunk_passes c task chunk e l h =
    first_passes (read_tests c task) _ (read_numbered c task) e ∙ rw (within_holds 1 (chunks_used c task) chunk l h)

-- what a copying read and a total answer
abbrev pub counted : ℕ → ℕ → ByteCount
counted refusal bytes = record { refusal = refusal; bytes = bytes }
