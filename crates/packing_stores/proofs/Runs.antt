-- Laws of runs of bytes that are stored one after the other: none of them yet, and the chunks of a task's stream.
use mathlib.Core.Path.{◌≡◌, ap}
use mathlib.Core.List.{List, [], ◌++◌}
use Prim.Native.Nat.{ℕ, ◌+◌, ◌-◌, ◌≤◌, ◌<◌}
use native.Mathlib.Omega.{arith}
use lib.ListN.{length, replicate, length-replicate}
use lib.Seq.{take-nil}
use Rattle.lists.specs.Below.{join_below}
use Rattle.lists.proofs.Below.{sum_step, length_joined}
use Rattle.lists.proofs.Splice.{put_none}
use Rattle.lists.specs.Stores.{Spends}
use Rattle.lists.proofs.Stores.{Run, run_first, run_then, spends_same}
use Rattle.format.specs.Reads.{Container, chunks_used, written_in, chunk_bytes, stream_of, total_of}
use Rattle.format.specs.Passed.{Readable}
use Rattle.format.proofs.Stream.{chunk_length}

pub run_none : (b : ℕ) (xs : List ℕ) (at : ℕ) → Run b xs at [] xs at b
run_none b xs at = record {
  spends = record { leaves = rw take-nil (put_none xs at).0; spent = omega arith };
  ends = omega arith;
}

-- the bytes of the first k chunks
abbrev pub before : Container → ℕ → ℕ → List ℕ
before c task k = join_below k (λ j. chunk_bytes c task (j + 1))

module _ {c : Container} {task : ℕ} (r : Readable c task) where
  pub before_fits : (k : ℕ) → k < chunks_used c task → length (before c task k) + length (chunk_bytes c task (k + 1)) ≤ total_of c task
  unfolding total_of
  before_fits k l =
      let written : ℕ → ℕ = λ j. written_in c task (j + 1) in
      let first = length_joined (λ j. chunk_bytes c task (j + 1)) written k (λ j h. chunk_length c task r j (omega arith)) in
      omega (arith, first, chunk_length c task r k l, sum_step written k (chunks_used c task) l)

pub before_all : (c : Container) (task k : ℕ) → k ≡ chunks_used c task → before c task k ≡ stream_of c task
unfolding stream_of
before_all c task k e = ap (before c task) e

-- a run, and zeros behind it up to `holds` bytes
pub then_zeros : {b : ℕ} {xs : List ℕ} {at : ℕ} (us : List ℕ) (total holds : ℕ) {t : ℕ} {ys zs : List ℕ} {left rest : ℕ} → t ≡ total
    → length us ≡ total → total ≤ holds → at + holds ≤ length xs → Spends b xs at us ys left
    → Spends left ys (at + t) (replicate (at + holds - (at + t)) 0) zs rest → Spends b xs at (us ++ replicate (holds - total) 0) zs rest
then_zeros {b} {xs} {at} us total holds {t} e long l fits s zeros =
    let z : at + holds - (at + t) ≡ holds - total = omega arith in
    (run_then b xs at us (replicate (holds - total) 0) (holds - total) (run_first b xs at us total long s) (length-replicate (holds - total) 0)
    (spends_same (ap (λ (k : ℕ). at + k) e) (ap (λ (k : ℕ). replicate k 0) z) zeros) (omega arith)).spends
