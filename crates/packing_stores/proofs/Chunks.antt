-- Where packing is accepted: each task may be read, its packed size is in range and listed, and its chunk fits behind those before it.
use mathlib.Core.Path.{◌≡◌, sym, ap, ◌∙◌}
use mathlib.Core.List.{List}
use Prim.Native.Nat.{ℕ, ◌+◌, ◌≤◌, ◌<◌}
use native.Mathlib.Omega.{arith}
use lib.ListN.{length, take, get_or}
use lib.Seq.{get_or-take}
use Rattle.lists.specs.Below.{join_below, list_below}
use Rattle.lists.proofs.Below.{sum_step, length_joined, get_or_list}
use Rattle.format.specs.Limits.{max_size}
use Rattle.format.specs.Layout.{globalskip, extended_before, capacity}
use Rattle.format.specs.Refusals.{first_failing}
use Rattle.format.specs.Record.{all_lists}
use Rattle.format.specs.Reads.{Container}
use Rattle.format.specs.Passed.{Readable}
use Rattle.packs.specs.Pack.{pack_tests, packed_size, packed_chunk}
use Rattle.packs.proofs.Packed.{passed, total_small, chunk_long}

-- a list that begins with n numbers
module _ (f : ℕ → ℕ) (n : ℕ) (xs : List ℕ) (e : take n xs ≡ list_below n f) where
  pub begins_at : (i : ℕ) → i < n → get_or xs i 0 ≡ f i
  begins_at i l = sym (get_or-take n xs i 0 l) ∙ ap (λ (ys : List ℕ). get_or ys i 0) e ∙ get_or_list f n i 0 l

module _ (c : Container) (e : first_failing (pack_tests c) ≡ 0) where
  pub task_readable : length c.lists ≡ all_lists → (i : ℕ) → i < c.loaded.head.n → Readable c (i + 1)
  task_readable long i l = record { as_many = long; passed = passed c e; first_task = omega arith; last_task = omega arith }

  pub packed_small : (i : ℕ) → i < c.loaded.head.n → packed_size c i ≤ max_size
  packed_small i l = omega (arith, total_small c e i l)

  pub chunks_fit : (i : ℕ) → i < c.loaded.head.n
      → let b = c.loaded.head.blocksize in
      length (join_below i (packed_chunk c)) + capacity b (packed_size c i) ≤ globalskip b c.loaded.head.n (packed_size c)
  unfolding globalskip extended_before capacity
  chunks_fit i l =
      let holds : ℕ → ℕ = λ j. capacity c.loaded.head.blocksize (packed_size c j) in
      let first = length_joined (packed_chunk c) holds i (λ j h. chunk_long c e j (omega arith)) in
      omega (arith, first, sum_step holds i c.loaded.head.n l)
