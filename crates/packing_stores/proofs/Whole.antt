-- The front, the chunks and META2, stored one after the other, are all bytes of the packed image from the second on.
use mathlib.Core.Path.{◌≡◌, refl, sym, ap, ◌∙◌}
use mathlib.Core.Bool.{cond}
use mathlib.Core.List.{List, [], ◌++◌, append_assoc}
use Prim.Native.Nat.{ℕ, ◌+◌, ◌-◌, ◌*◌, ◌≤◌}
use native.Mathlib.Omega.{arith}
use lib.Dec.{eqb}
use lib.ListN.{length, take, drop, replicate, length-append, length-drop, length-replicate}
use lib.Seq.{drop-append-le}
use Rattle.lists.specs.Below.{join_below, list_below}
use Rattle.lists.specs.Stores.{Spends}
use Rattle.lists.proofs.Stores.{spends_same, run_first, run_then}
use Rattle.format.specs.Layout.{meta1_end, data_start, globalskip, meta2_start, meta2_length, meta2_end}
use Rattle.format.specs.Meta2.{meta2}
use Rattle.format.specs.Refusals.{first_failing}
use Rattle.format.specs.Record.{entry, rank_of, is_big}
use Rattle.format.specs.Reads.{Container}
use Rattle.format.proofs.Chunks.{meta1_before_data}
use Rattle.format.proofs.Stored.{length_meta2}
use Rattle.packs.specs.Pack
use Rattle.packs.proofs.Packed.{positive, chunks_long, front_long}
use Rattle.packing_stores.specs.Front.{front_bytes}
use Rattle.packing_stores.proofs.Front.{front_packed}

module _ (c : Container) (e : first_failing (Pack.pack_tests c) ≡ 0) where
  abbrev n : ℕ
  n = c.loaded.head.n

  abbrev d : ℕ
  d = data_start c.loaded.head.blocksize n

  abbrev front : List ℕ
  front = Pack.packed_meta1 c ++ replicate (d - meta1_end n) 0

  abbrev chunks : List ℕ
  chunks = cond (eqb (Pack.packed_most c) 0) [] (join_below n (Pack.packed_chunk c))

  abbrev last : List ℕ
  last = meta2 (is_big c.loaded.head) n (Pack.packed_most c) (Pack.packed_count c) (Pack.packed_cell c)

  front_ends : (length front ≡ d) × (1 ≤ d)
  unfolding meta1_end
  front_ends =
      let before = meta1_before_data c.loaded.head.blocksize n (positive c e) in
      (simp (length-append, length-replicate) (omega (arith, front_long c e, before)), omega (arith, before))

  in_runs : (drop 1 front ++ chunks) ++ last ≡ drop 1 (Pack.packed_bytes c)
  unfolding Pack.packed_bytes
  in_runs =
      append_assoc (drop 1 front) chunks last
      ∙ sym (drop-append-le 1 front (chunks ++ last) (omega (arith, front_ends)))
      ∙ ap (drop 1) (sym (append_assoc front chunks last))

  pub packed_stored : (sizes : List ℕ) → take n sizes ≡ list_below n (Pack.packed_size c) → (budget : ℕ) (xs : List ℕ)
      {ys₁ ys₂ ys₃ : List ℕ} {r₁ r₂ r₃ : ℕ} → Pack.packed_length c ≤ length xs
      → let m = Pack.packed_most c in
      Spends budget xs 1 (drop 1 (front_bytes c.loaded.head (rank_of c.lists) (entry sizes) c.image m (Pack.packed_start c))) ys₁ r₁
      → Spends r₁ ys₁ d chunks ys₂ r₂ → Spends r₂ ys₂ (Pack.packed_start c) last ys₃ r₃
      → Spends budget xs 1 (drop 1 (Pack.packed_bytes c)) ys₃ r₃
  unfolding Pack.packed_length meta2_end meta2_start
  packed_stored sizes same budget xs room s₁ s₂ s₃ =
      let g : ℕ = Pack.packed_most c * globalskip c.loaded.head.blocksize n (Pack.packed_size c) in
      let ends = front_ends in
      let long : length (drop 1 front) ≡ d - 1 = rw length-drop (omega (arith, ends)) in
      let first = run_first budget xs 1 (drop 1 front) (d - 1) long (spends_same refl (ap (drop 1) (front_packed c sizes same)) s₁) in
      let at-data : d ≡ 1 + (d - 1) = omega (arith, ends) in
      let second = run_then budget xs 1 _ chunks g first (chunks_long c e) (spends_same at-data refl s₂) (omega (arith, ends)) in
      let at_last : d + g ≡ 1 + (d - 1) + g = omega (arith, ends) in
      let tail = length_meta2 (is_big c.loaded.head) n (Pack.packed_most c) (Pack.packed_count c) (Pack.packed_cell c) in
      spends_same refl in_runs
      (run_then budget xs 1 _ last (meta2_length n (Pack.packed_most c)) second tail (spends_same at_last refl s₃) (omega (arith, ends))).spends
