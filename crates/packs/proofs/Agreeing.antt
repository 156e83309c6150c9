-- Two loaded containers whose tasks have the same streams: totals and reads answer the same, and packing gives the same bytes.
use mathlib.Core.Path.{◌≡◌, refl, sym, ap, ap₂, subst, ◌∙◌}
use mathlib.Core.Bool.{cond, not}
use mathlib.Core.List.{List, [], ◌∷◌, ◌++◌}
use Prim.Native.Nat.{ℕ, zero, suc, ◌+◌, ◌-◌, ◌*◌, ◌≤◌, ◌<◌, max, min}
use native.Mathlib.Nat.{mul-le-mul_left}
use native.Mathlib.Omega.{arith}
use lib.Dec.{ltb, eqb}
use lib.IntN.{ℤ, pos}
use lib.ListN.{length, take, drop, replicate}
use borrow.Author.Tests.{not-false}
use Rattle.lists.specs.Below.{join_below, greatest_below}
use Rattle.lists.specs.Splice.{splice}
use Rattle.lists.proofs.Below.{join_cong, greatest_cong}
use Rattle.endian.specs.Signed.{signed_digits}
use Rattle.endian.proofs.Signed.{within_facts}
use Rattle.format.specs.Layout.{meta1_end, data_start, capacity, meta2_start}
use Rattle.format.specs.declared.head.Head.{Head}
use Rattle.format.specs.Meta1.{fixed_length, last_fields, meta1_front, meta1}
use Rattle.format.specs.Meta2.{unused, least_count, meta2}
use Rattle.format.specs.Refusals.{test, first_failing}
use Rattle.format.specs.Record.{rank_of, is_big, is_task}
use Rattle.format.specs.Reads.{Container, loaded_tests, read_tests, stream_of, total_of, total_answer, read_refusal, read_answer, read_output}
use Rattle.format.proofs.Refusals.{first_passes, first_fails, both_pass, none_fails, when_accepted, when_refused}
use Rattle.format.proofs.Chunks.{meta2_start_agree}
use Rattle.format.proofs.LoadedRecords.{loaded_numbered}
use Rattle.format.proofs.Readable.{read_numbered}
use Rattle.format.proofs.Stream.{counted}
use Rattle.packs.specs.Pack

-- ---- the answers

-- after 17, 18 and 19 a read asks for its task alone
asked : (c : Container) (task : ℕ) → first_failing (loaded_tests c) ≡ 0
    → first_failing (read_tests c task) ≡ first_failing (test 14 (not (is_task c.loaded.head.n task)) ∷ [])
unfolding read_tests
asked c task p = first_passes (loaded_tests c) _ (loaded_numbered c) p

module _ (c d : Container) (pc : first_failing (loaded_tests c) ≡ 0) (pd : first_failing (loaded_tests d) ≡ 0)
    (tasks : d.loaded.head.n ≡ c.loaded.head.n)
    (streams : (i : ℕ) → i < c.loaded.head.n → stream_of d (i + 1) ≡ stream_of c (i + 1))
    (totals : (i : ℕ) → i < c.loaded.head.n → total_of d (i + 1) ≡ total_of c (i + 1)) (task : ℕ) where
  tests_same : first_failing (read_tests d task) ≡ first_failing (read_tests c task)
  tests_same =
      asked d task pd ∙ ap (λ (n : ℕ). first_failing (test 14 (not (is_task n task)) ∷ [])) tasks ∙ sym (asked c task pc)

  -- of a task that there is
  module _ (e : first_failing (read_tests c task) ≡ 0) where
    range : (1 ≤ task) × (task ≤ c.loaded.head.n)
    range = within_facts 1 c.loaded.head.n task (not-false _ (none_fails _ (omega arith, tt) (sym (asked c task pc) ∙ e)).0)

    named : task - 1 + 1 ≡ task
    named = omega (arith, range)

    total_same : total_of d task ≡ total_of c task
    total_same = subst (λ (t : ℕ). total_of d t ≡ total_of c t) named (totals (task - 1) (omega (arith, range)))

    stream_same : stream_of d task ≡ stream_of c task
    stream_same = subst (λ (t : ℕ). stream_of d t ≡ stream_of c t) named (streams (task - 1) (omega (arith, range)))

  pub total_agrees : total_answer d task ≡ total_answer c task
  unfolding total_answer
  total_agrees = go (first_failing (read_tests c task)) refl
    where
      go : (r : ℕ) → first_failing (read_tests c task) ≡ r → total_answer d task ≡ total_answer c task
      go zero z = when_accepted _ _ _ (tests_same ∙ z) ∙ ap (counted 0) (total_same z) ∙ sym (when_accepted _ _ _ z)
      go (suc r) z =
          when_refused (first_failing (read_tests d task)) _ _ (omega (arith, tests_same)) ∙ ap (λ (r : ℕ). counted r 0) tests_same
          ∙ sym (when_refused (first_failing (read_tests c task)) _ _ (omega arith))

  module _ (p : ℕ) where
    refusal_same : read_refusal d task p ≡ read_refusal c task p
    unfolding read_refusal
    refusal_same = go (first_failing (read_tests c task)) refl
      where
        go : (r : ℕ) → first_failing (read_tests c task) ≡ r → read_refusal d task p ≡ read_refusal c task p
        go zero z =
            first_passes (read_tests d task) _ (read_numbered d task) (tests_same ∙ z)
            ∙ ap (λ (t : ℕ). first_failing (test 23 (ltb t p) ∷ [])) (total_same z)
            ∙ sym (first_passes (read_tests c task) _ (read_numbered c task) z)
        go (suc r) z =
            first_fails (read_tests d task) _ (omega (arith, tests_same)) ∙ tests_same ∙ sym (first_fails (read_tests c task) _ (omega arith))

    there : read_refusal c task p ≡ 0 → first_failing (read_tests c task) ≡ 0
    unfolding read_refusal
    there z = (both_pass (read_tests c task) _ (read_numbered c task) z).0

    pub read_agrees : (out : List ℕ) → read_answer d task p out ≡ read_answer c task p out
    unfolding read_answer
    read_agrees out = go (read_refusal c task p) refl
      where
        go : (r : ℕ) → read_refusal c task p ≡ r → read_answer d task p out ≡ read_answer c task p out
        go zero z =
            when_accepted _ _ _ (refusal_same ∙ z) ∙ ap (λ (t : ℕ). counted 0 (min (length out) (t - p))) (total_same (there z))
            ∙ sym (when_accepted _ _ _ z)
        go (suc r) z =
            when_refused (read_refusal d task p) _ _ (omega (arith, refusal_same)) ∙ ap (λ (r : ℕ). counted r 0) refusal_same
            ∙ sym (when_refused (read_refusal c task p) _ _ (omega arith))

    pub output_agrees : (out : List ℕ) → read_output d task p out ≡ read_output c task p out
    unfolding read_output
    output_agrees out = go (read_refusal c task p) refl
      where
        go : (r : ℕ) → read_refusal c task p ≡ r → read_output d task p out ≡ read_output c task p out
        go zero z =
            when_accepted _ _ _ (refusal_same ∙ z)
            ∙ ap (λ (s : List ℕ). splice out 0 (take (length out) (drop p s))) (stream_same (there z)) ∙ sym (when_accepted _ _ _ z)
        go (suc r) z =
            when_refused (read_refusal d task p) _ _ (omega (arith, refusal_same)) ∙ sym (when_refused (read_refusal c task p) _ _ (omega arith))

-- ---- the packed bytes, of a head, the ranks, totals and streams of its tasks, and the fields that are taken over

module _ (h : Head) (total : ℕ → ℕ) where
  abbrev size_by : ℕ → ℕ
  size_by i = max 1 (total i)

  abbrev count_by : ℕ → ℕ
  count_by i = cond (eqb (total i) 0) (least_count h.format) 1

  abbrev most_by : ℕ
  most_by = greatest_below h.n count_by

  abbrev cell_by : ℕ → ℤ
  cell_by i = cond (eqb (count_by i) 0) unused (pos (total i))

  abbrev start_by : ℕ
  start_by = meta2_start h.blocksize h.n size_by most_by

  abbrev chunk_by : (ℕ → List ℕ) → ℕ → List ℕ
  chunk_by stream i = stream i ++ replicate (capacity h.blocksize (size_by i) - total i) 0

  abbrev bytes_by_counts : (ℕ → ℕ) → (ℕ → List ℕ) → List ℕ → List ℕ
  bytes_by_counts rank stream own =
      splice (meta1 h rank size_by [] most_by start_by) Pack.flags_at own
      ++ replicate (data_start h.blocksize h.n - meta1_end h.n) 0
      ++ cond (eqb most_by 0) [] (join_below h.n (chunk_by stream))
      ++ meta2 (is_big h) h.n most_by count_by cell_by

abbrev taken : Container → List ℕ
taken c = take (fixed_length - Pack.flags_at) (drop Pack.flags_at c.image)

bytes_by : (c : Container) → Pack.packed_bytes c ≡ bytes_by_counts c.loaded.head (Pack.total c) (rank_of c.lists) (λ i. stream_of c (i + 1)) (taken c)
unfolding Pack.packed_bytes Pack.packed_meta1 Pack.packed_chunk
bytes_by c = refl

-- they look at the n tasks alone
module _ (h : Head) (rank rank' total total' : ℕ → ℕ) (stream stream' : ℕ → List ℕ) (own : List ℕ)
    (ranks : (i : ℕ) → i < h.n → rank i ≡ rank' i) (totals : (i : ℕ) → i < h.n → total i ≡ total' i)
    (streams : (i : ℕ) → i < h.n → stream i ≡ stream' i) (few : most_by h total' ≤ 1) where
  abbrev size : ℕ → ℕ
  size = size_by h total

  abbrev size' : ℕ → ℕ
  size' = size_by h total'

  -- a number as META1 and META2 have it
  abbrev eight : ℕ → List ℕ
  eight v = signed_digits (is_big h) 8 (pos v)

  count_same : (i : ℕ) → i < h.n → count_by h total i ≡ count_by h total' i
  count_same i l = ap (λ (t : ℕ). cond (eqb t 0) (least_count h.format) 1) (totals i l)

  size_same : (i : ℕ) → i < h.n → size i ≡ size' i
  size_same i l = ap (max 1) (totals i l)

  most_same : most_by h total ≡ most_by h total'
  most_same = greatest_cong _ _ h.n count_same

  start_same : start_by h total ≡ start_by h total'
  start_same = meta2_start_agree h.blocksize h.n size size' size_same _ ∙ ap (meta2_start h.blocksize h.n size') most_same

  front_same : meta1_front h rank size [] ≡ meta1_front h rank' size' []
  unfolding meta1_front
  front_same =
      rw (
        join_cong (λ i. eight (rank i)) (λ i. eight (rank' i)) h.n (λ i l. ap eight (ranks i l)),
        join_cong (λ i. eight (size i)) (λ i. eight (size' i)) h.n (λ i l. ap eight (size_same i l)),
      )

  meta1_same : meta1 h rank size [] (most_by h total) (start_by h total)
      ≡ meta1 h rank' size' [] (most_by h total') (start_by h total')
  unfolding meta1
  meta1_same = ap₂ ◌++◌ front_same (ap₂ (last_fields (is_big h)) most_same start_same)

  chunks_same : cond (eqb (most_by h total) 0) [] (join_below h.n (chunk_by h total stream))
      ≡ cond (eqb (most_by h total') 0) [] (join_below h.n (chunk_by h total' stream'))
  chunks_same =
      ap₂ (λ (m : ℕ) (l : List ℕ). cond (eqb m 0) [] l) most_same
      (join_cong _ _ h.n (λ i l.
      ap₂ (λ (s : List ℕ) (t : ℕ). s ++ replicate (capacity h.blocksize (max 1 t) - t) 0) (streams i l) (totals i l)))

  meta2_same : meta2 (is_big h) h.n (most_by h total) (count_by h total) (cell_by h total)
      ≡ meta2 (is_big h) h.n (most_by h total') (count_by h total') (cell_by h total')
  unfolding meta2
  meta2_same =
      let m : ℕ = most_by h total' in
      let least : ℕ = least_count h.format in
      ap₂ ◌++◌ (join_cong _ _ h.n (λ i l. ap eight (count_same i l)))
      (ap (λ (m : ℕ). join_below (h.n * m) (λ j. signed_digits (is_big h) 8 (cell_by h total j))) most_same
      ∙ join_cong _ _ (h.n * m) (λ j l.
      ap (λ (t : ℕ). signed_digits (is_big h) 8 (cond (eqb (cond (eqb t 0) least 1) 0) unused (pos t)))
      (totals j (omega (arith, mul-le-mul_left h.n few)))))

  by_agrees : bytes_by_counts h total rank stream own ≡ bytes_by_counts h total' rank' stream' own
  by_agrees =
      let zeros : List ℕ = replicate (data_start h.blocksize h.n - meta1_end h.n) 0 in
      ap₂ ◌++◌ (ap₂ ◌++◌ (ap (λ (l : List ℕ). splice l Pack.flags_at own ++ zeros) meta1_same) chunks_same) meta2_same

pub bytes_agree : (c d : Container) → d.loaded.head ≡ c.loaded.head
    → ((i : ℕ) → i < c.loaded.head.n → rank_of d.lists i ≡ rank_of c.lists i)
    → ((i : ℕ) → i < c.loaded.head.n → Pack.total d i ≡ Pack.total c i)
    → ((i : ℕ) → i < c.loaded.head.n → stream_of d (i + 1) ≡ stream_of c (i + 1)) → taken d ≡ taken c → Pack.packed_most c ≤ 1
    → Pack.packed_bytes d ≡ Pack.packed_bytes c
bytes_agree c d heads ranks totals streams own few =
    bytes_by d
    ∙ ap₂ (λ (h : Head) (own : List ℕ). bytes_by_counts h (Pack.total d) (rank_of d.lists) (λ i. stream_of d (i + 1)) own) heads own
    ∙ by_agrees c.loaded.head (rank_of d.lists) (rank_of c.lists) (Pack.total d) (Pack.total c)
    (λ i. stream_of d (i + 1)) (λ i. stream_of c (i + 1)) (taken c) ranks totals streams few
    ∙ sym (bytes_by c)
