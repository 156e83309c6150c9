-- Laws of a plan: what stands in a list into which n numbers were put, and what the tests of packing and its length are by the totals.
use mathlib.Core.Path.{◌≡◌, ap, sym, ◌∙◌}
use mathlib.Core.Bool.{Bool, true, false, cond, not}
use mathlib.Core.List.{List, ◌++◌}
use Prim.Native.Nat.{ℕ, ◌≤◌, ◌<◌, max}
use native.Mathlib.Nat.{le_antisymm, le_of_eq}
use native.Mathlib.Omega.{arith}
use lib.Dec.{ltb, eqb}
use lib.IntN.{pos}
use lib.ListN.{length, get_or, take, drop}
use lib.Seq.{length-take-le}
use borrow.Author.Tests.{ltb-false, le-ltb, not-true}
use Rattle.lists.specs.Below.{all_below, greatest_below, list_below}
use Rattle.lists.specs.Splice.{splice}
use Rattle.lists.proofs.Below.{all_at, all_of, all_cong, greatest_le, greatest_cong, length_list}
use Rattle.lists.proofs.Splice.{length_splice, splice_list, splice_part}
use Rattle.endian.specs.Signed.{within}
use Rattle.endian.proofs.Signed.{within_holds}
use Rattle.format.specs.Limits.{max_tasks, max_size, blocksize_rule, sizes_rule, Sound}
use Rattle.format.specs.Layout.{meta2_end}
use Rattle.format.specs.Meta2.{least_count}
use Rattle.std.specs.Prelude.{Err}
use Rattle.format.specs.declared.refusal.Refusal.{Refusal}
use Rattle.format.specs.Refusals.{number_of, first_failing}
use Rattle.format.specs.Answers.{byte_count}
use Rattle.format.specs.Reads.{Container, loaded_tests}
use Rattle.format.proofs.Refusals.{some_number, first_fails, first_passes, when_accepted, when_refused}
use Rattle.format.proofs.Passing.{head_tasks}
use Rattle.format.proofs.Formats.{least_one}
use Rattle.format.proofs.Chunks.{meta2_end_agree}
use Rattle.format.proofs.LoadedRecords.{loaded_numbered, loaded_passed}
use Rattle.format.proofs.Stream.{counted}
use Rattle.tables.proofs.Counts.{greatest_taken}
use Rattle.packs.specs.Pack
use Rattle.packs.proofs.Packed.{total_small}

-- ---- the first n elements of a list, each put in its turn

-- after the last turn they are those of the whole list
pub put_whole : {A : Type 0} (xs : List A) (n i : ℕ) (f : ℕ → A) {part : List A} → n ≤ length xs → i ≤ length (take n xs) → length (take n xs) ≤ i
    → part ≡ splice (take n xs) 0 (list_below i f) → part ++ drop n xs ≡ splice xs 0 (list_below n f)
put_whole xs n i f fits below past e =
    let last : i ≡ n = le_antisymm below past ∙ length-take-le n xs fits in
    splice_part xs 0 n (list_below n f) _ (le_of_eq (length_list f n)) (omega arith) (rw last at e)

-- ---- a list into which n numbers were put

module _ (old xs : List ℕ) (n : ℕ) (f : ℕ → ℕ) (room : n ≤ length old) (e : xs ≡ splice old 0 (list_below n f)) where
  pub each : (i : ℕ) → i < n → get_or xs i 0 ≡ f i
  each i l = ap (λ (ys : List ℕ). get_or ys i 0) e ∙ splice_list old f n 0 room i l

  pub as_long : length xs ≡ length old
  as_long = ap length e ∙ length_splice old 0 (list_below n f) (omega (arith, length_list f n))

  pub greatest_is : greatest_below (length (take n xs)) (λ i. get_or (take n xs) i 0) ≡ greatest_below n f
  greatest_is = greatest_taken n xs (omega (arith, as_long)) ∙ greatest_cong _ f n each

  pub small_is : all_below n (λ i. not (ltb max_size (get_or xs i 0))) ≡ all_below n (λ i. not (ltb max_size (f i)))
  small_is = all_cong _ _ n (λ i l. ap (λ (x : ℕ). not (ltb max_size x)) (each i l))

  -- sizes that are put
  pub sizes_sound : (b : ℕ) → blocksize_rule (pos b) ≡ true → n ≤ max_tasks → ((i : ℕ) → i < n → (1 ≤ f i) × (f i ≤ max_size)) → Sound b n xs
  unfolding sizes_rule
  sizes_sound b block tasks sized = record {
    block = block;
    tasks = tasks;
    listed = omega (arith, as_long);
    sized =
        all_of _ n
        (λ i l. ap (λ (x : ℕ). within 1 max_size (pos x)) (each i l) ∙ within_holds 1 max_size (f i) (sized i l).0 (sized i l).1);
  }

-- ---- sizes and counts by the totals

module _ (totals : List ℕ) where
  abbrev pub size_for : ℕ → ℕ
  size_for i = max 1 (get_or totals i 0)

  abbrev pub count_for : ℕ → ℕ → ℕ
  count_for least i = cond (eqb (get_or totals i 0) 0) least 1

  pub size_range : (n : ℕ) → all_below n (λ i. not (ltb max_size (get_or totals i 0))) ≡ true → (i : ℕ) → i < n
      → (1 ≤ size_for i) × (size_for i ≤ max_size)
  size_range n all i l =
      let t : get_or totals i 0 ≤ max_size = ltb-false _ _ (not-true _ (all_at _ n i l all)) in
      (omega arith, omega arith)

  pub most_one : (n format : ℕ) → greatest_below n (count_for (least_count format)) ≤ 1
  most_one n format = greatest_le _ n 1 (λ i l. go (eqb (get_or totals i 0) 0))
    where
      go : (t : Bool) → cond t (least_count format) 1 ≤ 1
      go true = least_one format
      go false = omega arith

-- ---- the tests and the answer

module _ (c : Container) where
  abbrev small : Bool
  small = all_below c.loaded.head.n (λ i. not (ltb max_size (Pack.total c i)))

  pub record_fails : (refusal : Refusal) → number_of refusal ≡ first_failing (loaded_tests c) → number_of refusal ≡ first_failing (Pack.pack_tests c)
  unfolding Pack.pack_tests
  record_fails refusal e = e ∙ sym (first_fails (loaded_tests c) _ (omega (arith, some_number refusal)))

  -- once the tests of the record pass
  module _ (e : 0 ≡ first_failing (loaded_tests c)) where
    pub few : c.loaded.head.n ≤ max_tasks
    few = (head_tasks _ _ (loaded_passed c (sym e)).head).1

    pub total_fails : small ≡ false → 9 ≡ first_failing (Pack.pack_tests c)
    unfolding Pack.pack_tests first_failing
    total_fails h = sym (first_passes (loaded_tests c) _ (loaded_numbered c) (sym e) ∙ rw h)

    pub none_over : small ≡ true → 0 ≡ first_failing (Pack.pack_tests c)
    unfolding Pack.pack_tests first_failing
    none_over h = sym (first_passes (loaded_tests c) _ (loaded_numbered c) (sym e) ∙ rw h)

  pub all_small : 0 ≡ first_failing (Pack.pack_tests c) → small ≡ true
  all_small e = all_of _ c.loaded.head.n (λ i l. ap not (le-ltb _ _ (total_small c (sym e) i l)))

  pub refused : (refusal : Refusal) → number_of refusal ≡ first_failing (Pack.pack_tests c) → byte_count (Err refusal) ≡ Pack.pack_needs c
  unfolding Pack.pack_needs
  refused refusal e = rw (← e) (sym (when_refused _ _ _ (some_number refusal)))

  -- the length, by a list of the totals
  module _ (totals : List ℕ) (same : (i : ℕ) → i < c.loaded.head.n → get_or totals i 0 ≡ Pack.total c i) where
    abbrev b : ℕ
    b = c.loaded.head.blocksize

    abbrev n : ℕ
    n = c.loaded.head.n

    abbrev least : ℕ
    least = least_count c.loaded.head.format

    pub length_is : meta2_end b n (size_for totals) (greatest_below n (count_for totals least)) ≡ Pack.packed_length c
    unfolding Pack.packed_length
    length_is =
        meta2_end_agree b n (size_for totals) (Pack.packed_size c) (λ i l. ap (max 1) (same i l)) _
        ∙ ap (meta2_end b n (Pack.packed_size c)) (greatest_cong _ _ n (λ i l. ap (λ (t : ℕ). cond (eqb t 0) least 1) (same i l)))

    pub accepted : (bytes : ℕ) → 0 ≡ first_failing (Pack.pack_tests c)
        → bytes ≡ meta2_end b n (size_for totals) (greatest_below n (count_for totals least)) → counted 0 bytes ≡ Pack.pack_needs c
    unfolding Pack.pack_needs
    accepted bytes e t = ap (counted 0) (t ∙ length_is) ∙ sym (when_accepted _ _ _ (sym e))
