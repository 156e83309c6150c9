-- What the tests of META1's lists and last fields answer, from what the code finds as it goes through them.
use mathlib.Core.Path.{◌≡◌, refl, ap, ap₂, sym, ◌∙◌}
use mathlib.Core.Bool.{Bool, true, not}
use mathlib.Core.List.{List, [], ◌∷◌, ◌++◌}
use Prim.Native.Nat.{ℕ, suc, ◌+◌, ◌-◌, ◌*◌, ◌^◌, ◌<◌}
use native.Mathlib.Nat.{zero-add}
use native.Mathlib.Omega.{arith}
use borrow.Author.Tests.{not-false}
use lib.Dec.{ltb, eqb}
use lib.IntN.{pos}
use lib.ListN.{length, take, drop}
use borrow.Rule.Slice.PartMut.{mid_of}
use Rattle.std.specs.Prelude.{Some, None}
use Rattle.endian.specs.Number.{number_at}
use Rattle.lists.specs.Below.{all_below, list_below}
use Rattle.endian.specs.Signed.{signed, within, natural}
use Rattle.lists.proofs.Below.{and_left, join_cong, length_list, get_or_list, part_list}
use Rattle.endian.proofs.Signed.{within_signed, natural_signed}
use Rattle.format.specs.Limits.{max_tasks, max_rank, max_size, max_blocks, maxchunks_rule, all_different, rank_rule, ranks_rule, sizes_rule}
use Rattle.format.specs.Layout.{meta2_end}
use Rattle.format.proofs.Chunks.{meta2_end_small}
use Rattle.format.specs.declared.head.Head.{Head}
use Rattle.format.specs.declared.fault.Fault.{Fault}
use Rattle.format.specs.Kinds
use Rattle.format.specs.Refusals.{Test, test_at, fault_of, first_failing, verdict}
use Rattle.format.specs.Meta1.{fixed_length, rank_at, size_at, last_at, start_at, rank_field, size_field}
use Rattle.format.specs.Record.{entry, all_lists, sizes_of, rank_of, size_of, filled, lists_of, is_big, meta2_at, end_at}
use Rattle.format.specs.Judge.{max_start, number_fault, end_fault, big_in, tasks_in, maxchunks_in, head_in, rank_in, size_in, meta2_in, rank_tests, requested_tests, last_tests, rest_tests}
use Rattle.rules.specs.First.{first_bad}
use Rattle.rules.proofs.First.{bad_cong, none_bad, some_bad}
use Rattle.front.specs.Judging.{HeadRead}
use Rattle.meta1.specs.Judging.{last_in, lists_read, ListsPassed}
use Rattle.format.proofs.Verdicts.{verdict_passes, verdict_fails, fields_first, fields_pass}
use Rattle.format.proofs.Accepting.{rank_numbered, ranks_hold, sizes_hold}
use Rattle.format.proofs.Stripes.{length_lists, length_sizes, rank_made, size_made, rank_at_place, size_at_place}
use Rattle.format.proofs.Record.{is_big_order, meta2_at_agree, end_at_agree}
use Rattle.format.proofs.Fields.{is_number, maxchunks_number, maxchunks_facts, verdict_agree}
use Rattle.format.proofs.Filled.{filled_cong}
use Rattle.format.proofs.Unsigned.{all_unsigned, natural_unsigned, rank_unsigned}

-- ---- the head that the fixed fields gave
module _ {xs : List ℕ} {len : ℕ} {h : Head} (p : HeadRead xs len h) where
  head_big : is_big h ≡ big_in xs
  unfolding head_in
  head_big = ap is_big p.head_is ∙ is_big_order (big_in xs)

  head_n : h.n ≡ tasks_in xs
  unfolding head_in
  head_n = ap (λ (g : Head). g.n) p.head_is

  -- ---- the lists, once they are read without a sign
  abbrev pub rank : ℕ → ℕ
  rank i = number_at (is_big h) 8 xs (fixed_length + 8 * i)

  abbrev pub size : ℕ → ℕ
  size i = number_at (is_big h) 8 xs (fixed_length + 8 * h.n + 8 * i)

  module _ {lists : List ℕ} (read : lists ≡ lists_read xs h) where
    rank_read : (i : ℕ) → i < h.n → rank_of lists i ≡ rank i
    unfolding lists_read
    rank_read i l = rw read (rank_made h.n rank size (λ i. 0) p.few i l)

    size_read : (i : ℕ) → i < h.n → size_of lists i ≡ size i
    unfolding lists_read
    size_read i l = rw read (size_made h.n rank size (λ i. 0) p.few i l)

    pub read_long : length lists ≡ all_lists
    unfolding lists_read
    read_long = rw read (length_lists h.n rank size (λ i. 0))

    -- the parts of them that the code looks at
    pub ranks_part : take h.n lists ≡ list_below h.n rank
    ranks_part =
        part_list h.n lists 0 0 (omega (arith, read_long, p.few))
        ∙ join_cong _ _ h.n
        (λ i l. ap (λ (v : ℕ). v ∷ []) (ap (entry lists) (zero-add i) ∙ rank_at_place lists i (omega (arith, p.few)) ∙ rank_read i l))

    pub sizes_part : mid_of max_tasks (max_tasks + h.n - max_tasks) lists ≡ list_below h.n size
    sizes_part =
        ap (λ (k : ℕ). take k (drop max_tasks lists)) (omega arith)
        ∙ part_list h.n lists max_tasks 0 (omega (arith, read_long, p.few))
        ∙ join_cong _ _ h.n (λ i l. ap (λ (v : ℕ). v ∷ []) (size_at_place lists i (omega (arith, p.few)) ∙ size_read i l))

  part_long : {part : List ℕ} (f : ℕ → ℕ) → part ≡ list_below h.n f → length part ≡ h.n
  part_long f is = ap length is ∙ length_list f h.n

  part_at : {part : List ℕ} (f : ℕ → ℕ) → part ≡ list_below h.n f → (i : ℕ) → i < h.n → entry part i ≡ f i
  part_at f is i l = rw is (get_or_list f h.n i 0 l)

  -- the first that breaks its rule is the same of the fields and of what is read
  module _ {ranks : List ℕ} (is : ranks ≡ list_below h.n rank) where
    first_rank : first_bad (length ranks) (rank_rule (λ i. pos (entry ranks i))) ≡ first_bad (tasks_in xs) (rank_rule (rank_field (big_in xs) xs))
    first_rank =
        rw (sym head_n, sym head_big, part_long rank is)
        (bad_cong _ (rank_rule (rank_field (is_big h) xs)) h.n (rank_unsigned 63 h.n rank (entry ranks) (part_at rank is) (omega arith)))

    -- a number that is found is one of the ranks
    pub rank_found : (i : ℕ) → first_bad (length ranks) (rank_rule (λ i. pos (entry ranks i))) ≡ Some i → i < h.n
    rank_found i found = rw head_n ((some_bad (tasks_in xs) (rank_rule (rank_field (big_in xs) xs)) i (sym first_rank ∙ found)).1)

    pub bad_rank : (i : ℕ) → first_bad (length ranks) (rank_rule (λ i. pos (entry ranks i))) ≡ Some i
        → record { refusal = 8; fault = fault_of Kinds.rank (suc i) 0 (rank_at i) (signed 63 (entry ranks i)) (pos 0) (pos max_rank) }
        ≡ verdict (rest_tests xs len)
    unfolding rest_tests rank_tests
    bad_rank i found =
        let (first, below, fails) = some_bad (tasks_in xs) (rank_rule (rank_field (big_in xs) xs)) i (sym first_rank ∙ found) in
        let answer = fields_first 8 (omega arith) _ (rank_rule (rank_field (big_in xs) xs)) first below in
        let number : first_failing (rank_tests xs) ≡ 8 = λ j. (answer j).refusal in
        let here : entry ranks i ≡ number_at (big_in xs) 8 xs (rank_at i) =
        part_at rank is i (rank_found i found) ∙ ap (λ (b : Bool). number_at b 8 xs (rank_at i)) head_big in
        (λ j. record { refusal = 8; fault = fault_of Kinds.rank (suc i) 0 (rank_at i) (signed 63 (here j)) (pos 0) (pos max_rank) })
        ∙ sym (verdict_fails (rank_tests xs) _ (rw number (omega arith)) ∙ answer)

    pub ranked : first_bad (length ranks) (rank_rule (λ i. pos (entry ranks i))) ≡ None → first_failing (rank_tests xs) ≡ 0
    unfolding rank_tests
    ranked none = fields_pass 8 (omega arith) _ _ (tasks_in xs) (none_bad (tasks_in xs) _ (sym first_rank ∙ none))

  module _ {sizes : List ℕ} (is : sizes ≡ list_below h.n size) where
    first_size : first_bad (length sizes) (λ i. within 1 max_size (pos (entry sizes i)))
        ≡ first_bad (tasks_in xs) (λ i. within 1 max_size (size_field (big_in xs) xs (tasks_in xs) i))
    first_size =
        rw (sym head_n, sym head_big, part_long size is)
        (bad_cong _ (λ i. within 1 max_size (size_field (is_big h) xs h.n i)) h.n
        (λ i l. ap (λ (v : ℕ). within 1 max_size (pos v)) (part_at size is i l) ∙ sym (within_signed 1 max_size 63 (size i) (omega arith))))

    pub size_found : (i : ℕ) → first_bad (length sizes) (λ i. within 1 max_size (pos (entry sizes i))) ≡ Some i → i < h.n
    size_found i found = rw head_n ((some_bad (tasks_in xs) _ i (sym first_size ∙ found)).1)

    pub bad_size : first_failing (rank_tests xs) ≡ 0 → (i : ℕ) → first_bad (length sizes) (λ i. within 1 max_size (pos (entry sizes i))) ≡ Some i
        → record { refusal = 9; fault = fault_of Kinds.size (suc i) 0 (size_at h.n i) (signed 63 (entry sizes i)) (pos 1) (pos max_size) }
        ≡ verdict (rest_tests xs len)
    unfolding rest_tests requested_tests
    bad_size passes i found =
        let (first, below, fails) = some_bad (tasks_in xs) _ i (sym first_size ∙ found) in
        let answer = fields_first 9 (omega arith) _ _ first below in
        let number : first_failing (requested_tests xs) ≡ 9 = λ j. (answer j).refusal in
        let here : entry sizes i ≡ number_at (big_in xs) 8 xs (size_at (tasks_in xs) i) =
        part_at size is i (size_found i found) ∙ ap₂ (λ (b : Bool) (n : ℕ). number_at b 8 xs (size_at n i)) head_big head_n in
        (λ j. record { refusal = 9; fault = fault_of Kinds.size (suc i) 0 (size_at (head_n j) i) (signed 63 (here j)) (pos 1) (pos max_size) })
        ∙ sym (verdict_passes (rank_tests xs) _ (rank_numbered xs len) passes
        ∙ verdict_fails (requested_tests xs) _ (rw number (omega arith))
        ∙ answer)

    pub sized : first_bad (length sizes) (λ i. within 1 max_size (pos (entry sizes i))) ≡ None → first_failing (requested_tests xs) ≡ 0
    unfolding requested_tests
    sized none = fields_pass 9 (omega arith) _ _ (tasks_in xs) (none_bad (tasks_in xs) _ (sym first_size ∙ none))

  -- both pass, and the lists are sound
  module _ {lists : List ℕ} (read : lists ≡ lists_read xs h) where
    pub lists_pass : first_failing (rank_tests xs) ≡ 0 → first_failing (requested_tests xs) ≡ 0 → ListsPassed xs len h (sizes_of lists)
    unfolding size_in sizes_rule
    lists_pass ranks sizes =
        let kept : sizes_rule h.n (size_field (is_big h) xs h.n) ≡ true = rw (head_n, head_big) (sizes_hold xs len sizes) in
        let sized : sizes_rule h.n (λ i. pos (size_of lists i)) ≡ true =
        all_unsigned 63 h.n size (size_of lists) (size_read read) 1 max_size (omega arith) ∙ kept in
        record {
          head = p;
          ranked = ranks;
          sized = sizes;
          sound =
              record { block = p.block; tasks = p.few; listed = omega (arith, length_sizes lists (read_long read), p.few); sized = sized };
          sizes_are =
              λ i l. rw (sym head_n, sym head_big) (natural_unsigned 63 h.n size (size_of lists) (size_read read) 1 max_size (omega arith) sized i l);
        }

  -- where they pass, the lists read are those that the rules speak of
  pub lists_are : first_failing (rank_tests xs) ≡ 0 → first_failing (requested_tests xs) ≡ 0
      → lists_read xs h ≡ lists_of (tasks_in xs) (rank_in xs) (size_in xs) (λ i. 0)
  unfolding lists_read lists_of filled rank_in size_in ranks_rule sizes_rule
  lists_are ranks sizes =
      let ranked : ranks_rule h.n (rank_field (is_big h) xs) ≡ true = rw (head_n, head_big) (ranks_hold xs len ranks) in
      let sized : sizes_rule h.n (size_field (is_big h) xs h.n) ≡ true = rw (head_n, head_big) (sizes_hold xs len sizes) in
      rw (sym head_n, sym head_big)
      (ap₂ (λ (r s : List ℕ). r ++ (s ++ filled h.n (λ i. 0)))
      (list_read rank 0 max_rank (omega arith) (and_left _ (all_different h.n (rank_field (is_big h) xs)) ranked))
      (list_read size 1 max_size (omega arith) sized))
    where
      list_read : (f : ℕ → ℕ) (lo hi : ℕ) → hi < 2 ^ 63 → all_below h.n (λ i. within lo hi (signed 63 (f i))) ≡ true
          → filled h.n f ≡ filled h.n (λ i. natural (signed 63 (f i)))
      list_read f lo hi l e =
          filled_cong h.n f (λ i. natural (signed 63 (f i)))
          (natural_unsigned 63 h.n f f (λ i m. refl) lo hi l (all_unsigned 63 h.n f f (λ i m. refl) lo hi l ∙ e))

-- ---- the last two fields, as they are read without a sign
module _ {xs : List ℕ} {len : ℕ} {h : Head} {sizes : List ℕ} (r : ListsPassed xs len h sizes) where
  abbrev pub maxchunks : ℕ
  maxchunks = number_at (is_big h) 4 xs (last_at h.n)

  abbrev pub start : ℕ
  start = number_at (is_big h) 8 xs (start_at h.n)

  maxchunks_in_holds : maxchunks_rule (pos maxchunks) ≡ true → maxchunks_in xs ≡ maxchunks
  unfolding maxchunks_in
  maxchunks_in_holds e =
      rw (sym (head_n r.head), sym (head_big r.head)) (natural_signed 31 maxchunks (omega (arith, maxchunks_facts maxchunks e)))

  -- the layout's places, by the sizes that the code has
  abbrev pub place : ℕ
  place = meta2_at h (entry sizes) maxchunks

  abbrev pub end : ℕ
  end = end_at h (entry sizes) maxchunks

  place_in : maxchunks_rule (pos maxchunks) ≡ true → meta2_in xs ≡ place
  unfolding meta2_in
  place_in e = rw (sym r.head.head_is, maxchunks_in_holds e) (sym (meta2_at_agree h (entry sizes) (size_in xs) r.sizes_are maxchunks))

  end_in_holds : maxchunks_rule (pos maxchunks) ≡ true → end_at (head_in xs) (size_in xs) (maxchunks_in xs) ≡ end
  end_in_holds e = rw (sym r.head.head_is, maxchunks_in_holds e) (sym (end_at_agree h (entry sizes) (size_in xs) r.sizes_are maxchunks))

  pub place_small : maxchunks_rule (pos maxchunks) ≡ true → place < 2 ^ 63
  unfolding meta2_at meta2_end
  place_small e = omega (arith, meta2_end_small r.sound maxchunks (maxchunks_facts maxchunks e))

  pub end_small : maxchunks_rule (pos maxchunks) ≡ true → end < 2 ^ 63
  unfolding end_at
  end_small e = omega (arith, meta2_end_small r.sound maxchunks (maxchunks_facts maxchunks e))

  -- the tests of what is read
  abbrev pub start_fault : ℕ → ℕ → Fault
  start_fault = number_fault Kinds.start (start_at h.n) (signed 63 start)

  abbrev pub from_12 : List Test
  from_12 = test_at 12 (start_fault place place) (not (eqb start place)) ∷ test_at 12 (end_fault len end) (ltb len end) ∷ []

  abbrev pub unsigned_last : List Test
  unsigned_last =
      test_at 10 (start_fault 1 max_start) (eqb start 0)
      ∷ test_at 11 (number_fault Kinds.maxchunks (last_at h.n) (signed 31 maxchunks) 0 max_blocks) (not (maxchunks_rule (pos maxchunks)))
      ∷ from_12

  pub last_unsigned : verdict (last_tests xs len) ≡ verdict unsigned_last
  unfolding last_tests
  last_unsigned =
      rw (sym (head_n r.head), sym (head_big r.head), is_number 0 63 start (omega arith), maxchunks_number maxchunks)
      (verdict_agree _ _ _ (λ _. verdict_agree _ _ _
      (λ e.
      let counted = not-false (maxchunks_rule (pos maxchunks)) e in
      rw (place_in counted, end_in_holds counted, is_number place 63 start (place_small counted)) refl)))

  -- accepted, the numbers read are handed back
  pub last_read : maxchunks_rule (pos maxchunks) ≡ true → record { maxchunks = maxchunks; start = place } ≡ last_in xs
  last_read counted = λ i. record { maxchunks = sym (maxchunks_in_holds counted) i; start = sym (place_in counted) i }
