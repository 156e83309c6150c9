-- A refused load names the first field that breaks its rule: each test of a load judges one field, in the order of the list of fields.
use mathlib.Core.Path.{◌≡◌, refl, sym, ap, ◌∙◌}
use mathlib.Core.Bool.{Bool, true, false, not, ◌||◌, false≢true, or-true}
use mathlib.Core.List.{List, [], ◌∷◌}
use mathlib.Core.Logic.{◌⊎◌, inl, inr}
use Prim.Native.Nat.{ℕ, ◌+◌, ◌*◌, ◌^◌, ◌≤◌, ◌<◌}
use native.Mathlib.Nat.{lt_of_not-le}
use native.Mathlib.Omega.{arith}
use lib.Dec.{ltb, eqb}
use lib.IntN.{ℤ, pos, negsuc}
use lib.ListN.{length, length-take}
use borrow.Author.Tests.{lt-ltb, ltb-true, ltb-false, le-ltb, eqb-true, eq-eqb, not-false, not-true}
use Rattle.lists.specs.Below.{greatest_below, join_below, list_below}
use Rattle.lists.specs.Logic.{Not, Exactly}
use Rattle.lists.proofs.Below.{and_left, and_right, or_left, or_right, or_both, all_at, all_of, greatest_cong}
use Rattle.lists.proofs.Splice.{part_part}
use Rattle.endian.specs.Number.{number}
use Rattle.endian.specs.Signed.{signed, signed_at, within, same_z, natural}
use Rattle.endian.proofs.Signed.{within_natural, within_holds, within_one, within_other, same_z_eq, same_z_refl}
use Rattle.format.specs.declared.head.File.{File}
use Rattle.format.specs.Limits.{max_tasks, max_blocks, max_size, max_rank, format_rule, blocksize_rule, tasks_rule, is_new, rank_rule, maxchunks_rule}
use Rattle.format.specs.Layout.{capacity, meta1_end, meta2_length}
use Rattle.format.specs.Meta2
use Rattle.format.specs.Record.{files_of, file_of, is_big, holds, meta2_at, end_at}
use Rattle.format.specs.Refusals.{no_fault}
use Rattle.format.specs.Judge.{is, magic_in, big_in, ordered_in, tasks_in, maxchunks_in, head_in, size_in, meta2_in, start_tests, field_tests, fixed_tests, rank_tests, requested_tests, last_tests, rest_tests, meta1_tests, count_in, count_tests, greatest_test, value_test, value_tests, counts_tests, meta2_tests}
use Rattle.format.specs.declared.loaded.LoadAnswer.{LoadAnswer}
use Rattle.format.specs.Load.{meta2_bytes, load_tests, load_refusal, load_fault, check_answer, load_answer}
use Rattle.format.proofs.Refusals.{Numbered, none_fails, when_accepted}
use Rattle.format.proofs.Naming.{Naming, Fits, Pairs, pairs_append, pairs_join, AllKeep, find, all_kept}
use Rattle.format.proofs.Accepting.{magic_there, magic_holds, meta1_numbered, meta2_numbered}
use Rattle.format.proofs.Verdicts.{each_append}
use Rattle.format.proofs.Formats.{format_natural, format_known, format_kept, least_idle, idle_least}
use Rattle.format.proofs.Power.{power_of_two_holds, power_within, blocksize_facts, blocksize_holds}
use Rattle.format.proofs.Chunks.{meta2_parts}
use Rattle.format.proofs.Rules.{blocksize_natural, value_index_lt}
use Rattle.format.proofs.Record.{is_big_order}
use Rattle.container.specs.Where as w
use Rattle.container.proofs.Refusing.{load_number, answer_refused}

-- what is said of each field
abbrev rules : File → List ℕ → ℕ → Naming w.Field
rules file image cells =
    record { named = w.named; place_of = w.place_of image; says_of = w.says_of image cells; Keeps = w.Keeps image file cells }

every : (file : File) (image : List ℕ) (cells : ℕ) (fs : List w.Field) → AllKeep (rules file image cells) fs → w.Every (w.Keeps image file cells) fs
every file image cells [] k = k
every file image cells (f ∷ fs) k = (k.0, every file image cells fs k.1)

-- ---- rules as tests, and back

-- a test that asks for the opposite of a rule
pub exactly_not : {K : Type 0} (b : Bool) → (b ≡ true → K) → (K → b ≡ true) → Exactly (not b ≡ false) K
exactly_not b to from = (λ e. to (not-false b e), λ k. ap not (from k))

-- a length that is enough
pub exactly_long : (needed len : ℕ) → Exactly (ltb len needed ≡ false) (needed ≤ len)
exactly_long needed len = (ltb-false len needed, le-ltb len needed)

-- a number within its range, and one that has one value
pub from_to : (lo hi : ℕ) (z : ℤ) → within lo hi z ≡ true → w.FromTo lo hi z
from_to lo hi z e = let r = within_natural lo hi z e in (natural z, r.0, r.1, r.2)

pub to_within : (lo hi : ℕ) (z : ℤ) → w.FromTo lo hi z → within lo hi z ≡ true
to_within lo hi z (v, is-v, least, most) = rw is-v (within_holds lo hi v least most)

pub exactly_within : (lo hi : ℕ) (z : ℤ) → Exactly (not (within lo hi z) ≡ false) (w.FromTo lo hi z)
exactly_within lo hi z = exactly_not (within lo hi z) (from_to lo hi z) (to_within lo hi z)

pub is_one : (v : ℕ) (z : ℤ) → z ≡ pos v → is v z ≡ true
is_one v z e = rw e (within_holds v v v (omega arith) (omega arith))

pub exactly_is : (v : ℕ) (z : ℤ) → Exactly (not (is v z) ≡ false) (z ≡ pos v)
exactly_is v z = exactly_not (is v z) (within_one v z) (is_one v z)

-- ---- META1's fields

module _ (file : File) (image : List ℕ) (cells : ℕ) where
  abbrev len : ℕ
  len = length image

  mark_fits : Exactly ((ltb len 4 || not (magic_in image)) ≡ false) (w.Keeps image file cells w.mark)
  mark_fits = (
    λ e. magic_there image (ltb-false len 4 (or_left (ltb len 4) _ e)) (not-false _ (or_right (ltb len 4) _ e)),
    λ e. or_both (le-ltb len 4 (omega (arith, length-take 4 image, ap length e))) (ap not (magic_holds image e)),
  )

  order_fits : Exactly ((ltb len 8 || not (ordered_in image)) ≡ false) (w.Keeps image file cells w.order)
  unfolding ordered_in big_in
  order_fits = (
    λ e. (ltb-false len 8 (or_left (ltb len 8) _ e), one_order (is 1 (signed_at false 4 image 4)) refl (not-false _ (or_right (ltb len 8) _ e))),
    λ k. or_both (le-ltb len 8 k.0) (ap not (in_order k.1)),
  )
    where
      one_order : (b : Bool) → is 1 (signed_at false 4 image 4) ≡ b → (b || is 1 (signed_at true 4 image 4)) ≡ true
          → (signed_at false 4 image 4 ≡ pos 1) ⊎ (signed_at true 4 image 4 ≡ pos 1)
      one_order true e h = inl (within_one 1 _ e)
      one_order false e h = inr (within_one 1 _ h)

      in_order : (signed_at false 4 image 4 ≡ pos 1) ⊎ (signed_at true 4 image 4 ≡ pos 1)
          → (is 1 (signed_at false 4 image 4) || is 1 (signed_at true 4 image 4)) ≡ true
      in_order (inl e) = rw (is_one 1 _ e) refl
      in_order (inr e) = rw (is_one 1 _ e) (or-true (is 1 (signed_at false 4 image 4)))

  format_fits : Exactly (not (format_rule (w.int image 16)) ≡ false) (w.Keeps image file cells w.format)
  format_fits = exactly_not (format_rule (w.int image 16)) to from
    where
      to : format_rule (w.int image 16) ≡ true → (w.int image 16 ≡ pos 3) ⊎ (w.int image 16 ≡ pos 4)
      to e = let z = (format_natural (w.int image 16) e).0 in known z (format_known (rw z at e))
        where
          known : w.int image 16 ≡ pos (natural (w.int image 16)) → (natural (w.int image 16) ≡ 3) ⊎ (natural (w.int image 16) ≡ 4)
              → (w.int image 16 ≡ pos 3) ⊎ (w.int image 16 ≡ pos 4)
          known z (inl three) = inl (z ∙ ap pos three)
          known z (inr four) = inr (z ∙ ap pos four)

      from : (w.int image 16 ≡ pos 3) ⊎ (w.int image 16 ≡ pos 4) → format_rule (w.int image 16) ≡ true
      from (inl e) = rw e (format_kept (inl refl))
      from (inr e) = rw e (format_kept (inr refl))

  blocksize_fits : Exactly (not (blocksize_rule (w.int image 20)) ≡ false) (w.Keeps image file cells w.blocksize)
  blocksize_fits = exactly_not (blocksize_rule (w.int image 20)) to from
    where
      to : blocksize_rule (w.int image 20) ≡ true → w.Keeps image file cells w.blocksize
      to e =
          let z = (blocksize_natural (w.int image 20) e).0 in
          let f = blocksize_facts (natural (w.int image 20)) (rw z at e) in
          let (j, power) = power_of_two_holds (natural (w.int image 20)) f.2 in
          (j, z ∙ ap pos power, omega (arith, power, f.0), omega (arith, power, f.1))

      from : w.Keeps image file cells w.blocksize → blocksize_rule (w.int image 20) ≡ true
      from (j, e, least, most) = rw e (blocksize_holds (2 ^ j) least most (power_within (2 ^ j) j refl most))

  tasks_fits : Exactly (not (tasks_rule (w.int image 24)) ≡ false) (w.Keeps image file cells w.tasks)
  unfolding tasks_rule
  tasks_fits = exactly_within 1 max_tasks (w.int image 24)

  rank_fits : (i : ℕ) → Exactly (not (rank_rule (λ j. w.long image (1076 + 8 * j)) i) ≡ false) (w.Keeps image file cells (w.rank i))
  unfolding rank_rule is_new
  rank_fits i = exactly_not (rank_rule rank i) to from
    where
      rank : ℕ → ℤ
      rank j = w.long image (1076 + 8 * j)

      to : rank_rule rank i ≡ true → w.Keeps image file cells (w.rank i)
      to e = (
        from_to 0 max_rank (rank i) (and_left _ (is_new rank i) e),
        λ j l same. false≢true (sym (not-true _ (all_at (λ j. not (same_z (rank j) (rank i))) i j l (and_right (within 0 max_rank (rank i)) _ e))) ∙ ap (λ (z : ℤ). same_z z (rank i)) same ∙ same_z_refl (rank i)),
      )

      from : w.Keeps image file cells (w.rank i) → rank_rule rank i ≡ true
      from (range, apart) = rw (to_within 0 max_rank (rank i) range) (all_of (λ j. not (same_z (rank j) (rank i))) i (λ j l. other j l (same_z (rank j) (rank i)) refl))
        where
          other : (j : ℕ) → j < i → (b : Bool) → same_z (rank j) (rank i) ≡ b → not b ≡ true
          other j l true e = absurd (apart j l (same_z_eq (rank j) (rank i) e))
          other j l false e = refl

  closed_fits : Exactly (is 0 (w.long image (1076 + 16 * w.n image + 4)) ≡ false) (w.Keeps image file cells w.closed)
  closed_fits = (λ e zero. false≢true (sym e ∙ is_one 0 _ zero), within_other 0 _)

  maxchunks_fits : Exactly (not (maxchunks_rule (w.int image (1076 + 16 * w.n image))) ≡ false) (w.Keeps image file cells w.maxchunks)
  unfolding maxchunks_rule
  maxchunks_fits = exactly_within 0 max_blocks (w.int image (1076 + 16 * w.n image))

-- ---- META2's fields: what its part says is what the image says behind META2's start

module _ (file : File) (image : List ℕ) (cells : ℕ) where
  abbrev big : Bool
  big = is_big (head_in image)

  big_is : big ≡ big_in image
  unfolding head_in
  big_is = is_big_order (big_in image)

  read : (at : ℕ) → at + 8 ≤ meta2_length (tasks_in image) (maxchunks_in image)
      → signed_at big 8 (meta2_bytes image) at ≡ w.long image (meta2_in image + at)
  unfolding meta2_bytes
  read at l =
      rw big_is
      (ap (λ (bytes : List ℕ). signed 63 (number (big_in image) bytes))
      (part_part (meta2_in image) (meta2_length (tasks_in image) (maxchunks_in image)) at 8 image l))

  count_read : (i : ℕ) → i < tasks_in image → Meta2.count_field big (meta2_bytes image) i ≡ w.long image (meta2_in image + 8 * i)
  count_read i l = read (8 * i) (omega (arith, meta2_parts (tasks_in image) (maxchunks_in image)))

  value_read : (k i : ℕ) → k < maxchunks_in image → i < tasks_in image
      → Meta2.value_field big (meta2_bytes image) (tasks_in image) (k * tasks_in image + i)
      ≡ w.long image (meta2_in image + 8 * tasks_in image + 8 * (k * tasks_in image + i))
  value_read k i h l =
      let n = tasks_in image in
      let m = maxchunks_in image in
      let stands : meta2_in image + (8 * n + 8 * (k * n + i)) ≡ meta2_in image + 8 * n + 8 * (k * n + i) = omega arith in
      read (8 * n + 8 * (k * n + i)) (omega (arith, meta2_parts n m, value_index_lt n m k i l h)) ∙ ap (w.long image) stands

  -- a count
  four : (z : ℤ) → natural z ≡ 4 → z ≡ pos 4
  four (pos v) e = ap pos e
  four (negsuc v) e = absurd (omega arith)

  count_exact : (z : ℤ)
      → Exactly (not (within (Meta2.least_count (natural (w.int image 16))) (w.most image) z) ≡ false)
      (w.FromTo 0 (w.most image) z × (w.int image 16 ≡ pos 4 → Not (z ≡ pos 0)))
  count_exact z = exactly_not (within least (w.most image) z) to from
    where
      least : ℕ
      least = Meta2.least_count (natural (w.int image 16))

      to : within least (w.most image) z ≡ true → w.FromTo 0 (w.most image) z × (w.int image 16 ≡ pos 4 → Not (z ≡ pos 0))
      to e =
          let (v, is-v, few, most) = from_to least (w.most image) z e in
          ((v, is-v, omega arith, most), λ idle zero. let some = least_idle few (ap natural idle) in absurd (omega (arith, ap natural (sym is-v ∙ zero))))

      from : w.FromTo 0 (w.most image) z × (w.int image 16 ≡ pos 4 → Not (z ≡ pos 0)) → within least (w.most image) z ≡ true
      from ((v, is-v, few, most), idle) =
          to_within least (w.most image) z
          (v, is-v, idle_least (λ e. (lt_of_not-le (λ (none : v ≤ 0). let zero : v ≡ 0 = omega arith in idle (four _ e) (is-v ∙ ap pos zero)))), most)

  -- a value
  value_exact : (used : ℕ) (k capacity : ℕ) (z : ℤ)
      → Exactly (not (Meta2.value_rule (ltb k used) capacity z) ≡ false) ((k < used → w.FromTo 0 capacity z) × (used ≤ k → z ≡ negsuc 0))
  unfolding Meta2.value_rule
  value_exact used k capacity z = exactly_not (Meta2.value_rule (ltb k used) capacity z) to (λ keeps. from (ltb k used) refl keeps)
    where
      to : Meta2.value_rule (ltb k used) capacity z ≡ true → (k < used → w.FromTo 0 capacity z) × (used ≤ k → z ≡ negsuc 0)
      to e = (λ l. from_to 0 capacity z (rw (lt-ltb k used l) at e), λ l. same_z_eq z (negsuc 0) (rw (le-ltb k used l) at e))

      from : (b : Bool) → ltb k used ≡ b → (k < used → w.FromTo 0 capacity z) × (used ≤ k → z ≡ negsuc 0) → Meta2.value_rule b capacity z ≡ true
      from true e keeps = to_within 0 capacity z (keeps.0 (ltb-true k used e))
      from false e keeps = rw (keeps.1 (ltb-false k used e)) refl

  -- ---- the tests of a load beside the list of fields

  fixed_pairs : Pairs (rules file image cells) (fixed_tests image file (length image))
      (w.mark ∷ w.order ∷ w.fixedFit ∷ w.format ∷ w.blocksize ∷ w.tasks ∷ w.files ∷ w.file_number ∷ w.meta1Fit ∷ [])
  unfolding fixed_tests start_tests field_tests tasks_in meta1_end
  fixed_pairs = (
    record { names = refl; stands_at = refl; says_so = refl; exact = mark_fits file image cells },
    λ _. (
      record { names = refl; stands_at = refl; says_so = refl; exact = order_fits file image cells },
      λ _. (
        record { names = refl; stands_at = refl; says_so = refl; exact = exactly_long 1076 (length image) },
        λ _. (
          record { names = refl; stands_at = refl; says_so = refl; exact = format_fits file image cells },
          λ _. (
            record { names = refl; stands_at = refl; says_so = refl; exact = blocksize_fits file image cells },
            λ _. (
              record { names = refl; stands_at = refl; says_so = refl; exact = tasks_fits file image cells },
              λ _. (
                record { names = refl; stands_at = refl; says_so = refl; exact = exactly_is (files_of file) (w.int image 28) },
                λ _. (
                  record { names = refl; stands_at = refl; says_so = refl; exact = exactly_is (file_of file) (w.int image 32) },
                  λ _. (
                    record { names = refl; stands_at = refl; says_so = refl; exact = exactly_long (1088 + 16 * w.n image) (length image) },
                    λ _. tt,
                  ),
                ),
              ),
            ),
          ),
        ),
      ),
    ),
  )

  rank_pairs : Pairs (rules file image cells) (rank_tests image) (list_below (w.n image) w.rank)
  unfolding rank_tests tasks_in
  rank_pairs =
      pairs_join (rules file image cells) _ (λ i. w.rank i ∷ []) (w.n image)
      (λ i l. (record { names = refl; stands_at = refl; says_so = refl; exact = rank_fits file image cells i }, λ _. tt))

  size_pairs : Pairs (rules file image cells) (requested_tests image) (list_below (w.n image) w.size)
  unfolding requested_tests tasks_in
  size_pairs =
      pairs_join (rules file image cells) _ (λ i. w.size i ∷ []) (w.n image)
      (λ i l. (
        record { names = refl; stands_at = refl; says_so = refl; exact = exactly_within 1 max_size (w.long image (1076 + 8 * w.n image + 8 * i)) },
        λ _. tt,
      ))

  last_pairs : Pairs (rules file image cells) (last_tests image (length image)) (w.closed ∷ w.maxchunks ∷ w.start ∷ w.meta2Fit ∷ [])
  unfolding last_tests tasks_in maxchunks_in head_in size_in meta2_in meta2_at end_at
  last_pairs = (
    record { names = refl; stands_at = refl; says_so = refl; exact = closed_fits file image cells },
    λ _. (
      record { names = refl; stands_at = refl; says_so = refl; exact = maxchunks_fits file image cells },
      λ _. (
        record { names = refl; stands_at = refl; says_so = refl; exact = exactly_is (w.meta2 image) (w.long image (1076 + 16 * w.n image + 4)) },
        λ _. (record { names = refl; stands_at = refl; says_so = refl; exact = exactly_long (w.end image) (length image) }, λ _. tt),
      ),
    ),
  )

  count_pairs : Pairs (rules file image cells) (count_tests (head_in image) (size_in image) (maxchunks_in image) (meta2_in image) (meta2_bytes image))
      (list_below (w.n image) w.count)
  unfolding count_tests head_in tasks_in size_in maxchunks_in meta2_in meta2_at
  count_pairs =
      pairs_join (rules file image cells) _ (λ i. w.count i ∷ []) (w.n image)
      (λ i l. (
        record { names = refl; stands_at = refl; says_so = count_read i l; exact = rw (count_read i l) (count_exact (w.long image (w.meta2 image + 8 * i))) },
        λ _. tt,
      ))

  greatest_fits : Fits (rules file image cells)
      (greatest_test (head_in image) (size_in image) (maxchunks_in image) (meta2_in image) (meta2_bytes image)) w.greatest
  unfolding greatest_test count_in head_in tasks_in size_in maxchunks_in meta2_in meta2_at
  greatest_fits =
      let counts : ℕ → ℕ = λ i. natural (Meta2.count_field big (meta2_bytes image) i) in
      let same = greatest_cong counts (λ i. natural (w.long image (w.meta2 image + 8 * i))) (w.n image) (λ i l. ap natural (count_read i l)) in
      record {
        names = refl;
        stands_at = refl;
        says_so = refl;
        exact =
            exactly_not (eqb (greatest_below (w.n image) counts) (w.most image)) (λ e. sym same ∙ eqb-true _ _ e) (λ keeps. eq-eqb _ _ (same ∙ keeps));
      }

  value_pairs : Pairs (rules file image cells) (value_tests (head_in image) (size_in image) (maxchunks_in image) (meta2_in image) (meta2_bytes image))
      (join_below (w.most image) (λ k. list_below (w.n image) (w.value k)))
  unfolding value_tests value_test count_in holds head_in tasks_in size_in maxchunks_in meta2_in meta2_at
  value_pairs =
      pairs_join (rules file image cells) _ (λ k. list_below (w.n image) (w.value k)) (w.most image)
      (λ k h.
      pairs_join (rules file image cells) _ (λ i. w.value k i ∷ []) (w.n image)
      (λ i l. (
        record {
          names = refl;
          stands_at = refl;
          says_so = value_read k i h l;
          exact =
              rw (count_read i l, value_read k i h l)
              (value_exact (natural (w.long image (w.meta2 image + 8 * i))) k (capacity (natural (w.int image 20)) (w.size_in image i))
              (w.long image (w.meta2 image + 8 * w.n image + 8 * (k * w.n image + i))));
        },
        λ _. tt,
      )))

  pairs : Pairs (rules file image cells) (load_tests file image cells) (w.judged image)
  unfolding load_tests meta1_tests rest_tests counts_tests meta2_tests tasks_in maxchunks_in
  pairs =
      pairs_append (rules file image cells) (meta1_tests image file (length image)) _ _ _
      (pairs_append (rules file image cells) (fixed_tests image file (length image)) _ _ _ fixed_pairs
      (pairs_append (rules file image cells) (rank_tests image) _ _ _ rank_pairs
      (pairs_append (rules file image cells) (requested_tests image) _ _ _ size_pairs last_pairs))) (
        record { names = refl; stands_at = refl; says_so = refl; exact = exactly_long (w.n image * w.most image) cells },
        λ _.
            pairs_append (rules file image cells) (counts_tests (head_in image) (size_in image) (maxchunks_in image) (meta2_in image) (meta2_bytes image)) _ _ _
            (pairs_append (rules file image cells) (count_tests (head_in image) (size_in image) (maxchunks_in image) (meta2_in image) (meta2_bytes image))
            _ _ _ count_pairs (greatest_fits, λ _. tt))
            value_pairs,
      )

  load_numbered : Numbered (load_tests file image cells)
  unfolding load_tests
  load_numbered =
      each_append _ (meta1_tests image file (length image)) _ (meta1_numbered image file (length image))
      (omega arith, meta2_numbered (head_in image) (size_in image) (maxchunks_in image) (meta2_bytes image) (meta2_in image))

module _ (file : File) (image : List ℕ) (table : List ℤ) where
  nothing_broken : load_refusal file image (length table) ≡ 0 → (load_answer file image table).fault ≡ no_fault
  unfolding load_answer check_answer
  nothing_broken none = ap (λ (a : LoadAnswer). a.fault) (when_accepted (load_refusal file image (length table)) _ _ none)

  pub says_where : w.SaysWhere file image table
  unfolding load_refusal load_fault
  says_where = record {
    refused = λ l.
        let cells = length table in
        let some : 0 < load_refusal file image cells = rw (load_number file image table) at l in
        let f = find (rules file image cells) (load_tests file image cells) (w.judged image) (pairs file image cells) some in
        rw (answer_refused file image table some) (record {
          field = f.field;
          earlier = f.earlier;
          later = f.later;
          in_order = f.in_order;
          names = f.names;
          stands_at = f.stands_at;
          says_so = f.says_so;
          breaks = f.breaks;
          kept = every file image cells f.earlier f.kept;
        });
    accepted = λ e.
        let cells = length table in
        let none : load_refusal file image cells ≡ 0 = sym (load_number file image table) ∙ e in (
          nothing_broken none,
          every file image cells (w.judged image)
              (all_kept (rules file image cells) (load_tests file image cells) (w.judged image) (pairs file image cells)
              (none_fails (load_tests file image cells) (load_numbered file image cells) none)),
        );
  }
