-- The tests of a mapping have numbers, and their verdict looks at the ranks of tasks that there are, no others; lists of tests, joined; and a stored
-- mapping, read back.
use mathlib.Core.Path.{◌≡◌, refl, ap, sym, ◌∙◌}
use mathlib.Core.Bool.{Bool, true, false, cond, not}
use mathlib.Core.List.{List, [], ◌∷◌, ◌++◌, append_assoc}
use mathlib.Core.Logic.{⊎_elim}
use Prim.Native.Nat.{ℕ, zero, suc, ◌+◌, ◌-◌, ◌*◌, ◌^◌, ◌≤◌, ◌<◌}
use native.Mathlib.Nat.{mul_comm, eq-or-lt_of_le, le_of_suc-le-suc}
use native.Mathlib.Omega.{arith}
use lib.Dec.{eqb, lit<}
use lib.IntN.{ℤ, pos}
use lib.ListN.{length, take, drop, length-append, take-append-drop}
use lib.Seq.{drop_at, drop-drop, drop-append-le}
use borrow.Author.Tests.{not-false}
use Rattle.lists.specs.Below.{join_below}
use Rattle.lists.proofs.Below.{length_join}
use Rattle.lists.proofs.Pieces.{drop_join}
use Rattle.endian.specs.Signed.{signed_at, signed_digits, natural}
use Rattle.endian.proofs.Number.{length_digits}
use Rattle.endian.proofs.Signed.{within_natural, signed_there}
use Rattle.format.specs.Kinds
use Rattle.format.specs.Refusals.{Test, test_at, fault_of, first_failing, verdict}
use Rattle.format.specs.Judge.{is}
use Rattle.format.proofs.Refusals.{Numbered, first_passes, both_pass}
use Rattle.format.proofs.Verdicts.{verdict_passes, verdict_fails, each_join}
use Rattle.format.proofs.Fields.{verdict_agree}
use Rattle.pairs.specs.Ranks.{none_lacking, in_second, local_rank}
use Rattle.pairs.specs.Mapping.{file_of_rank, mapping_length, mapping, entry_tests, mapping_tests}
use Rattle.pairs.proofs.Ranks.{carried}

-- ---- lists of tests with the same verdicts, one after the other

append_agree : (xs ys us vs : List Test) → Numbered xs → Numbered us → verdict xs ≡ verdict us → verdict ys ≡ verdict vs
    → verdict (xs ++ ys) ≡ verdict (us ++ vs)
append_agree xs ys us vs h k first second = go (first_failing xs) refl
  where
    number : first_failing xs ≡ first_failing us
    number = λ i. (first i).refusal

    go : (r : ℕ) → first_failing xs ≡ r → verdict (xs ++ ys) ≡ verdict (us ++ vs)
    go zero e = verdict_passes xs ys h e ∙ second ∙ sym (verdict_passes us vs k (sym number ∙ e))
    go (suc r) e =
        let some : 0 < first_failing xs = omega arith in
        let some' : 0 < first_failing us = omega (arith, number) in
        verdict_fails xs ys some ∙ first ∙ sym (verdict_fails us vs some')

join_agree : (f g : ℕ → List Test) → ((k : ℕ) → Numbered (f k)) → ((k : ℕ) → Numbered (g k)) → ((k : ℕ) → verdict (f k) ≡ verdict (g k))
    → (n : ℕ) → verdict (join_below n f) ≡ verdict (join_below n g)
unfolding join_below
join_agree f g h k same zero = refl
join_agree f g h k same (suc n) =
    append_agree (join_below n f) (f n) (join_below n g) (g n) (each_join _ f h n) (each_join _ g k n) (join_agree f g h k same n) (same n)

-- ---- lists of tests that pass, joined

pub join_passed : (f : ℕ → List Test) → ((k : ℕ) → Numbered (f k)) → (n : ℕ) → first_failing (join_below n f) ≡ 0
    → (k : ℕ) → k < n → first_failing (f k) ≡ 0
unfolding join_below
join_passed f h zero e k l = absurd (omega arith)
join_passed f h (suc n) e k l =
    let both = both_pass (join_below n f) (f n) (each_join _ f h n) e in
    ⊎_elim (λ same. rw same both.1) (λ less. join_passed f h n both.0 k less) (eq-or-lt_of_le (le_of_suc-le-suc l))

pub join_passes : (f : ℕ → List Test) → ((k : ℕ) → Numbered (f k)) → (n : ℕ) → ((k : ℕ) → k < n → first_failing (f k) ≡ 0)
    → first_failing (join_below n f) ≡ 0
unfolding join_below first_failing
join_passes f h zero each = refl
join_passes f h (suc n) each =
    first_passes (join_below n f) (f n) (each_join _ f h n) (join_passes f h n (λ k l. each k (omega arith))) ∙ each n (omega arith)

-- ---- the tests have numbers

module _ (n m : ℕ) (rank rank' : ℕ → ℕ) (big : Bool) (image : List ℕ) (at : ℕ) where
  pub entry_numbered : (r : ℕ) → Numbered (entry_tests n m rank rank' big image at r)
  unfolding entry_tests
  entry_numbered r = (omega arith, (omega arith, (omega arith, tt)))

  pub mapping_numbered : Numbered (mapping_tests n m rank rank' big image at)
  unfolding mapping_tests
  mapping_numbered = (omega arith, (omega arith, (omega arith, each_join _ (entry_tests n m rank rank' big image at) entry_numbered (n + m))))

-- ---- ranks that agree below n and below m

module _ (n m : ℕ) (rank rank' other other' : ℕ → ℕ) (some : 1 ≤ n) (some' : 1 ≤ m) (same : (i : ℕ) → i < n → rank i ≡ other i)
    (same' : (i : ℕ) → i < m → rank' i ≡ other' i) where
  -- the rank of a task that there is, of either file
  named_agree : (first : Bool) (task : ℕ) → task ≤ cond first n m - 1
      → cond first (rank task) (rank' task) ≡ cond first (other task) (other' task)
  named_agree true task l = same task (omega arith)
  named_agree false task l = same' task (omega arith)

  module _ (big : Bool) (image : List ℕ) (at : ℕ) where
    entry_agree : (r : ℕ) → verdict (entry_tests n m rank rank' big image at r) ≡ verdict (entry_tests n m other other' big image at r)
    unfolding entry_tests
    entry_agree r =
        let stands = at + 4 + 8 * r in
        let first = is 0 (signed_at big 4 image stands) in
        let task : ℤ = signed_at big 4 image (stands + 4) in
        verdict_agree _ _ _
        (λ _.
        verdict_agree _ _ _
        (λ e.
        ap
        (λ (carried : ℕ).
        verdict (test_at 25 (fault_of Kinds.entry_rank (suc r) 0 stands (pos carried) (pos r) (pos r)) (not (eqb carried r)) ∷ []))
        (named_agree first (natural task) (within_natural 0 (cond first n m - 1) task (not-false _ e)).2)))

    pub mapping_agree : verdict (mapping_tests n m rank rank' big image at) ≡ verdict (mapping_tests n m other other' big image at)
    unfolding mapping_tests
    mapping_agree =
        verdict_agree _ _ _
        (λ _.
        verdict_agree _ _ _
        (λ _.
        verdict_agree _ _ _
        (λ _.
        join_agree (entry_tests n m rank rank' big image at) (entry_tests n m other other' big image at) (entry_numbered n m rank rank' big image at)
        (entry_numbered n m other other' big image at) entry_agree (n + m))))

-- ---- a mapping, read back where it stands

module _ (n m : ℕ) (rank rank' : ℕ → ℕ) (none : none_lacking n m rank rank' ≡ true) (few : n + m < 2 ^ 31) (big : Bool) (image : List ℕ) (at : ℕ)
    (there : take (mapping_length n m) (drop at image) ≡ mapping n m rank rank' big) where
  abbrev size : List ℕ
  size = signed_digits big 4 (pos (n + m))

  -- the two numbers of a rank, all of them, and what follows
  abbrev file : ℕ → List ℕ
  file r = signed_digits big 4 (pos (file_of_rank (in_second n m rank rank' r)))

  abbrev task : ℕ → List ℕ
  task r = signed_digits big 4 (pos (local_rank n m rank rank' r))

  abbrev entries : List ℕ
  entries = join_below (n + m) (λ r. file r ++ task r)

  abbrev after : List ℕ
  after = drop (mapping_length n m) (drop at image)

  split : drop at image ≡ size ++ (entries ++ after)
  unfolding mapping
  split =
      sym (take-append-drop (mapping_length n m) (drop at image)) ∙ ap (λ (l : List ℕ). l ++ after) there ∙ append_assoc size entries after

  pub size_back : signed_at big 4 image at ≡ pos (n + m)
  size_back = signed_there big 4 (pos (n + m)) image (entries ++ after) at (lit< tt) split few

  module _ (r : ℕ) (l : r < n + m) where
    abbrev rest : List ℕ
    rest = drop 8 (drop (r * 8) entries) ++ after

    from : drop (at + 4 + 8 * r) image ≡ file r ++ (task r ++ rest)
    from =
        let same : (j : ℕ) → j < n + m → length (file j ++ task j) ≡ 8 = λ j h. simp (length-append, length_digits) in
        let fits : 8 * r ≤ length entries = omega (arith, length_join (λ j. file j ++ task j) (n + m) 8 same) in
        sym (drop-drop (8 * r) (at + 4) image)
        ∙ ap (drop (8 * r)) (sym (drop-drop 4 at image) ∙ ap (drop 4) split ∙ drop_at size (entries ++ after) 4 (length_digits big 4 _))
        ∙ drop-append-le (8 * r) entries after fits
        ∙ ap (λ (k : ℕ). drop k entries ++ after) (mul_comm 8 r)
        ∙ ap (λ (s : List ℕ). s ++ after) (drop_join (λ j. file j ++ task j) (n + m) 8 same r l)
        ∙ append_assoc (file r ++ task r) _ after
        ∙ append_assoc (file r) (task r) rest

    pub file_back : signed_at big 4 image (at + 4 + 8 * r) ≡ pos (file_of_rank (in_second n m rank rank' r))
    file_back = signed_there big 4 _ image (task r ++ rest) (at + 4 + 8 * r) (lit< tt) from (small (in_second n m rank rank' r))
      where
        small : (second : Bool) → file_of_rank second < 2 ^ 31
        small true = lit< tt
        small false = lit< tt

    pub task_back : signed_at big 4 image (at + 4 + 8 * r + 4) ≡ pos (local_rank n m rank rank' r)
    task_back =
        signed_there big 4 _ image rest (at + 4 + 8 * r + 4) (lit< tt)
        (sym (drop-drop 4 (at + 4 + 8 * r) image) ∙ ap (drop 4) from ∙ drop_at (file r) (task r ++ rest) 4 (length_digits big 4 _))
        (small (in_second n m rank rank' r) (carried n m rank rank' none r l).0)
      where
        small : (second : Bool) → local_rank n m rank rank' r < cond second m n → local_rank n m rank rank' r < 2 ^ 31
        small true h = omega arith
        small false h = omega arith
