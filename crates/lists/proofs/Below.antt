-- Laws of tests, and of what is said of every index below a number, by which a loop that counts up computes it.
use mathlib.Core.Path.{◌≡◌, refl, ap, ap₂, sym, ◌∙◌}
use mathlib.Core.Bool.{Bool, true, false, not, ◌&&◌, ◌||◌, and-false, and-true, and_assoc, or-true, false≢true, cond}
use mathlib.Core.List.{List, [], ◌∷◌, ◌++◌}
use mathlib.Core.Logic.{⊎_elim}
use Prim.Native.Nat.{ℕ, zero, suc, ◌+◌, ◌-◌, ◌*◌, ◌<◌, ◌≤◌, max, zero-le}
use native.Mathlib.Nat.{not-suc-le-zero, le_antisymm, le_trans, eq-or-lt_of_le, le_of_suc-le-suc, suc-mul, mul-one, mul-le-mul_right}
use native.Mathlib.Nat.{le_of_eq, le-add_right, add-zero, add-suc, add-mul, le-max_left, le-max_right, max-le, max-eq_left, max-eq_right}
use native.Mathlib.Numerals.{add-one}
use native.Mathlib.Omega.{arith}
use lib.Arith.{le-zero}
use lib.Dec.{leb, eqb}
use lib.ListN.{length, take, drop, get_or, replicate, length-append, length-drop, length-replicate, get_or-replicate, get_or-append}
use lib.Seq.{ext_get_or, take_all, take-suc, take-append-le, drop_at, drop-append-le, get_or_at, get_or-drop}
use borrow.Author.Tests.{leb-true, leb-false, eq-eqb, ne_eqb, not-true, not-false}
use Rattle.lists.specs.Below.{all_below, any_below, first_not, sum_below, greatest_below, join_below, list_below}

-- what a test t says that a call answered with r, where the code asked for its opposite
pub test_fails : {r t : Bool} → r ≡ t → not r ≡ true → t ≡ false
test_fails e h = sym e ∙ not-true _ h

pub test_holds : {r t : Bool} → r ≡ t → not r ≡ false → t ≡ true
test_holds e h = sym e ∙ not-false _ h

-- a fact of either branch, from the fact of each under its test
pub either_way {ℓ κ} : {A : Type ℓ} (P : A → Type κ) (b : Bool) {x y : A} → (b ≡ true → P x) → (b ≡ false → P y) → P (cond b x y)
either_way P true f g = f refl
either_way P false f g = g refl

-- both halves of a test that holds
pub and_left : (a b : Bool) → (a && b) ≡ true → a ≡ true
and_left true b e = refl
and_left false b e = e

pub and_right : (a b : Bool) → (a && b) ≡ true → b ≡ true
and_right true b e = e
and_right false b e = cc

-- both halves of a test that fails, and back
pub or_left : (a b : Bool) → (a || b) ≡ false → a ≡ false
or_left true b e = e
or_left false b e = refl

pub or_right : (a b : Bool) → (a || b) ≡ false → b ≡ false
or_right true b e = cc
or_right false b e = e

pub or_both : {a b : Bool} → a ≡ false → b ≡ false → (a || b) ≡ false
or_both e f = rw (e, f)

module _ (p : ℕ → Bool) where
  -- before the first turn, after a turn, and at the end
  pub all_none : all_below 0 p ≡ true
  unfolding all_below
  all_none = refl

  pub all_more : (i : ℕ) → all_below i p ≡ true → p i ≡ true → all_below (i + 1) p ≡ true
  unfolding all_below
  all_more i all here = rw (add-one, all) here

  pub all_turn : (i : ℕ) → all_below (i + 1) p ≡ (all_below i p && p i)
  unfolding all_below
  all_turn i = rw add-one

  pub all_end : {n i : ℕ} → i ≤ n → n ≤ i → all_below i p ≡ true → true ≡ all_below n p
  all_end l m all = sym (ap (λ (k : ℕ). all_below k p) (le_antisymm m l) ∙ all)

  -- where the test fails at i
  pub all_fails : {n : ℕ} (i : ℕ) → i < n → p i ≡ false → false ≡ all_below n p
  unfolding all_below
  all_fails {n} i l here = sym (go n l)
    where
      go : (n : ℕ) → i < n → all_below n p ≡ false
      go zero l = absurd (not-suc-le-zero l)
      go (suc n) l =
          ⊎_elim
          (λ e. let h : p n ≡ false = ap p (sym e) ∙ here in rw h (and-false (all_below n p)))
          (λ lt. rw (go n lt))
          (eq-or-lt_of_le (le_of_suc-le-suc l))

  -- what the test says of each index, and back
  pub all_at : (n i : ℕ) → i < n → all_below n p ≡ true → p i ≡ true
  unfolding all_below
  all_at zero i l all = absurd (not-suc-le-zero l)
  all_at (suc n) i l all =
      ⊎_elim
      (λ e. ap p e ∙ and_right (all_below n p) (p n) all)
      (λ lt. all_at n i lt (and_left (all_below n p) (p n) all))
      (eq-or-lt_of_le (le_of_suc-le-suc l))

  pub all_of : (n : ℕ) → ((i : ℕ) → i < n → p i ≡ true) → all_below n p ≡ true
  unfolding all_below
  all_of zero h = refl
  all_of (suc n) h = rw (all_of n (λ i l. h i (omega arith))) (h n (omega arith))

  -- the test of the first i indices, and then of w more
  pub all_part : (i w : ℕ) → all_below (i + w) p ≡ (all_below i p && all_below w (λ j. p (i + j)))
  unfolding all_below
  all_part i zero = rw add-zero (sym (and-true (all_below i p)))
  all_part i (suc w) = rw (add-suc, all_part i w) (and_assoc (all_below i p) (all_below w (λ j. p (i + j))) (p (i + w)))

  -- of w more indices a call answered with r, and the code asked for its opposite
  pub run_holds : (i w : ℕ) {r : Bool} → all_below i p ≡ true → r ≡ all_below w (λ j. p (i + j)) → not r ≡ false → all_below (i + w) p ≡ true
  run_holds i w all e h = all_part i w ∙ rw all (test_holds e h)

  pub run_fails : {n : ℕ} (i w : ℕ) {r : Bool} → i + w ≤ n → r ≡ all_below w (λ j. p (i + j)) → not r ≡ true → false ≡ all_below n p
  run_fails {n} i w l e h =
      let fails : all_below (i + w) p ≡ false = all_part i w ∙ rw (test_fails e h) (and-false (all_below i p)) in
      let whole : i + w + (n - (i + w)) ≡ n = omega arith in
      sym (ap (λ (k : ℕ). all_below k p) (sym whole) ∙ all_part (i + w) (n - (i + w)) ∙ rw fails)

  -- one index of which the test holds, and back
  pub any_of : (n i : ℕ) → i < n → p i ≡ true → any_below n p ≡ true
  unfolding any_below
  any_of zero i l here = absurd (not-suc-le-zero l)
  any_of (suc n) i l here =
      ⊎_elim
      (λ e. let h : p n ≡ true = ap p (sym e) ∙ here in rw h (or-true (any_below n p)))
      (λ lt. rw (any_of n i lt here))
      (eq-or-lt_of_le (le_of_suc-le-suc l))

  pub any_at : (n : ℕ) → any_below n p ≡ true → (i : ℕ) × (i < n) × (p i ≡ true)
  unfolding any_below
  any_at zero e = absurd (false≢true e)
  any_at (suc n) e = go (any_below n p) refl (any_at n)
    where
      go : (b : Bool) → any_below n p ≡ b → (any_below n p ≡ true → (i : ℕ) × (i < n) × (p i ≡ true))
          → (i : ℕ) × (i < suc n) × (p i ≡ true)
      go true a rest = let r = rest a in (r.0, omega (arith, r.1), r.2)
      go false a rest = (n, omega arith, rw a at e)

module _ (f : ℕ → ℕ) where
  pub sum_none : sum_below 0 f ≡ 0
  unfolding sum_below
  sum_none = refl

  pub sum_more : (i : ℕ) → sum_below (i + 1) f ≡ sum_below i f + f i
  unfolding sum_below
  sum_more i = rw add-one

  -- a sum of numbers that are at most m
  pub sum_le : (n m : ℕ) → ((i : ℕ) → i < n → f i ≤ m) → sum_below n f ≤ n * m
  unfolding sum_below
  sum_le zero m h = omega arith
  sum_le (suc n) m h = omega (arith, suc-mul n m, h n (omega arith), sum_le n m (λ i l. h i (omega arith)))

  -- a sum over more indices is at least as great
  sum_mono : (m n : ℕ) → m ≤ n → sum_below m f ≤ sum_below n f
  unfolding sum_below
  sum_mono m zero l = le_of_eq (ap (λ (k : ℕ). sum_below k f) (le-zero l))
  sum_mono m (suc n) l =
      ⊎_elim
      (λ e. le_of_eq (ap (λ (k : ℕ). sum_below k f) e))
      (λ lt. le_trans (sum_mono m n (le_of_suc-le-suc lt)) (le-add_right (sum_below n f) (f n)))
      (eq-or-lt_of_le l)

  -- what stands before an index, with what stands at it, is a part of the whole
  pub sum_step : (i n : ℕ) → i < n → sum_below i f + f i ≤ sum_below n f
  sum_step i n l = le_trans (le_of_eq (sym (sum_more i))) (sum_mono (i + 1) n (omega arith))

  -- a sum of multiples of b is one
  pub sum_multiple : (b n : ℕ) → ((i : ℕ) → (q : ℕ) × (f i ≡ q * b)) → (q : ℕ) × (sum_below n f ≡ q * b)
  unfolding sum_below
  sum_multiple b zero h = (0, omega arith)
  sum_multiple b (suc n) h =
      let r = sum_multiple b n h in
      let s = h n in
      (r.0 + s.0, omega (arith, r.1, s.1, add-mul r.0 s.0 b))

  -- the greatest
  pub greatest_none : greatest_below 0 f ≡ 0
  unfolding greatest_below
  greatest_none = refl

  pub greatest_more : (i : ℕ) → greatest_below (i + 1) f ≡ max (greatest_below i f) (f i)
  unfolding greatest_below
  greatest_more i = rw add-one

  pub greatest_ge : (n i : ℕ) → i < n → f i ≤ greatest_below n f
  unfolding greatest_below
  greatest_ge zero i l = absurd (not-suc-le-zero l)
  greatest_ge (suc n) i l =
      ⊎_elim
      (λ e. rw e (le-max_right (greatest_below n f) (f n)))
      (λ lt. le_trans (greatest_ge n i lt) (le-max_left (greatest_below n f) (f n)))
      (eq-or-lt_of_le (le_of_suc-le-suc l))

  pub greatest_le : (n m : ℕ) → ((i : ℕ) → i < n → f i ≤ m) → greatest_below n f ≤ m
  unfolding greatest_below
  greatest_le zero m h = zero-le
  greatest_le (suc n) m h = max-le (greatest_le n m (λ i l. h i (omega arith))) (h n (omega arith))

  pub greatest_at : (n : ℕ) → 0 < n → (i : ℕ) × (i < n) × (f i ≡ greatest_below n f)
  unfolding greatest_below
  greatest_at zero l = absurd (not-suc-le-zero l)
  greatest_at (suc n) l = pick (leb (greatest_below n f) (f n)) refl (λ some. greatest_at n some)
    where
      positive : (n : ℕ) → f n < greatest_below n f → 0 < n
      positive zero l = absurd (not-suc-le-zero l)
      positive (suc n) l = omega arith

      pick : (b : Bool) → leb (greatest_below n f) (f n) ≡ b → (0 < n → (i : ℕ) × (i < n) × (f i ≡ greatest_below n f))
          → (i : ℕ) × (i < suc n) × (f i ≡ max (greatest_below n f) (f n))
      pick true e rest = (n, omega arith, sym (max-eq_right (leb-true _ _ e)))
      pick false e rest =
          let m : f n < greatest_below n f = leb-false _ _ e in
          let r = rest (positive n m) in
          (r.0, omega arith, r.2 ∙ sym (max-eq_left (omega arith)))

module _ {ℓ} {A : Type ℓ} (f : ℕ → List A) where
  pub join_more : (i : ℕ) → join_below (i + 1) f ≡ join_below i f ++ f i
  unfolding join_below
  join_more i = rw add-one

  pub length_join : (n w : ℕ) → ((i : ℕ) → i < n → length (f i) ≡ w) → length (join_below n f) ≡ n * w
  unfolding join_below
  length_join zero w h = omega arith
  length_join (suc n) w h = rw (length-append, suc-mul, length_join n w (λ i l. h i (omega arith)), h n (omega arith))

  -- of lists of any lengths
  pub length_joined : (g : ℕ → ℕ) (n : ℕ) → ((i : ℕ) → i < n → length (f i) ≡ g i) → length (join_below n f) ≡ sum_below n g
  unfolding join_below sum_below
  length_joined g zero h = refl
  length_joined g (suc n) h = rw (length-append, length_joined g n (λ i l. h i (omega arith)), h n (omega arith))

  pub part_join : (n w : ℕ) → ((i : ℕ) → i < n → length (f i) ≡ w) → (i : ℕ) → i < n → take w (drop (i * w) (join_below n f)) ≡ f i
  unfolding join_below
  part_join zero w h i l = absurd (not-suc-le-zero l)
  part_join (suc n) w h i l =
      let e : length (join_below n f) ≡ n * w = length_join n w (λ i l. h i (omega arith)) in
      ⊎_elim
      (λ same. ap (λ (k : ℕ). take w (drop (k * w) (join_below n f ++ f n))) same
      ∙ ap (take w) (drop_at (join_below n f) (f n) (n * w) e)
      ∙ take_all w (f n) (omega (arith, h n (omega arith))) ∙ ap f (sym same))
      (λ lt.
      let m : i * w + w ≤ n * w = rw suc-mul at (mul-le-mul_right {m = suc i} {n = n} w lt) in
      ap (take w) (drop-append-le (i * w) (join_below n f) (f n) (omega arith))
      ∙ take-append-le w (drop (i * w) (join_below n f)) (f n) (simp length-drop (omega arith))
      ∙ part_join n w (λ i l. h i (omega arith)) i lt)
      (eq-or-lt_of_le (le_of_suc-le-suc l))

module _ {ℓ} {A : Type ℓ} where
  pub length_list : (f : ℕ → A) (n : ℕ) → length (list_below n f) ≡ n
  length_list f n = length_join (λ i. f i ∷ []) n 1 (λ i l. refl) ∙ mul-one n

  pub get_or_list : (f : ℕ → A) (n i : ℕ) (d : A) → i < n → get_or (list_below n f) i d ≡ f i
  unfolding join_below
  get_or_list f zero i d l = absurd (not-suc-le-zero l)
  get_or_list f (suc n) i d l =
      let e = length_list f n in
      ⊎_elim
      (λ same. get_or_at (list_below n f) (f n) [] d i (e ∙ sym same) ∙ ap f (sym same))
      (λ lt. get_or-append (list_below n f) (f n ∷ []) d i (omega arith) ∙ get_or_list f n i d lt)
      (eq-or-lt_of_le (le_of_suc-le-suc l))

  -- of one value, a repeat
  pub list_replicate : (n : ℕ) (x : A) → list_below n (λ i. x) ≡ replicate n x
  list_replicate n x =
      ext_get_or x (list_below n (λ i. x)) (replicate n x) (length_list (λ i. x) n ∙ sym (length-replicate n x))
      (λ i l.
      let h : i < n = rw length_list at l in
      get_or_list (λ i. x) n i x h ∙ sym (get_or-replicate n i x x h))

  -- a part of a list is the list of its elements
  pub part_list : (n : ℕ) (xs : List A) (at : ℕ) (d : A) → at + n ≤ length xs → take n (drop at xs) ≡ list_below n (λ i. get_or xs (at + i) d)
  unfolding join_below
  part_list zero xs at d h = refl
  part_list (suc n) xs at d h =
      take-suc (drop at xs) n d (simp length-drop (omega arith))
      ∙ ap₂ (λ (l : List A) (x : A). l ++ (x ∷ [])) (part_list n xs at d (omega arith)) (get_or-drop at xs n d)

  pub join_cong : (f g : ℕ → List A) (n : ℕ) → ((i : ℕ) → i < n → f i ≡ g i) → join_below n f ≡ join_below n g
  unfolding join_below
  join_cong f g zero h = refl
  join_cong f g (suc n) h = ap₂ ◌++◌ (join_cong f g n (λ i l. h i (omega arith))) (h n (omega arith))

  -- parts of two lists are the same by their elements
  pub part_cong : (n at : ℕ) (xs ys : List A) (d : A) → at + n ≤ length xs → at + n ≤ length ys
      → ((j : ℕ) → j < n → get_or xs (at + j) d ≡ get_or ys (at + j) d) → take n (drop at xs) ≡ take n (drop at ys)
  part_cong n at xs ys d l m h =
      part_list n xs at d l
      ∙ join_cong (λ j. get_or xs (at + j) d ∷ []) (λ j. get_or ys (at + j) d ∷ []) n (λ j k. ap (λ (x : A). x ∷ []) (h j k))
      ∙ sym (part_list n ys at d m)

-- each depends on what stands below the number alone
pub all_cong : (p q : ℕ → Bool) (n : ℕ) → ((i : ℕ) → i < n → p i ≡ q i) → all_below n p ≡ all_below n q
unfolding all_below
all_cong p q zero h = refl
all_cong p q (suc n) h = ap₂ ◌&&◌ (all_cong p q n (λ i l. h i (omega arith))) (h n (omega arith))

pub sum_cong : (f g : ℕ → ℕ) (n : ℕ) → ((i : ℕ) → i < n → f i ≡ g i) → sum_below n f ≡ sum_below n g
unfolding sum_below
sum_cong f g zero h = refl
sum_cong f g (suc n) h = ap₂ ◌+◌ (sum_cong f g n (λ i l. h i (omega arith))) (h n (omega arith))

pub greatest_cong : (f g : ℕ → ℕ) (n : ℕ) → ((i : ℕ) → i < n → f i ≡ g i) → greatest_below n f ≡ greatest_below n g
unfolding greatest_below
greatest_cong f g zero h = refl
greatest_cong f g (suc n) h = ap₂ max (greatest_cong f g n (λ i l. h i (omega arith))) (h n (omega arith))

-- ---- the first index of which a test does not hold

-- two tests of each are one
pub all_both : (p q : ℕ → Bool) (n : ℕ) → all_below n (λ i. p i && q i) ≡ (all_below n p && all_below n q)
unfolding all_below
all_both p q zero = refl
all_both p q (suc n) = rw (all_both p q n) (swap (all_below n p) (all_below n q) (p n) (q n))
  where
    swap : (a b c d : Bool) → ((a && b) && (c && d)) ≡ ((a && c) && (b && d))
    swap true true c d = refl
    swap true false c d = sym (and-false c)
    swap false b c d = refl

module _ (p : ℕ → Bool) where
  -- where the test holds of all, and where i is the first that it fails of
  pub first_none : (n : ℕ) → all_below n p ≡ true → first_not n p ≡ n
  unfolding first_not
  first_none zero all = refl
  first_none (suc n) all = rw all

  pub first_at : (i n : ℕ) → i < n → all_below i p ≡ true → p i ≡ false → first_not n p ≡ i
  unfolding first_not
  first_at i zero l all here = absurd (not-suc-le-zero l)
  first_at i (suc n) l all here =
      let fails : all_below (suc n) p ≡ false = sym (all_fails p i l here) in
      rw fails
      (⊎_elim
      (λ e. ap (λ (k : ℕ). first_not k p) (sym e) ∙ first_none i all)
      (λ lt. first_at i n lt all here)
      (eq-or-lt_of_le (le_of_suc-le-suc l)))

  -- what is known of it where the test fails of one
  pub first_fails : (n : ℕ) → all_below n p ≡ false → (first_not n p < n) × (p (first_not n p) ≡ false) × (all_below (first_not n p) p ≡ true)
  unfolding all_below first_not
  first_fails zero e = absurd (false≢true (sym e))
  first_fails (suc n) e = rw e (go (all_below n p) refl (first_fails n))
    where
      go : (b : Bool) → all_below n p ≡ b
          → (all_below n p ≡ false → (first_not n p < n) × (p (first_not n p) ≡ false) × (all_below (first_not n p) p ≡ true))
          → (first_not n p < suc n) × (p (first_not n p) ≡ false) × (all_below (first_not n p) p ≡ true)
      go true a rest = rw (first_none n a) (omega arith, rw a at e, a)
      go false a rest = let r = rest a in (omega arith, r.1, r.2)

  -- whether it is below n says whether the test fails of one
  pub first_below : {i n : ℕ} → i ≡ first_not n p → i < n → all_below n p ≡ false
  first_below {i} {n} e l = go (all_below n p) refl
    where
      go : (b : Bool) → all_below n p ≡ b → b ≡ false
      go true a = absurd (omega (arith, first_none n a))
      go false a = refl

  pub first_past : {i n : ℕ} → i ≡ first_not n p → n ≤ i → all_below n p ≡ true
  first_past {i} {n} e l = go (all_below n p) refl
    where
      go : (b : Bool) → all_below n p ≡ b → b ≡ true
      go true a = refl
      go false a = absurd (omega (arith, (first_fails n a).0))

  pub first_le : (n : ℕ) → first_not n p ≤ n
  first_le n = go (all_below n p) refl
    where
      go : (b : Bool) → all_below n p ≡ b → first_not n p ≤ n
      go true a = le_of_eq (first_none n a)
      go false a = omega (arith, (first_fails n a).0)

  -- whether it is n
  pub all_first : (n : ℕ) → eqb (first_not n p) n ≡ all_below n p
  all_first n = go (all_below n p) refl
    where
      go : (b : Bool) → all_below n p ≡ b → eqb (first_not n p) n ≡ all_below n p
      go true a = rw a (eq-eqb (first_not n p) n (first_none n a))
      go false a = rw a (ne_eqb (first_not n p) n (λ e. omega (arith, (first_fails n a).0)))

pub first_cong : (p q : ℕ → Bool) (n : ℕ) → ((i : ℕ) → i < n → p i ≡ q i) → first_not n p ≡ first_not n q
unfolding first_not
first_cong p q zero h = refl
first_cong p q (suc n) h = rw (all_cong p q (suc n) h, first_cong p q n (λ i l. h i (omega arith)))

-- two searches, the second up to where the first ended, are one
pub first_both : (p q : ℕ → Bool) (n : ℕ) → first_not (first_not n p) q ≡ first_not n (λ i. p i && q i)
unfolding first_not
first_both p q zero = refl
first_both p q (suc n) = go (all_below (suc n) p) refl (first_both p q n)
  where
    go : (b : Bool) → all_below (suc n) p ≡ b → first_not (first_not n p) q ≡ first_not n (λ i. p i && q i)
        → first_not (first_not (suc n) p) q ≡ first_not (suc n) (λ i. p i && q i)
    go true a rest =
        rw (first_none p (suc n) a) (first_cong q (λ i. p i && q i) (suc n) (λ i l. rw (all_at p (suc n) i l a)))
    go false a rest = let none = all_both p q (suc n) in rw (a, none, a) rest
