-- Rows of n numbers one after the other, as the values of META2 stand: where a row ends, and the rule of each value by its place among all.
use Rattle.std.proofs.Common.{◌≡◌, ℕ, zero, suc, ◌+◌, ◌-◌, ◌*◌, ◌%◌, ◌<◌, ◌≤◌, Bool, true, false, not, ◌&&◌, ltb, eqb, List, length, take, drop, get_or, ℤ, pos, min, sym, ap, ◌∙◌, ap₂, not-suc-le-zero, add-zero, mod-lt, mod-eq_of_lt, suc-mul, mul_comm, length-drop, mul-zero, zero-mul, mul-suc, add-one, arith}
use borrow.Author.Tests.{eqb-false}
use native.Mathlib.Nat.{mul-add-div_right, mul-add-mod_self_right, div-eq_of_lt}
use lib.Seq.{length-take-le, take_all, get_or-take, get_or-drop, drop-drop}
use Rattle.lists.specs.Below.{all_below}
use Rattle.lists.proofs.Below.{all_none, all_cong, all_part, run_holds, run_fails}
use Rattle.format.specs.Meta2.{value_rule, values_rule}
use Rattle.format.specs.Record.{entry, cell}
use Rattle.tables.specs.Spans.{rule_at}

-- a row ends where the next one starts
pub row_next : (n k : ℕ) → k * n + n ≡ (k + 1) * n
row_next n k = rw add-one (sym (suc-mul k n))

-- value j of n tasks and m chunks is one of task j % n
pub task_in_row : (n m j : ℕ) → j < n * m → j % n < n
task_in_row zero m j l = absurd (not-suc-le-zero (rw zero-mul at l))
task_in_row (suc n) m j l = mod-lt j (omega arith)

-- n tasks with what a chunk holds of each, and their counts
module _ (n : ℕ) (held counts : List ℕ) where
  -- the rule of a value of task i in chunk k is that of its place
  abbrev rule_of : ℕ → ℕ → ℤ → Bool
  rule_of k i v = value_rule (ltb k (entry counts i)) (entry held i) v

  rule_at_holds : (k i : ℕ) (v : ℤ) → i < n → rule_of k i v ≡ rule_at n held counts (k * n + i) v
  rule_at_holds k i v l =
      let some : 0 < n = omega arith in
      rw (mul-add-div_right some k i, div-eq_of_lt l, add-zero, mul-add-mod_self_right k n i, mod-eq_of_lt l)

  -- so of the values of w tasks from i on in chunk k
  pub row_placed : (k i w : ℕ) (value : ℕ → ℤ) {place : ℕ → ℕ} {r : Bool} → i + w ≤ n → ((t : ℕ) → place t ≡ k * n + (i + t))
      → r ≡ all_below w (λ t. rule_of k (i + t) (value t)) → r ≡ all_below w (λ t. rule_at n held counts (place t) (value t))
  row_placed k i w value {place} fits here judged =
      judged
      ∙ all_cong (λ t. rule_of k (i + t) (value t)) (λ t. rule_at n held counts (place t) (value t)) w
      (λ t l.
      rule_at_holds k (i + t) (value t) (omega arith) ∙ ap (λ (j : ℕ). rule_at n held counts j (value t)) (sym (here t)))

  -- values at other places, as they are found there
  pub span_cong : (w : ℕ) {place place' : ℕ → ℕ} {value value' : ℕ → ℤ} {r : Bool} → ((t : ℕ) → place t ≡ place' t)
      → ((t : ℕ) → t < w → value t ≡ value' t) → r ≡ all_below w (λ t. rule_at n held counts (place t) (value t))
      → r ≡ all_below w (λ t. rule_at n held counts (place' t) (value' t))
  span_cong w {place} {place'} {value} {value'} here same judged =
      judged
      ∙ all_cong (λ t. rule_at n held counts (place t) (value t)) (λ t. rule_at n held counts (place' t) (value' t)) w
      (λ t l. ap₂ (rule_at n held counts) (here t) (same t l))

  -- the rule of all values of m chunks
  pub values_placed : (value : ℕ → ℤ) (m : ℕ)
      → all_below (n * m) (λ j. rule_at n held counts j (value j)) ≡ values_rule n m (entry held) (entry counts) value
  unfolding values_rule all_below
  values_placed value zero = rw mul-zero
  values_placed value (suc m) =
      rw (mul-suc n m, all_part (λ j. rule_at n held counts j (value j)) (n * m) n, mul_comm n m)
      (ap₂ ◌&&◌ (rw (mul_comm n m) at (values_placed value m))
      (all_cong (λ i. rule_at n held counts (m * n + i) (value (m * n + i))) (λ i. rule_of m i (value (m * n + i))) n
      (λ i l. sym (rule_at_holds m i (value (m * n + i)) l))))

-- ---- cells one after the other, of which some are passed

-- of the cells of a span, every one passed keeps its rule, and where cells are left, the next one is that of task i and chunk `row`
pub record Passed (k first : ℕ) (holds counts : List ℕ) (cells rest : List ℤ) (row i : ℕ) : Type 0 where
  pub left : length rest ≤ length cells
  pub those : rest ≡ drop (length cells - length rest) cells
  pub far : row + length rest ≤ k + length cells
  pub next : 0 < length rest → (k * length holds + first + (length cells - length rest) ≡ row * length holds + i) × (i < length holds)
  pub kept : all_below (length cells - length rest) (λ t. rule_at (length holds) holds counts (k * length holds + first + t) (cell cells t)) ≡ true

-- a list from i on, as code cuts it
abbrev pub tail : ℕ → List ℕ → List ℕ
tail i xs = take (length xs - i) (drop i xs)

tail_at : (i : ℕ) (xs : List ℕ) (t : ℕ) → entry (tail i xs) t ≡ entry xs (i + t)
tail_at i xs t =
    ap (λ (ys : List ℕ). entry ys t) (take_all (length xs - i) (drop i xs) (omega (arith, length-drop i xs))) ∙ get_or-drop i xs t 0

-- a list that is not empty
pub some_left : (n : ℕ) {r : Bool} → r ≡ eqb n 0 → r ≡ false → 0 < n
some_left n e h = let no = eqb-false n 0 (sym e ∙ h) in omega (arith, no)

pub passed_none : (k first : ℕ) (holds counts : List ℕ) (cells : List ℤ) → (0 < length cells → first < length holds)
    → Passed k first holds counts cells cells k first
passed_none k first holds counts cells some =
    let none : length cells - length cells ≡ 0 = omega arith in
    record {
      left = omega arith;
      those = rw none;
      far = omega arith;
      next = λ l. (omega arith, some l);
      kept = rw none (all_none _);
    }

-- a turn judges the next w cells, as far as the row and the cells go
module _ (k first : ℕ) (holds counts : List ℕ) (cells rest : List ℤ) (row i : ℕ) (p : Passed k first holds counts cells rest row i) (some : 0 < length rest)
    (w : ℕ) (fits : w ≡ min (length rest) (length holds - i)) (front : List ℤ) (is : front ≡ take w rest) {r : Bool}
    (judged : r ≡ all_below (length front) (λ t. value_rule (ltb row (entry (tail i counts) t)) (entry (tail i holds) t) (cell front t))) where
  abbrev at : ℕ
  at = length cells - length rest

  abbrev rule : ℕ → Bool
  rule t = rule_at (length holds) holds counts (k * length holds + first + t) (cell cells t)

  front_long : length front ≡ w
  front_long = rw is (length-take-le w rest (omega arith))

  front_cell : (t : ℕ) → t < w → cell front t ≡ cell cells (at + t)
  front_cell t l =
      rw is (get_or-take w rest t (pos 0) l)
      ∙ ap (λ (xs : List ℤ). get_or xs t (pos 0)) p.those
      ∙ get_or-drop at cells t (pos 0)

  turn : r ≡ all_below w (λ t. rule (at + t))
  turn =
      let n = p.next some in
      row_placed (length holds) holds counts row i w (λ t. cell cells (at + t)) {place = λ t. k * length holds + first + (at + t)} (omega arith) (λ t. omega arith)
      (judged
      ∙ ap (λ (m : ℕ). all_below m (λ t. value_rule (ltb row (entry (tail i counts) t)) (entry (tail i holds) t) (cell front t))) front_long
      ∙ all_cong _ _ w
      (λ t l. rw (tail_at i counts t, tail_at i holds t, front_cell t l)))

  pub turn_fails : not r ≡ true → false ≡ all_below (length cells) rule
  turn_fails h = let left = p.left in run_fails rule at w (omega arith) turn h

  pub turn_holds : (later : List ℤ) → later ≡ drop w rest → not r ≡ false → Passed k first holds counts cells later (row + 1) 0
  turn_holds later e h =
      let left = p.left in
      let long : length later ≡ length rest - w = rw e (length-drop w rest) in
      let n = p.next some in
      let gone : length cells - length later ≡ at + w = omega arith in
      record {
        left = omega arith;
        those = e ∙ ap (drop w) p.those ∙ drop-drop w at cells ∙ ap (λ (n : ℕ). drop n cells) (sym gone);
        far = omega (arith, p.far);
        next = λ more. (omega (arith, row_next (length holds) row), omega arith);
        kept = rw gone (run_holds rule at w p.kept turn h);
      }
