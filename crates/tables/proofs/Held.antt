-- What a chunk holds of each task, as `chunks_hold` lists it: numbers without the top bit, by which values are judged.
use Rattle.std.proofs.Common.{◌≡◌, ℕ, ◌*◌, ◌<◌, ◌≤◌, Bool, List, length, take, ℤ, pos, refl, ap, ◌∙◌, arith}
use lib.Seq.{length-take-le, get_or-take}
use Rattle.lists.specs.Below.{all_below, list_below}
use Rattle.lists.specs.Splice.{splice}
use Rattle.lists.proofs.Below.{length_list}
use Rattle.lists.proofs.Splice.{length_splice, splice_list}
use Rattle.format.specs.Limits.{Sound}
use Rattle.format.specs.Layout.{capacity}
use Rattle.format.specs.Meta2.{values_rule}
use Rattle.format.specs.Record.{entry, cell}
use Rattle.format.proofs.Bounds.{sound_size}
use Rattle.format.proofs.Chunks.{capacity_small}
use Rattle.format.proofs.Rules.{values_agree}
use Rattle.tables.specs.Spans.{rule_at, HoldsListed}
use Rattle.tables.proofs.Rows.{span_cong, values_placed}

pub held_fewer : {n : ℕ} {held : List ℕ} → HoldsListed n held → (m : ℕ) → m ≤ n → HoldsListed m held
held_fewer h m l = record { listed = omega (arith, h.listed); small = λ i u. h.small i (omega arith) }

module _ {b n : ℕ} {sizes : List ℕ} (sound : Sound b n sizes) (before : List ℕ) (room : n ≤ length before) {held : List ℕ}
    (is : held ≡ splice before 0 (list_below n (λ i. capacity b (entry sizes i)))) where
  held_long : length (take n held) ≡ n
  held_long =
      let as_many = length_list (λ i. capacity b (entry sizes i)) n in
      let long : length held ≡ length before = rw is (length_splice before 0 (list_below n (λ i. capacity b (entry sizes i))) (omega arith)) in
      length-take-le n held (omega arith)

  held_at : (i : ℕ) → i < n → entry (take n held) i ≡ capacity b (entry sizes i)
  held_at i l =
      get_or-take n held i 0 l
      ∙ ap (λ (xs : List ℕ). entry xs i) is ∙ splice_list before (λ j. capacity b (entry sizes j)) n 0 room i l

  pub held_listed : HoldsListed (length (take n held)) (take n held)
  held_listed = record {
    listed = omega arith;
    small = λ i l.
        let h : i < n = omega (arith, held_long) in
        omega (arith, held_at i h, capacity_small b (entry sizes i) sound.block (sound_size sound i h).1);
  }

  pub held_short : (m : ℕ) → n ≤ m → length (take n held) ≤ m
  held_short m l = omega (arith, held_long)

  pub held_first : 0 < n → 0 < length (take n held)
  held_first l = omega (arith, held_long)

  -- the rule of all values of m chunks
  pub held_values : (counts : List ℕ) (value : ℕ → ℤ) (m : ℕ)
      → all_below (n * m) (λ j. rule_at (length (take n held)) (take n held) counts j (value j)) ≡ values_rule n m (λ i. capacity b (entry sizes i)) (entry counts) value
  held_values counts value m =
      ap (λ (k : ℕ). all_below (n * m) (λ j. rule_at k (take n held) counts j (value j))) held_long
      ∙ values_placed n (take n held) counts value m
      ∙ values_agree n m (entry (take n held)) (λ i. capacity b (entry sizes i)) (entry counts) (entry counts) value value held_at (λ i l. refl) (λ j l. refl)

  -- judged as one span, from the first of them on
  pub held_span : (counts : List ℕ) (table : List ℤ) (m : ℕ) {place : ℕ → ℕ} {r : Bool} → n * m ≤ length table → ((t : ℕ) → place t ≡ t)
      → r ≡ all_below (length (take (n * m) table)) (λ t. rule_at (length (take n held)) (take n held) counts (place t) (cell (take (n * m) table) t))
      → r ≡ values_rule n m (λ i. capacity b (entry sizes i)) (entry counts) (cell table)
  held_span counts table m {place} all here judged =
      span_cong (length (take n held)) (take n held) counts (n * m) here (λ t l. get_or-take (n * m) table t (pos 0) l)
      (judged
      ∙ ap (λ (k : ℕ). all_below k (λ t. rule_at (length (take n held)) (take n held) counts (place t) (cell (take (n * m) table) t)))
      (length-take-le (n * m) table all))
      ∙ held_values counts (cell table) m
