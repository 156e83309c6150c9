-- What an accepted close of a pair leaves: of each file what its own close leaves, and in file 0 the mapping after META2.
use mathlib.Core.Path.{◌≡◌, refl, sym, ap, ap₂, ◌∙◌}
use mathlib.Core.List.{List, ◌++◌}
use mathlib.Core.Logic.{⊎_elim, inl, inr}
use Prim.Native.Nat.{ℕ, ◌+◌, ◌*◌, ◌≤◌}
use native.Mathlib.Omega.{arith}
use lib.ListN.{length, take, drop, get_or}
use lib.Seq.{take-add}
use Rattle.lists.specs.Splice.{splice}
use Rattle.lists.proofs.Splice.{length_splice, splice_here, splice_before, get_or_splice_out}
use Rattle.format.specs.Record.{is_big}
use Rattle.format.specs.Close.{maxchunks_used, close_answer, close_image}
use Rattle.format.proofs.Refusals.{number_is}
use Rattle.container.specs.Format.{CloseStores}
use Rattle.container.proofs.Refusing.{close_number}
use Rattle.container.proofs.Stores.{close_stores_hold}
use Rattle.pairs.specs.declared.PairClosed.{PairClosed}
use Rattle.pairs.specs.Mapping.{mapping_length}
use Rattle.pairs.specs.Sessions.{Pair, tasks₀, tasks₁, ranks₀, ranks₁, size, pair_close_refusal, pair_closed, pair_close_images}
use Rattle.mapping.proofs.Entries.{length_mapping}
use Rattle.pair_closing.proofs.Closed.{mapping_bytes, own_passes, mapping_inside, accepted_closed, closed_images}
use Rattle.pair.specs.Stores.{own_length, PairCloseStores}

module _ (p : Pair) where
  pub pair_close_number : (pair_closed p).refusal ≡ pair_close_refusal p
  unfolding pair_closed
  pair_close_number = number_is (pair_close_refusal p) _ _ (λ (a : PairClosed). a.refusal) refl refl

  mapping_long : length (mapping_bytes p) ≡ 4 + 8 * size p
  unfolding mapping_length
  mapping_long = length_mapping (tasks₀ p) (tasks₁ p) (ranks₀ p) (ranks₁ p) (is_big p.first.session.head)

  module _ (zero : pair_close_refusal p ≡ 0) where
    own_closes : ((close_answer p.first).refusal ≡ 0) × ((close_answer p.second).refusal ≡ 0)
    own_closes = (close_number p.first ∙ (own_passes p zero).0, close_number p.second ∙ (own_passes p zero).1)

    stores₀ : CloseStores p.first (maxchunks_used p.first)
    stores₀ = close_stores_hold p.first own_closes.0

    -- the mapping fits after file 0's META2, and is all that its own close leaves out
    fits : own_length p + length (mapping_bytes p) ≤ length (close_image p.first)
    unfolding mapping_length
    fits = omega (arith, mapping_inside p zero, mapping_long, stores₀.length_is, stores₀.as_long)

    pub closed_first : (pair_close_images p).0 ≡ splice (close_image p.first) (own_length p) (mapping_bytes p)
    closed_first =
        ap (λ (images : List ℕ × List ℕ). images.0) (closed_images p zero)
        ∙ ap (λ (at : ℕ). splice (close_image p.first) at (mapping_bytes p)) (sym stores₀.length_is)

    length_is : (pair_closed p).length0 ≡ own_length p + (4 + 8 * size p)
    unfolding mapping_length
    length_is = ap (λ (a : PairClosed). a.length0) (accepted_closed p zero) ∙ ap (λ (at : ℕ). at + (4 + 8 * size p)) (sym stores₀.length_is)

    -- so what is loaded again of file 0 is its own container, and then the mapping
    pub closed_bytes : take (pair_closed p).length0 (pair_close_images p).0 ≡ take (own_length p) (close_image p.first) ++ mapping_bytes p
    closed_bytes =
        ap₂ take (length_is ∙ ap (λ (k : ℕ). own_length p + k) (sym mapping_long)) closed_first
        ∙ take-add (own_length p) (length (mapping_bytes p)) _
        ∙ ap₂ ◌++◌ (splice_before (close_image p.first) (own_length p) (mapping_bytes p) fits 0 (own_length p) (omega arith))
        (splice_here (close_image p.first) (own_length p) (mapping_bytes p) fits)

    closed_stores : PairCloseStores p
    closed_stores = record {
      own_closes = own_closes;
      sessions =
          (ap (λ (a : PairClosed). a.session0) (accepted_closed p zero), ap (λ (a : PairClosed). a.session1) (accepted_closed p zero));
      length_0 = length_is;
      length_1 = ap (λ (a : PairClosed). a.length1) (accepted_closed p zero) ∙ sym (close_stores_hold p.second own_closes.1).length_is;
      mapped =
          ap₂ (λ (n : ℕ) (xs : List ℕ). take n (drop (own_length p) xs)) (sym mapping_long) closed_first
          ∙ splice_here (close_image p.first) (own_length p) (mapping_bytes p) fits;
      others = λ j out.
          ap (λ (xs : List ℕ). get_or xs j 0) closed_first
          ∙ get_or_splice_out (close_image p.first) (own_length p) (mapping_bytes p) fits j 0
          (⊎_elim inl (λ l. inr (omega (arith, mapping_long))) out);
      as_long =
          ap length closed_first ∙ length_splice (close_image p.first) (own_length p) (mapping_bytes p) fits ∙ stores₀.as_long;
      inside = omega (arith, length_is, fits, mapping_long, stores₀.as_long);
      image_1 = ap (λ (images : List ℕ × List ℕ). images.1) (closed_images p zero);
    }

pub pair_close_stores : (p : Pair) → (pair_closed p).refusal ≡ 0 → PairCloseStores p
pair_close_stores p e = closed_stores p (sym (pair_close_number p) ∙ e)
