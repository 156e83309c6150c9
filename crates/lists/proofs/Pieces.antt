-- Lists put together from pieces of known lengths: how long they are, and where each piece starts.
use mathlib.Core.Path.{◌≡◌, refl, sym, ap, ap₂, ◌∙◌}
use mathlib.Core.List.{List, [], ◌∷◌, ◌++◌, flatten, append_assoc}
use Prim.Native.Nat.{ℕ, zero, suc, ◌+◌, ◌*◌, ◌<◌}
use lib.ListN.{length, take, drop, length-append, take-append-drop}
use lib.Seq.{drop-append-add}
use Rattle.lists.specs.Below.{join_below}
use Rattle.lists.proofs.Below.{part_join}

-- the sum of lengths
abbrev pub total : List ℕ → ℕ
total [] = 0
total (w ∷ ws) = w + total ws

module _ {ℓ} {A : Type ℓ} where
  -- pieces have these lengths, one by one
  pub data Widths : List (List A) → List ℕ → Type ℓ where
    none : Widths [] []
    more : {p : List A} {w : ℕ} {ps : List (List A)} {ws : List ℕ} → length p ≡ w → Widths ps ws → Widths (p ∷ ps) (w ∷ ws)

  pub length_pieces : {ps : List (List A)} {ws : List ℕ} → Widths ps ws → length (flatten ps) ≡ total ws
  unfolding flatten
  length_pieces none = refl
  length_pieces (more {p} {ps = ps} e r) = length-append p (flatten ps) ∙ ap₂ ◌+◌ e (length_pieces r)

  -- piece k and all after it start where the first k end
  pub drop_pieces : {ps : List (List A)} {ws : List ℕ} → Widths ps ws → (k : ℕ) → drop (total (take k ws)) (flatten ps) ≡ flatten (drop k ps)
  unfolding flatten
  drop_pieces r zero = refl
  drop_pieces none (suc k) = refl
  drop_pieces (more {p} {ps = ps} {ws = ws} e r) (suc k) =
      ap (λ (w : ℕ). drop (w + total (take k ws)) (p ++ flatten ps)) (sym e)
      ∙ drop-append-add p (flatten ps) (total (take k ws)) ∙ drop_pieces {ps = ps} {ws = ws} r k

  -- pieces after pieces
  pub append_pieces : (ps qs : List (List A)) → flatten ps ++ flatten qs ≡ flatten (ps ++ qs)
  unfolding flatten
  append_pieces [] qs = refl
  append_pieces (p ∷ ps) qs = append_assoc p (flatten ps) (flatten qs) ∙ ap (◌++◌ p) (append_pieces ps qs)

  -- one of numbered pieces that have all the same length, and what comes after it
  pub drop_join : (f : ℕ → List A) (n w : ℕ) → ((i : ℕ) → i < n → length (f i) ≡ w) → (i : ℕ) → i < n
      → drop (i * w) (join_below n f) ≡ f i ++ drop w (drop (i * w) (join_below n f))
  drop_join f n w same i l =
      sym (take-append-drop w (drop (i * w) (join_below n f)))
      ∙ ap (λ (p : List A). p ++ drop w (drop (i * w) (join_below n f))) (part_join f n w same i l)
