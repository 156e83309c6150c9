-- The definition is std's first index that passes a test, or the length.
use mathlib.Core.Path.{◌≡◌, refl, sym, ◌∙◌}
use mathlib.Core.Bool.{Bool, true, false, cond, not}
use mathlib.Core.List.{List}
use Prim.Native.Nat.{ℕ}
use native.Mathlib.Omega.{arith}
use borrow.Author.Rules.{rules}
use borrow.Author.Tests.{ltb-false}
use lib.Dec.{eqb, ltb}
use lib.ListN.{length}
use Rattle.std.proofs.Common.{Some, None}
use Rattle.std.specs.List.{position, position_or_len}
use Rattle.std.specs.Option.{unwrap_or}
use Rattle.std.proofs.lemmas.List.Recursion.{is_position_or_len}
use Rattle.std.proofs.lemmas.List.Sums.{prefix_len-le-length}
use Rattle.std.proofs.lemmas.Iterator.{YieldsList-from_slice}
use Rattle.std.proofs.lemmas.Iterator.Search.{position_from_yields_List}
use Rattle.format.specs.About.{before_zero}
use Rattle.about.proofs.before_zero.Goals as goal

abbrev zero : ℕ → Bool
zero byte = eqb byte 0

first_zero : (bytes : List ℕ) → before_zero bytes ≡ position_or_len zero bytes
unfolding before_zero
first_zero = is_position_or_len before_zero zero refl (λ x xs. refl)

first_or_all : (bytes : List ℕ) → unwrap_or (position zero bytes) (length bytes) ≡ position_or_len zero bytes
first_or_all bytes = go (ltb (position_or_len zero bytes) (length bytes)) refl
  where
    go : (b : Bool) → ltb (position_or_len zero bytes) (length bytes) ≡ b
        → unwrap_or (cond b (Some (position_or_len zero bytes)) None) (length bytes) ≡ position_or_len zero bytes
    go true e = refl
    go false e =
        omega (arith, ltb-false (position_or_len zero bytes) (length bytes) e, prefix_len-le-length (λ byte. not (zero byte)) bytes)

pub returns-clause-value : goal.returns-clause-value
returns-clause-value c =
    let bytes = c.args.bytes.now in
    let found : c.position.result ≡ position zero bytes = position_from_yields_List zero _ _ c.position.result c.position.ensures.ran
    (YieldsList-from_slice bytes (cc)) (λ x b q k. search rules) in
    c.unwrap_or.ensures ∙ rw found (first_or_all bytes) ∙ sym (first_zero bytes)
