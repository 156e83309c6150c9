-- The number and the bytes of what `part` answers.
use mathlib.Core.Path.{◌≡◌, refl, sym, ap, ◌∙◌}
use mathlib.Core.List.{[]}
use Prim.Native.Nat.{ℕ}
use native.Mathlib.Omega.{arith}
use lib.ListN.{take, drop}
use Rattle.std.specs.Prelude.{Ok}
use Rattle.std.proofs.lemmas.Result.{err_from_is_err_and}
use Rattle.format.specs.declared.loaded.Place.{Place}
use Rattle.format.specs.declared.loaded.Part.{Part}
use Rattle.format.specs.declared.refusal.Refusal.{Refusal}
use Rattle.format.specs.Refusals.{number_of}
use Rattle.format.specs.Answers.{part_of}
use Rattle.format.specs.Reads.{Container, chunk_refusal, chunk_place, chunk_bytes, chunk_part, part_answer}
use Rattle.format.proofs.Refusals.{some_number, number_is, when_accepted, when_refused}
use Rattle.chunks.proofs.try_chunk.Goals as goal

module _ (k : Container) (task chunk : ℕ) where
  number : (part_answer k task chunk).refusal ≡ chunk_refusal k task chunk
  unfolding part_answer chunk_place
  number = number_is (chunk_refusal k task chunk) _ _ (λ (p : Part). p.refusal) refl refl

  answer : {p : Part} → p ≡ part_answer k task chunk → p.refusal ≡ chunk_refusal k task chunk
  answer e = ap (λ (p : Part). p.refusal) e ∙ number

  bytes : (place : Place) → part_of (Ok place) ≡ part_answer k task chunk → take place.length (drop place.start k.image) ≡ chunk_bytes k task chunk
  unfolding part_answer chunk_place chunk_bytes
  bytes place e =
      ap (λ (p : Part). take p.length (drop p.start k.image)) (e ∙ when_accepted (chunk_refusal k task chunk) _ _ (sym (answer e)))

  -- what a caller is to hand on for a refusal, and the bytes of an accepted one
  none : (r : Refusal) → number_of r ≡ chunk_refusal k task chunk → [] ≡ chunk_part k task chunk
  unfolding chunk_part
  none r e = sym (when_refused (chunk_refusal k task chunk) _ _ (omega (arith, e, some_number r)))

  some : {p : Part} → p ≡ part_answer k task chunk → p.refusal ≡ 0 → chunk_bytes k task chunk ≡ chunk_part k task chunk
  unfolding chunk_part
  some e zero = sym (when_accepted (chunk_refusal k task chunk) _ _ (sym (answer e) ∙ zero))

pub returns-in_err-place-clause-bytes : goal.returns-in_err-place-clause-bytes
returns-in_err-place-clause-bytes c =
    let p = err_from_is_err_and c.from_residual.result c.from_residual.ensures.1 in
    rw p.1 (none _ _ _ c.in_err-place.field-0.0 (answer _ _ _ c.in_err-place.ensures.value))

pub returns-in_err-place-clause-value : goal.returns-in_err-place-clause-value
returns-in_err-place-clause-value c =
    let p = err_from_is_err_and c.from_residual.result c.from_residual.ensures.1 in
    rw (p.1, p.2) (answer _ _ _ c.in_err-place.ensures.value)

pub returns-clause-value : goal.returns-clause-value
returns-clause-value c = answer _ _ _ c.in_ok-place.ensures.value

pub returns-clause-bytes : goal.returns-clause-bytes
returns-clause-bytes c = c.bytes_at.ensures ∙ bytes _ _ _ _ c.in_ok-place.ensures.value ∙ some _ _ _ c.in_ok-place.ensures.value refl
