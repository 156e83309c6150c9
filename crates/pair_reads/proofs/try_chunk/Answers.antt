-- The number and the bytes of what `part` answers.
use mathlib.Core.Path.{◌≡◌, refl, sym, ap, ◌∙◌}
use mathlib.Core.Bool.{Bool, true, false, cond}
use mathlib.Core.List.{[]}
use Prim.Native.Nat.{ℕ, ◌+◌, ◌-◌}
use native.Mathlib.Omega.{arith}
use borrow.Author.Tests.{eq-eqb, ne_eqb}
use lib.Dec.{eqb}
use lib.ListN.{take, drop}
use Rattle.std.specs.Prelude.{Ok}
use Rattle.std.proofs.lemmas.Result.{err_from_is_err_and}
use Rattle.format.specs.declared.refusal.Refusal.{Refusal}
use Rattle.format.specs.Refusals.{number_of}
use Rattle.format.specs.Reads.{chunk_place, chunk_bytes}
use Rattle.format.proofs.Refusals.{some_number, number_is, when_accepted, when_refused}
use Rattle.pairs.specs.declared.PairPart.{PairPart}
use Rattle.pairs.specs.declared.PairPlace.{PairPlace}
use Rattle.pairs.specs.Mapping.{file_of_rank}
use Rattle.pairs.specs.Answers.{pair_part_of}
use Rattle.pairs.specs.Reads.{LoadedPair, second?, file_there, task_there, pair_chunk_refusal, pair_chunk, pair_part}
use Rattle.pair_reads.proofs.try_chunk.Goals as goal
use Rattle.pair_reads.proofs.try_chunk.Goals.{then-place-eq0, else-place-eq0}

module _ (p : LoadedPair) (rank chunk : ℕ) where
  number : (pair_part p rank chunk).refusal ≡ pair_chunk_refusal p rank chunk
  unfolding pair_part
  number = number_is (pair_chunk_refusal p rank chunk) _ _ (λ (part : PairPart). part.refusal) refl refl

  answer : {part : PairPart} → part ≡ pair_part p rank chunk → part.refusal ≡ pair_chunk_refusal p rank chunk
  answer e = ap (λ (part : PairPart). part.refusal) e ∙ number

  -- the image by the file's number
  image_is : cond (eqb (file_of_rank (second? p rank)) 0) p.first.image p.second.image ≡ (file_there p rank).image
  image_is = go (second? p rank)
    where
      go : (second : Bool) → cond (eqb (file_of_rank second) 0) p.first.image p.second.image ≡ (cond second p.second p.first).image
      go true = refl
      go false = refl

  bytes : (place : PairPlace) → pair_part_of (Ok place) ≡ pair_part p rank chunk
      → take place.length (drop place.start (cond (eqb place.file 0) p.first.image p.second.image))
      ≡ chunk_bytes (file_there p rank) (task_there p rank) chunk
  unfolding pair_part chunk_place chunk_bytes
  bytes place e =
      let is = e ∙ when_accepted (pair_chunk_refusal p rank chunk) _ _ (sym (answer e)) in
      ap (λ (part : PairPart). take part.length (drop part.start (cond (eqb part.file 0) p.first.image p.second.image))) is
      ∙ ap (take _) (ap (drop _) image_is)

  -- what a caller is to hand on for a refusal, and the bytes of an accepted one
  none : (r : Refusal) → number_of r ≡ pair_chunk_refusal p rank chunk → [] ≡ pair_chunk p rank chunk
  unfolding pair_chunk
  none r e = sym (when_refused (pair_chunk_refusal p rank chunk) _ _ (omega (arith, e, some_number r)))

  some : {part : PairPart} → part ≡ pair_part p rank chunk → part.refusal ≡ 0
      → chunk_bytes (file_there p rank) (task_there p rank) chunk ≡ pair_chunk p rank chunk
  unfolding pair_chunk
  some e zero = sym (when_accepted (pair_chunk_refusal p rank chunk) _ _ (sym (answer e) ∙ zero))

pub returns-in_err-place-clause-bytes : goal.returns-in_err-place-clause-bytes
returns-in_err-place-clause-bytes c =
    let p = err_from_is_err_and c.from_residual.result c.from_residual.ensures.1 in
    rw p.1 (none _ _ _ c.in_err-place.field-0.0 (answer _ _ _ c.in_err-place.ensures.value))

pub returns-in_err-place-clause-value : goal.returns-in_err-place-clause-value
returns-in_err-place-clause-value c =
    let p = err_from_is_err_and c.from_residual.result c.from_residual.ensures.1 in
    rw (p.1, p.2) (answer _ _ _ c.in_err-place.ensures.value)

pub returns-clause-value : goal.returns-clause-value
returns-clause-value c = answer _ _ _ c.in_ok-place.ensures.value

pub returns-clause-bytes : goal.returns-clause-bytes
returns-clause-bytes c =
    let a = c.args in
    let place = c.in_ok-place.place in
    let cut : place.start + place.length - place.start ≡ place.length = omega arith in
    let image : c.if-place-eq0.image.now ≡ cond (eqb place.file 0) a.image0.now a.image1.now
    = elim c.if-place-eq0.branch [
      | then-place-eq0 w ↦ rw (w.image-is, eq-eqb place.file 0 w.if-place-eq0.true) refl
      | else-place-eq0 w ↦ rw (w.image-is, ne_eqb place.file 0 w.if-place-eq0.false) refl
    ] in
    rw (cut, image) (bytes _ _ _ place c.in_ok-place.ensures.value ∙ some _ _ _ c.in_ok-place.ensures.value refl)
