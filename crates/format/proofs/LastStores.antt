-- What is found of an image where the stores of a close are cut: META2, then maxchunks and start_of_varheader. Until start_of_varheader is begun its bytes are as
-- they were; once maxchunks is whole, all is there as soon as start_of_varheader says where META2 starts.
use mathlib.Core.Path.{◌≡◌, refl, sym, ap, ap₂, ◌∙◌}
use mathlib.Core.Bool.{Bool, true, false}
use mathlib.Core.List.{List, [], ◌∷◌, ◌++◌}
use mathlib.Core.Logic.{◌⊎◌, inl, inr, ⊎_elim}
use Prim.Native.Nat.{ℕ, ◌+◌, ◌-◌, ◌^◌, ◌≤◌, ◌<◌}
use native.Mathlib.Omega.{arith}
use lib.Dec.{ltb, lit<}
use lib.IntN.{pos}
use lib.ListN.{length, take, drop, get_or, length-take, length-drop, take-append-drop, get_or-eq_default}
use lib.Seq.{length-take-le, take_all, take-take, take-add, take_at, drop-drop, get_or-take, get_or-drop, get_or-append-add}
use borrow.Author.Tests.{ltb-true, ltb-false}
use Rattle.lists.specs.Splice.{splice}
use Rattle.lists.specs.Stores.{Store, store, applied, first_stores, found}
use Rattle.lists.proofs.Splice.{length_splice, splice_here, splice_after, get_or_splice_in, get_or_splice_out}
use Rattle.lists.proofs.Stores.{Fit, splice_same, length_take_of, length_found, applied_again, run_either}
use Rattle.endian.specs.Number.{number_at}
use Rattle.endian.specs.Signed.{signed_at, signed_digits}
use Rattle.endian.proofs.Number.{length_digits, digits_bytes, number_same, number_digits}
use Rattle.endian.proofs.Signed.{signed_there}
use Rattle.format.specs.Meta1.{last_at, start_at, last_fields}
use Rattle.format.proofs.Stored.{length_last}

module _ (xs : List ℕ) (n m at : ℕ) (big : Bool) (second : List ℕ) (start : ℕ) (apart : last_at n + 12 ≤ at) (fits : at + length second ≤ length xs) where
  abbrev pub fields : List ℕ
  fields = last_fields big m start

  abbrev pub last_stores : List Store
  last_stores = store at second ∷ store (last_at n) fields ∷ []

  long : length fields ≡ 12
  long = length_last big m start

  pub last_fit : Fit (length xs) last_stores
  last_fit = (fits, (omega (arith, long), tt))

  module _ (b : ℕ) where
    -- META2 as far as the budget goes, and of the fields what is left of it
    abbrev between : List ℕ
    between = splice xs at (take b second)

    abbrev rest : List ℕ
    rest = take (b - length second) fields

    abbrev ys : List ℕ
    ys = found b xs last_stores

    is : ys ≡ splice between (last_at n) rest
    unfolding found first_stores applied
    is = refl

    fits_between : at + length (take b second) ≤ length xs
    fits_between = omega (arith, length_take_of b second)

    long_between : length between ≡ length xs
    long_between = length_splice xs at (take b second) fits_between

    fits_rest : last_at n + length rest ≤ length between
    fits_rest = omega (arith, long, long_between, length_take_of (b - length second) fields)

    pub last_long : length ys ≡ length xs
    last_long = length_found b xs last_stores last_fit

    -- a place before META2 that the fields, as far as they are stored, do not reach is as it was
    kept : (j : ℕ) → j < at → (j < last_at n) ⊎ (last_at n + length rest ≤ j) → get_or ys j 0 ≡ get_or xs j 0
    kept j l out =
        ap (λ (l : List ℕ). get_or l j 0) is ∙ get_or_splice_out between (last_at n) rest fits_rest j 0 out
        ∙ get_or_splice_out xs at (take b second) fits_between j 0 (inl l)

    pub front_stays : (j : ℕ) → j < last_at n → get_or ys j 0 ≡ get_or xs j 0
    front_stays j l = kept j (omega arith) (inl l)

    -- as long as no byte of start_of_varheader is stored
    pub start_stays : b ≤ length second + 4 → (j : ℕ) → start_at n ≤ j → j < start_at n + 8 → get_or ys j 0 ≡ get_or xs j 0
    start_stays early j low top = kept j (omega arith) (inr (omega (arith, length-take (b - length second) fields)))

    -- once META2 and maxchunks are stored
    module _ (late : length second + 4 ≤ b) where
      whole : take b second ≡ second
      whole = take_all b second (omega arith)

      abbrev mid : List ℕ
      mid = splice xs at second

      mid_long : length mid ≡ length xs
      mid_long = length_splice xs at second fits

      abbrev first_bytes : List ℕ
      first_bytes = signed_digits big 4 (pos m)

      abbrev last_bytes : List ℕ
      last_bytes = signed_digits big 8 (pos start)

      is_late : ys ≡ splice mid (last_at n) rest
      is_late = is ∙ ap (λ (l : List ℕ). splice (splice xs at l) (last_at n) rest) whole

      fits_late : last_at n + length rest ≤ length mid
      fits_late = omega (arith, long, mid_long, length_take_of (b - length second) fields)

      -- maxchunks is there
      maxchunks_there : take 4 (drop (last_at n) ys) ≡ first_bytes
      unfolding last_fields
      maxchunks_there =
          let more : 4 ≤ length rest = omega (arith, long, length-take (b - length second) fields) in
          ap (λ (l : List ℕ). take 4 (drop (last_at n) l)) is_late
          ∙ sym (take-take 4 (length rest) (drop (last_at n) (splice mid (last_at n) rest)) more)
          ∙ ap (take 4) (splice_here mid (last_at n) rest fits_late)
          ∙ take-take 4 (b - length second) fields (omega arith)
          ∙ take_at first_bytes last_bytes 4 (length_digits big 4 _)

      pub maxchunks_said : m < 2 ^ 31 → signed_at big 4 ys (last_at n) ≡ pos m
      maxchunks_said small =
          signed_there big 4 (pos m) ys (drop 4 (drop (last_at n) ys)) (last_at n) (lit< tt)
          (sym (take-append-drop 4 (drop (last_at n) ys)) ∙ ap (λ (l : List ℕ). l ++ drop 4 (drop (last_at n) ys)) maxchunks_there) small

      -- META2 is there
      second_there : take (length second) (drop at ys) ≡ second
      second_there =
          ap (λ (l : List ℕ). take (length second) (drop at l)) is_late
          ∙ ap (take (length second)) (splice_after mid (last_at n) rest fits_late at (omega (arith, long, length_take_of (b - length second) fields)))
          ∙ splice_here xs at second fits

      -- a byte of start_of_varheader is as it was, or stored
      either : (i : ℕ) → i < 8 → (get_or ys (start_at n + i) 0 ≡ get_or xs (start_at n + i) 0) ⊎ (get_or ys (start_at n + i) 0 ≡ get_or last_bytes i 0)
      unfolding last_fields
      either i l =
          let j : ℕ = start_at n + i in
          let whole-fits : last_at n + length fields ≤ length mid = omega (arith, long, mid_long) in
          let place : last_at n + (4 + i) ≡ j = omega arith in
          let there : get_or (splice mid (last_at n) fields) j 0 ≡ get_or last_bytes i 0 =
          ap (λ (k : ℕ). get_or (splice mid (last_at n) fields) k 0) (sym place)
          ∙ get_or_splice_in mid (last_at n) fields whole-fits (4 + i) 0 (omega (arith, long))
          ∙ ap (λ (k : ℕ). get_or fields (k + i) 0) (sym (length_digits big 4 _)) ∙ get_or-append-add first_bytes last_bytes i 0 in
          let here = ap (λ (l : List ℕ). get_or l j 0) is_late in
          ⊎_elim (λ e. inl (here ∙ e ∙ get_or_splice_out xs at second fits j 0 (inl (omega arith)))) (λ e. inr (here ∙ e ∙ there))
          (run_either (b - length second) mid (last_at n) fields whole-fits j)

      -- where start_of_varheader was 0 and says where META2 starts, all is there
      module _ (zero : (i : ℕ) → i < 8 → get_or xs (start_at n + i) 0 ≡ 0) where
        abbrev part : List ℕ
        part = take 8 (drop (start_at n) ys)

        part_long : length part ≡ 8
        part_long = length-take-le 8 (drop (start_at n) ys) (simp length-drop (omega (arith, last_long)))

        part_bytes : (i : ℕ) → get_or part i 0 < 256
        part_bytes i = go (ltb i 8) refl
          where
            go : (t : Bool) → ltb i 8 ≡ t → get_or part i 0 < 256
            go true e =
                let l : i < 8 = ltb-true _ _ e in
                let here = get_or-take 8 (drop (start_at n) ys) i 0 l ∙ get_or-drop (start_at n) ys i 0 in
                ⊎_elim (λ k. let z = here ∙ k ∙ zero i l in omega arith) (λ k. let z = here ∙ k in omega (arith, digits_bytes big 8 start i)) (either i l)
            go false e = rw (get_or-eq_default part 0 {n = i} (rw part_long (ltb-false _ _ e))) (lit< tt)

        pub all_there : start < 2 ^ 63 → number_at big 8 ys (start_at n) ≡ start → ys ≡ applied xs last_stores
        unfolding applied last_fields
        all_there small e =
            let written = number_digits big 8 start (omega arith) in
            let said = number_same big part last_bytes (part_long ∙ sym (length_digits big 8 _)) part_bytes (digits_bytes big 8 _) (e ∙ sym written) in
            let there : take (length fields) (drop (last_at n) ys) ≡ fields =
            ap (λ (k : ℕ). take k (drop (last_at n) ys)) long ∙ take-add 4 8 (drop (last_at n) ys)
            ∙ ap₂ ◌++◌ maxchunks_there (ap (take 8) (drop-drop 4 (last_at n) ys) ∙ said) in
            sym
            (sym (applied_again b xs last_stores last_fit) ∙ ap (λ (l : List ℕ). splice l (last_at n) fields) (splice_same ys at second second_there)
            ∙ splice_same ys (last_at n) fields there)
