-- What the tests of META1's fixed fields answer, from what the code finds as it goes through them, part by part.
use mathlib.Core.Path.{◌≡◌, refl, ap, sym, ◌∙◌}
use mathlib.Core.Bool.{Bool, true, not, or-true}
use mathlib.Core.List.{List, [], ◌∷◌}
use Prim.Native.Nat.{ℕ, ◌^◌, ◌<◌, ◌≤◌}
use native.Mathlib.Omega.{arith}
use borrow.Author.Tests.{ltb-false, le-ltb, not-false}
use lib.Dec.{ltb}
use lib.IntN.{ℤ, pos}
use Rattle.std.specs.Prelude.{nat_eq}
use Rattle.std.specs.List.{starts_with}
use Rattle.std.proofs.lemmas.Bool.Decides.{nat_tests}
use Rattle.lists.specs.Below.{all_below}
use Rattle.endian.specs.Number.{number_at}
use Rattle.endian.specs.Signed.{signed, signed_at, natural}
use Rattle.endian.proofs.Signed.{natural_signed, within_one}
use Rattle.format.specs.Limits.{max_tasks, min_blocksize, max_blocksize, plain_format, idle_format, format_rule, blocksize_rule, tasks_rule}
use Rattle.format.specs.Layout.{meta1_end}
use Rattle.format.specs.declared.head.Head.{Head}
use Rattle.format.specs.declared.head.File.{File}
use Rattle.endian.specs.declared.read.Read.{Read}
use Rattle.format.specs.declared.fault.Broken.{Broken}
use Rattle.format.specs.declared.refusal.Refusal.{Refusal}
use Rattle.format.specs.Kinds
use Rattle.format.specs.Refusals.{Test, test_at, verdict, passed, number_of}
use Rattle.format.specs.Meta1.{magic, fixed_length, format_at, blocksize_at, tasks_at, files_at, file_number_at, version_field, patch_field, files_field, file_number_field}
use Rattle.format.specs.Record.{order_of, files_of, file_of, head_of}
use Rattle.format.specs.Judge.{number_fault, end_fault, magic_in, big_in, ordered_in, tasks_in, head_in, start_tests, field_tests, fixed_tests}
use Rattle.front.specs.Judging.{Covers, HeadRead, order_test, value_test}
use Rattle.format.proofs.Power.{blocksize_facts}
use Rattle.format.proofs.Rules.{blocksize_natural, tasks_natural}
use Rattle.format.proofs.Refusals.{both_pass, none_fails}
use Rattle.format.proofs.Verdicts.{passes_last}
use Rattle.format.proofs.Judged.{verdict_of, passed_passes}
use Rattle.format.proofs.Accepting.{start_numbered, field_numbered}
use Rattle.format.proofs.Formats.{format_facts, format_number}
use Rattle.format.proofs.Fields.{blocksize_number, tasks_number, tasks_facts, verdict_agree}

-- the first bytes compared with the magic number's are the test of each
pub magic_starts : (xs : List ℕ) → starts_with nat_eq xs magic ≡ magic_in xs
unfolding magic_in all_below
magic_starts [] = grind (arith, nat_tests)
magic_starts (a ∷ []) = grind (arith, nat_tests)
magic_starts (a ∷ b ∷ []) = grind (arith, nat_tests)
magic_starts (a ∷ b ∷ c ∷ []) = grind (arith, nat_tests)
magic_starts (a ∷ b ∷ c ∷ d ∷ xs) = grind (arith, nat_tests)

-- the order number is 1 in big order
pub big_ordered : (xs : List ℕ) → big_in xs ≡ true → ordered_in xs ≡ true
unfolding ordered_in
big_ordered xs e = rw (e, or-true)

module _ (xs : List ℕ) (len : ℕ) where
  -- the order number was found
  pub order_passes : 8 ≤ len → ordered_in xs ≡ true → passed ≡ verdict (order_test xs len ∷ [])
  order_passes l e = sym (passes_last (order_test xs len) (rw (le-ltb len 8 l, e)))

  -- where the first tests pass, the fixed fields are there
  pub start_long : passed ≡ verdict (start_tests xs len) → fixed_length ≤ len
  unfolding start_tests
  start_long e =
      let (mark, (order, (long, end))) = none_fails (start_tests xs len) (start_numbered xs len) (passed_passes _ e) in
      ltb-false len fixed_length long

-- a rule of a number that is read says the same of the number in the file
pub ruled : (rule : ℤ → Bool) {read : Read ℕ} {value at : ℕ} {answer : Bool} → read ≡ record { value = value; at = at } → answer ≡ rule (pos read.value)
    → not (rule (pos value)) ≡ not answer
ruled rule is e = (λ i. not (rule (pos (sym is i).value))) ∙ ap not (sym e)

-- what is broken is said of the number in the file
pub said : (refusal : Refusal) (kind least most : ℕ) {b : Broken} {read : Read ℕ} {value at : ℕ} → read ≡ record { value = value; at = at }
    → b ≡ record { refusal = refusal; fault = number_fault kind read.at (signed 31 read.value) least most }
    → verdict_of b ≡ record { refusal = number_of refusal; fault = number_fault kind at (signed 31 value) least most }
said refusal kind least most is e =
    ap verdict_of e ∙ (λ i. record { refusal = number_of refusal; fault = number_fault kind (is i).at (signed 31 (is i).value) least most })

-- test 3, of an image of `len` bytes of which so many are needed
abbrev pub end_test : ℕ → ℕ → Test
end_test len needed = test_at 3 (end_fault len needed) (ltb len needed)

module _ (xs : List ℕ) (f : File) (len : ℕ) {big : Bool} (same : big ≡ big_in xs) where
  -- ---- the tests of the fields, of unsigned readings: v of fileformat_version, b of blocksize and n of ntasks

  abbrev pub from_7 : ℕ → List Test
  from_7 n =
      value_test Kinds.files files_at (signed_at big 4 xs files_at) (files_of f)
      ∷ value_test Kinds.file_number file_number_at (signed_at big 4 xs file_number_at) (file_of f)
      ∷ end_test len (meta1_end n)
      ∷ []

  abbrev pub unsigned_tests : ℕ → ℕ → ℕ → List Test
  unsigned_tests v b n =
      test_at 4 (number_fault Kinds.format format_at (signed 31 v) plain_format idle_format) (not (format_rule (pos v)))
      ∷ test_at 5 (number_fault Kinds.blocksize blocksize_at (signed 31 b) min_blocksize max_blocksize) (not (blocksize_rule (pos b)))
      ∷ test_at 6 (number_fault Kinds.tasks tasks_at (signed 31 n) 1 max_tasks) (not (tasks_rule (pos n)))
      ∷ from_7 n

  pub fields_unsigned : let v = number_at big 4 xs format_at in
      let b = number_at big 4 xs blocksize_at in
      let n = number_at big 4 xs tasks_at in
      verdict (field_tests xs f len) ≡ verdict (unsigned_tests v b n)
  unfolding field_tests tasks_in
  fields_unsigned =
      let v = number_at big 4 xs format_at in
      let b = number_at big 4 xs blocksize_at in
      let n = number_at big 4 xs tasks_at in
      rw (sym same, format_number v, blocksize_number b, tasks_number n)
      (verdict_agree _ _ _ (λ _. verdict_agree _ _ _ (λ _. verdict_agree _ _ _
      (λ e. rw (natural_signed 31 n (omega (arith, (tasks_facts n (not-false _ e)).1))) refl))))

  -- the fields that are read are those of the head
  pub fields_read : passed ≡ verdict (field_tests xs f len)
      → head_of (order_of big) (version_field big xs) (patch_field big xs) (number_at big 4 xs format_at) (number_at big 4 xs blocksize_at)
      (number_at big 4 xs tasks_at) (files_of f) (file_of f)
      ≡ head_in xs
  unfolding head_in tasks_in field_tests
  fields_read e =
      let v = number_at big 4 xs format_at in
      let b = number_at big 4 xs blocksize_at in
      let n = number_at big 4 xs tasks_at in
      let (format, (block, (tasks, (files, (number, rest))))) = none_fails (field_tests xs f len) (field_numbered xs f len) (passed_passes _ e) in
      let formed : format_rule (signed 31 v) ≡ true = rw same (not-false _ format) in
      let blocked : blocksize_rule (signed 31 b) ≡ true = rw same (not-false _ block) in
      let counted : tasks_rule (signed 31 n) ≡ true = rw same (not-false _ tasks) in
      let known : v < 2 ^ 31 = omega (arith, format_facts v (sym (format_number v) ∙ formed)) in
      let small : b < 2 ^ 31 = omega (arith, blocksize_facts b (sym (blocksize_number b) ∙ blocked)) in
      let few : n < 2 ^ 31 = omega (arith, tasks_facts n (sym (tasks_number n) ∙ counted)) in
      rw (
        ap natural (within_one (files_of f) (files_field (big_in xs) xs) (not-false _ files)),
        ap natural (within_one (file_of f) (file_number_field (big_in xs) xs) (not-false _ number)),
        sym same,
        natural_signed 31 v known,
        natural_signed 31 b small,
        natural_signed 31 n few,
      )

module _ (f : File) (xs : List ℕ) (len : ℕ) where
  -- where they pass, as the fields of some file, all that the rest of META1 is judged by is known
  pub head_read : Covers len xs → passed ≡ verdict (fixed_tests xs f len) → {h : Head} → h ≡ head_in xs → HeadRead xs len h
  unfolding head_in tasks_in fixed_tests field_tests
  head_read covers passes e =
      let zero = (both_pass (start_tests xs len) (field_tests xs f len) (start_numbered xs len) (passed_passes _ passes)).1 in
      let (format, (block, (tasks, (files, (number, (long, end)))))) = none_fails (field_tests xs f len) (field_numbered xs f len) zero in
      record {
        covers = covers;
        head_is = e;
        block = rw e (ap blocksize_rule (sym (blocksize_natural _ (not-false _ block)).0) ∙ not-false _ block);
        few = rw e (tasks_natural _ (not-false _ tasks)).2;
        long = rw e (ltb-false len (meta1_end (tasks_in xs)) long);
      }
