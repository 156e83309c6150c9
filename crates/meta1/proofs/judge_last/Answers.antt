-- The last two fields by their unsigned readings.
use mathlib.Core.Path.{◌≡◌, ap, ap₂, sym, ◌∙◌}
use mathlib.Core.Bool.{true, false, not}
use mathlib.Core.List.{List}
use Prim.Native.Nat.{ℕ, ◌+◌, ◌≤◌, ◌<◌, ◌^◌}
use native.Mathlib.Omega.{arith}
use borrow.Author.Tests.{lt-ltb, le-ltb, eq-eqb, ne_eqb}
use lib.Dec.{eqb, ltb}
use lib.IntN.{pos}
use lib.ListN.{length, get_or}
use Rattle.endian.specs.Number.{number_at}
use Rattle.endian.specs.Signed.{signed}
use Rattle.endian.specs.declared.read.Read.{Read}
use Rattle.format.specs.declared.refusal.Refusal.TheVariants.{NotClosed, BadMaxchunks, BadMeta2Place}
use Rattle.format.specs.declared.refusal.Refusal.{Refusal}
use Rattle.format.specs.declared.fault.Broken.{Broken}
use Rattle.format.specs.declared.head.Head.{Head}
use Rattle.format.specs.Kinds
use Rattle.format.specs.Limits.{maxchunks_rule}
use Rattle.format.specs.Layout.{meta1_end, meta2_start, meta2_length, meta2_end}
use Rattle.format.specs.Meta1.{last_at}
use Rattle.format.specs.Record.{is_big, meta2_at, end_at}
use Rattle.format.specs.Refusals.{test_at, number_of, verdict}
use Rattle.format.specs.Judge.{number_fault, end_fault, last_tests}
use Rattle.format.proofs.Fields.{maxchunks_facts}
use Rattle.format.proofs.Verdicts.{fails_first, passes_first, passes_last}
use Rattle.format.proofs.Judged.{verdict_of}
use Rattle.front.proofs.Answers.{ruled, said}
use Rattle.meta1.proofs.Answers.{maxchunks, start, place, end, place_small, end_small, start_fault, from_12, last_unsigned, last_read}
use Rattle.meta1.proofs.judge_last.Goals as goal
use Rattle.meta1.proofs.judge_last.Goals.{Start, After-get-start, After-get-chunks, After-meta2_start-place, After-meta2_length}

-- META1 is there whole
long : (s : Start) → meta1_end s.args.h.n ≤ length s.args.xs.now
unfolding meta1_end
long s = let few = s.requires.sound.tasks in
    s.requires.head.covers (meta1_end s.args.h.n) s.requires.head.long (omega arith)

pub get-start-requires : goal.get-start-requires
unfolding meta1_end
get-start-requires c = omega (arith, long (goal.at.get-start-requires c).Start, c.last_at-at.ensures)

-- the two fields where they stand
abbrev start_read : Head → List ℕ → ℕ → Read ℕ
start_read h xs at = record { value = number_at (is_big h) 8 xs (at + 4); at = at + 4 }

abbrev chunks_read : Head → List ℕ → ℕ → Read ℕ
chunks_read h xs at = record { value = number_at (is_big h) 4 xs at; at = at }

found_start : (c : After-get-start) → c.get-start.result ≡ start_read c.args.h c.args.xs.now (last_at c.args.h.n)
found_start c = c.get-start.ensures ∙ ap (start_read c.args.h c.args.xs.now) c.last_at-at.ensures

found_chunks : (c : After-get-chunks) → c.get-chunks.result ≡ chunks_read c.args.h c.args.xs.now (last_at c.args.h.n)
found_chunks c = c.get-chunks.ensures ∙ ap (chunks_read c.args.h c.args.xs.now) c.last_at-at.ensures

-- what is broken of start_of_varheader is said of the number in the file
start_said : (r : Refusal) (least most : ℕ) {b : Broken} {read : Read ℕ} {value at : ℕ} → read ≡ record { value = value; at = at }
    → b ≡ record { refusal = r; fault = number_fault Kinds.start read.at (signed 63 read.value) least most }
    → verdict_of b ≡ record { refusal = number_of r; fault = number_fault Kinds.start at (signed 63 value) least most }
start_said r least most is e =
    ap verdict_of e ∙ (λ i. record { refusal = number_of r; fault = number_fault Kinds.start (is i).at (signed 63 (is i).value) least most })

pub returns-then-start-eq0-clause-verdict : goal.returns-then-start-eq0-clause-verdict
returns-then-start-eq0-clause-verdict c =
    let found = found_start (goal.at.returns-then-start-eq0-clause-verdict c).After-get-start in
    let none : start c.requires ≡ 0 = (λ i. (sym found i).value) ∙ c.if-start-eq0.true in
    start_said NotClosed _ _ found c.bad_start.ensures ∙ sym (last_unsigned c.requires ∙ fails_first _ _ (eq-eqb _ 0 none))

-- it is not 0, so 10 passed
closed : (c : After-get-chunks) → eqb (start c.requires) 0 ≡ false
closed c =
    let found = c.get-start.ensures ∙ ap (start_read c.args.h c.args.xs.now) c.last_at-at.ensures in
    ne_eqb (start c.requires) 0 (λ e. c.if-start-eq0.false ((λ i. (found i).value) ∙ e))

pub returns-then-not-maxchunks_ok-clause-verdict : goal.returns-then-not-maxchunks_ok-clause-verdict
returns-then-not-maxchunks_ok-clause-verdict c =
    let at = (goal.at.returns-then-not-maxchunks_ok-clause-verdict c).After-get-chunks in
    said BadMaxchunks Kinds.maxchunks _ _ (found_chunks at) c.number4.ensures
    ∙ sym (last_unsigned c.requires
    ∙ passes_first _ _ (closed at)
    ∙ fails_first _ _ (ruled maxchunks_rule (found_chunks at) c.if-not-maxchunks_ok.ensures))

pub meta2_start-place-requires : goal.meta2_start-place-requires
meta2_start-place-requires c = maxchunks_facts _ (sym c.if-not-maxchunks_ok.ensures)

-- 11 passed too
counted : (c : After-meta2_start-place) → maxchunks_rule (pos (maxchunks c.requires)) ≡ true
counted c =
    (λ i. maxchunks_rule (pos (sym (c.get-chunks.ensures ∙ ap (chunks_read c.args.h c.args.xs.now) c.last_at-at.ensures) i).value))
    ∙ sym c.if-not-maxchunks_ok.ensures

asked_12 : (c : After-get-chunks) → maxchunks_rule (pos (maxchunks c.requires)) ≡ true
    → verdict (last_tests c.args.xs.now c.args.len) ≡ verdict (from_12 c.requires)
asked_12 c e = last_unsigned c.requires ∙ passes_first _ _ (closed c) ∙ passes_first _ _ (ap not e)

-- META2's start and its end
placed : (c : After-meta2_start-place) → c.meta2_start-place.result ≡ place c.requires
unfolding meta2_at
placed c =
    let chunks = c.get-chunks.ensures ∙ ap (chunks_read c.args.h c.args.xs.now) c.last_at-at.ensures in
    c.meta2_start-place.ensures
    ∙ (λ i. meta2_start (c.of.ensures.blocksize i) (c.of.ensures.n i) (λ j. get_or (c.of.ensures.sizes i) j 0) (chunks i).value)

ended : (c : After-meta2_length) → c.meta2_start-place.result ≡ place c.requires → c.meta2_start-place.result + c.meta2_length.result ≡ end c.requires
unfolding meta2_at end_at meta2_end
ended c e =
    let chunks = c.get-chunks.ensures ∙ ap (chunks_read c.args.h c.args.xs.now) c.last_at-at.ensures in
    ap₂ (λ (x y : ℕ). x + y) e (c.meta2_length.ensures ∙ (λ i. meta2_length c.args.h.n (chunks i).value))

pub bad_start-requires-then-start-place : goal.bad_start-requires-then-start-place
bad_start-requires-then-start-place c =
    let at = (goal.at.bad_start-requires-then-start-place c).After-meta2_start-place in
    let small : c.meta2_start-place.result < 2 ^ 63 = rw (placed at) (place_small c.requires (counted at)) in
    (small, small)

pub returns-then-start-place-clause-verdict : goal.returns-then-start-place-clause-verdict
returns-then-start-place-clause-verdict c =
    let at = goal.at.returns-then-start-place-clause-verdict c in
    let found = found_start at.After-get-start in
    let there = placed at.After-meta2_start-place in
    let differs : start c.requires ≡ place c.requires → ⊥ = λ e. c.if-start-place.true ((λ i. (found i).value) ∙ e ∙ sym there) in
    start_said BadMeta2Place _ _ found c.bad_start-then-start-place.ensures
    ∙ (λ i. record { refusal = 12; fault = start_fault c.requires (there i) (there i) })
    ∙ sym (asked_12 at.After-get-chunks (counted at.After-meta2_start-place) ∙ fails_first _ _ (ap not (ne_eqb _ _ differs)))

pub meta2_length-requires : goal.meta2_length-requires
meta2_length-requires c = (c.requires.sound.tasks, maxchunks_facts _ (sym c.if-not-maxchunks_ok.ensures))

pub overflow_add-end : goal.overflow_add-end
overflow_add-end c =
    let at = goal.at.overflow_add-end c in
    let there = placed at.After-meta2_start-place in
    omega (arith, ended at.After-meta2_length there, end_small c.requires (counted at.After-meta2_start-place))

pub not_as_needed-requires : goal.not_as_needed-requires
not_as_needed-requires c =
    let at = goal.at.not_as_needed-requires c in
    let there = placed at.After-meta2_start-place in
    let small : c.meta2_start-place.result + c.meta2_length.result < 2 ^ 63 =
    rw (ended at.After-meta2_length there) (end_small c.requires (counted at.After-meta2_start-place)) in
    (omega (arith, small), small)

pub returns-then-len-end-clause-verdict : goal.returns-then-len-end-clause-verdict
returns-then-len-end-clause-verdict c =
    let at = goal.at.returns-then-len-end-clause-verdict c in
    let there = placed at.After-meta2_start-place in
    let ends = ended at.After-meta2_length there in
    let same : start c.requires ≡ place c.requires = (λ i. (sym (found_start at.After-get-start) i).value) ∙ c.if-start-place.false ∙ there in
    ap verdict_of c.not_as_needed.ensures
    ∙ (λ i. record { refusal = 12; fault = end_fault c.args.len (ends i) })
    ∙ sym (asked_12 at.After-get-chunks (counted at.After-meta2_start-place)
    ∙ passes_first _ _ (ap not (eq-eqb _ _ same))
    ∙ fails_first _ _ (rw (← ends) (lt-ltb _ _ c.if-len-end.true)))

pub returns : goal.returns
returns c =
    let at = goal.at.returns c in
    let there = placed at.After-meta2_start-place in
    let ends = ended at.After-meta2_length there in
    let same : start c.requires ≡ place c.requires = (λ i. (sym (found_start at.After-get-start) i).value) ∙ c.if-start-place.false ∙ there in
    record {
      verdict =
          sym (asked_12 at.After-get-chunks (counted at.After-meta2_start-place)
          ∙ passes_first _ _ (ap not (eq-eqb _ _ same))
          ∙ passes_last (test_at 12 (end_fault c.args.len (end c.requires)) (ltb c.args.len (end c.requires))) (rw (← ends) (le-ltb _ _ c.if-len-end.false)));
      last =
          (λ i. record { maxchunks = (found_chunks at.After-get-chunks i).value; start = there i })
          ∙ last_read c.requires (counted at.After-meta2_start-place);
    }
