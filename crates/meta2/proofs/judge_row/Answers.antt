-- The loop's invariant: every value passed keeps its rule.
use mathlib.Core.Path.{◌≡◌, ap, ap₂, sym, ◌∙◌}
use mathlib.Core.Bool.{cond, not}
use mathlib.Core.List.{List, [], ◌∷◌}
use Prim.Native.Nat.{ℕ, suc, ◌+◌, ◌*◌, ◌≤◌}
use native.Mathlib.Omega.{arith}
use borrow.Author.Rules.{rules}
use lib.Dec.{ltb}
use lib.IntN.{pos}
use lib.ListN.{length}
use mir.Facts.{to_z-of_z}
use mir.Syntax.{w64}
use mir.Val.{to_z, of_z}
use Rattle.endian.specs.Signed.{signed_at}
use Rattle.format.specs.declared.head.Head.{Head}
use Rattle.format.specs.Kinds
use Rattle.format.specs.Layout.{capacity}
use Rattle.format.specs.Limits.{max_size}
use Rattle.format.specs.Meta2.{value_rule, value_field, value_index, unused}
use Rattle.format.specs.Record.{entry, size_of, count_at, is_big, holds}
use Rattle.format.specs.Refusals.{fault_of}
use Rattle.format.specs.Judge.{count_in, value_test}
use Rattle.format.proofs.Accepting.{value_kept}
use Rattle.format.proofs.Bounds.{sound_size}
use Rattle.format.proofs.Chunks.{capacity_small, meta2_parts}
use Rattle.format.proofs.Judged.{verdict_of, ask_none, ask_more, ask_fails}
use Rattle.format.proofs.Refusals.{Numbered}
use Rattle.format.proofs.Rules.{value_index_lt}
use Rattle.format.proofs.Stripes.{count_at_place}
use Rattle.format.proofs.Verdicts.{fails_first, passes_last}
use Rattle.meta2.proofs.judge_row.Goals as goal
use Rattle.meta2.proofs.judge_row.Goals.{After-chunk_holds-holds, After-get-value, After-value_ok}

-- each value has one test, with a number
numbered : (h : Head) (size : ℕ → ℕ) (maxchunks at : ℕ) (part : List ℕ) (k i : ℕ) → Numbered (value_test h size maxchunks at part k i ∷ [])
unfolding value_test
numbered h size maxchunks at part k i = (omega arith, tt)

pub loop-i-init : goal.loop-i-init
loop-i-init c = let a = c.args in ask_none _ (numbered a.h (size_of a.lists.now) a.maxchunks a.at a.part.now a.k)

pub chunk_holds-holds-requires : goal.chunk_holds-holds-requires
chunk_holds-holds-requires c = rw c.of-layout.ensures.n c.loop-i-test.true

-- what the chunk holds
holds_is : (s : After-chunk_holds-holds) → let a = s.args in s.chunk_holds-holds.result ≡ holds a.h (size_of a.lists.now) s.loop-i.i
unfolding holds
holds_is s =
    s.chunk_holds-holds.ensures
    ∙ ap₂ (λ (b : ℕ) (sizes : List ℕ). capacity b (entry sizes s.loop-i.i)) s.of-layout.ensures.blocksize s.of-layout.ensures.sizes

holds_small : (s : After-chunk_holds-holds) → s.chunk_holds-holds.result ≤ max_size
unfolding holds
holds_small s =
    let sound = s.requires.0.there.sound in
    rw (holds_is s) (capacity_small _ _ sound.block (sound_size sound s.loop-i.i s.loop-i-test.true).1)

-- where the value stands in the part
inside : (s : After-chunk_holds-holds) → let a = s.args in 8 * a.h.n + 8 * (a.k * a.h.n) + 8 * s.loop-i.i + 8 ≤ length a.part.now
inside s =
    let a = s.args in
    omega (
      arith,
      s.requires.0.there.whole,
      meta2_parts a.h.n a.maxchunks,
      value_index_lt a.h.n a.maxchunks a.k s.loop-i.i s.loop-i-test.true s.requires.1,
    )

pub get-value-requires : goal.get-value-requires
get-value-requires c = inside c

-- the value that is read, as it is handed on
value_is : (s : After-get-value) → let a = s.args in
    to_z w64 (of_z w64 s.get-value.result.value) ≡ value_field (is_big a.h) a.part.now a.h.n (value_index a.h.n a.k s.loop-i.i)
value_is s =
    let a = s.args in
    let stands : 8 * a.h.n + 8 * (a.k * a.h.n) + 8 * s.loop-i.i ≡ 8 * a.h.n + 8 * (a.k * a.h.n + s.loop-i.i) = omega arith in
    to_z-of_z {w = w64} (search rules) ∙ (λ x. (s.get-value.ensures x).value) ∙ ap (signed_at (is_big a.h) 8 a.part.now) stands

pub value_ok-requires : goal.value_ok-requires
value_ok-requires c =
    let s : After-chunk_holds-holds = (goal.at.value_ok-requires c).After-chunk_holds-holds in
    (omega (arith, c.requires.1, c.requires.0.there.small), omega (arith, holds_small s))

-- the count, which is that of the field
count_is : (s : After-chunk_holds-holds) → let a = s.args in entry a.lists.now (count_at s.loop-i.i) ≡ count_in a.h a.part.now s.loop-i.i
count_is s =
    let i = s.loop-i.i in
    count_at_place s.args.lists.now i (omega (arith, s.requires.0.there.sound.tasks, s.loop-i-test.true)) ∙ s.requires.0.kept i s.loop-i-test.true

tested : (s : After-value_ok) → let a = s.args in
    s.value_ok.result ≡ value_kept a.h (size_of a.lists.now) a.maxchunks a.part.now a.k s.loop-i.i
tested s =
    let k = s.args.k in
    let h : After-chunk_holds-holds = (goal.at.After-value_ok s).After-chunk_holds-holds in
    let v : After-get-value = (goal.at.After-value_ok s).After-get-value in
    s.value_ok.ensures ∙ (λ x. value_rule (ltb k (count_is h x)) (holds_is h x) (value_is v x))

pub overflow_add-place : goal.overflow_add-place
overflow_add-place c =
    let s : After-chunk_holds-holds = (goal.at.overflow_add-place c).After-chunk_holds-holds in
    let place : c.get-value.result.at ≡ 8 * c.args.h.n + 8 * (c.args.k * c.args.h.n) + 8 * c.loop-i.i = λ x. (c.get-value.ensures x).at in
    omega (arith, place, inside s, c.requires.0.there.ends)

pub value-requires : goal.value-requires
value-requires c =
    let s : After-chunk_holds-holds = (goal.at.value-requires c).After-chunk_holds-holds in
    omega (arith, holds_small s)

pub returns-then-not-value_ok : goal.returns-then-not-value_ok
unfolding value_test
returns-then-not-value_ok c =
    let a = c.args in
    let i = c.loop-i.i in
    let h : After-chunk_holds-holds = (goal.at.returns-then-not-value_ok c).After-chunk_holds-holds in
    let v : After-get-value = (goal.at.returns-then-not-value_ok c).After-get-value in
    let s : After-value_ok = (goal.at.returns-then-not-value_ok c).After-value_ok in
    let place : a.at + c.get-value.result.at ≡ a.at + 8 * a.h.n + 8 * (a.k * a.h.n + i) =
    (λ x. a.at + (c.get-value.ensures x).at) ∙ omega arith in
    let task : i + 1 ≡ suc i = omega arith in
    let chunk : a.k + 1 ≡ suc a.k = omega arith in
    let broken = (λ x. verdict_of (c.value.ensures x))
    ∙ (λ x. record {
      refusal = 13;
      fault =
          fault_of Kinds.value (task x) (chunk x) (place x) (value_is v x)
          (cond (ltb a.k (count_is h x)) (pos 0) unused) (cond (ltb a.k (count_is h x)) (pos (holds_is h x)) unused);
    })
    ∙ sym (fails_first (value_test a.h (size_of a.lists.now) a.maxchunks a.at a.part.now a.k i) [] (ap not (sym (tested s) ∙ c.if-not-value_ok.true))) in
    ask_fails _ (numbered a.h (size_of a.lists.now) a.maxchunks a.at a.part.now a.k) a.h.n i c.loop-i-test.true c.loop-i.invariant _ broken

pub loop-i-preserved : goal.loop-i-preserved
unfolding value_test
loop-i-preserved c =
    let a = c.args in
    let i = c.loop-i.i in
    let s : After-value_ok = (goal.at.loop-i-preserved c).After-value_ok in
    ask_more _ (numbered a.h (size_of a.lists.now) a.maxchunks a.at a.part.now a.k) i c.loop-i.invariant
    (sym (passes_last (value_test a.h (size_of a.lists.now) a.maxchunks a.at a.part.now a.k i) (ap not (sym (tested s) ∙ c.if-not-value_ok.false))))
