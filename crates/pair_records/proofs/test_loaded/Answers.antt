-- Each return by the tests that led there.
use mathlib.Core.Path.{◌≡◌, sym, ◌∙◌}
use mathlib.Core.Bool.{true}
use mathlib.Core.List.{List, ◌++◌}
use Prim.Native.Nat.{ℕ, ◌≤◌, ◌<◌}
use native.Mathlib.Omega.{arith}
use lib.ListN.{length}
use borrow.Author.Tests.{eq-eqb, ne_eqb}
use Rattle.std.proofs.lemmas.Result.{err_from_is_err_and}
use Rattle.format.specs.declared.head.File.{File}
use Rattle.format.specs.declared.head.File.TheVariants.{First, Second}
use Rattle.format.specs.declared.loaded.Loaded.{Loaded}
use Rattle.format.specs.Limits.{max_blocks, Sound}
use Rattle.format.specs.Refusals.{first_failing}
use Rattle.format.specs.Record.{all_lists, sizes_of, rank_of}
use Rattle.format.specs.Loaded.{loaded_sound}
use Rattle.format.specs.Reads.{container_of}
use Rattle.format.proofs.Refusals.{first_passes, first_fails, some_number}
use Rattle.format.proofs.Passing.{head_kept}
use Rattle.format.proofs.LoadedRecords.{loaded_holds}
use Rattle.pairs.specs.Ranks.{none_lacking}
use Rattle.pairs.specs.Reads.{LoadedPair, loaded_pair, lent_in, loaded_pair_tests}
use Rattle.ranks.proofs.Carrying.{length_first, length_second, none_lacking_listed}
use Rattle.pair_records.proofs.test_loaded.Goals as goal
use Rattle.pair_records.proofs.test_loaded.Goals.{Start, Else-not-loaded_ok, Else-not-loaded_ok-2, After-none_lacking, Else-not-none_lacking, then-l0-ne0-via-then-l0-ne0, then-l0-ne0-via-else-l0-ne0+then-not-loaded_ok, then-l1-ne0-via-then-l1-ne0, then-l1-ne0-via-else-l1-ne0+then-not-loaded_ok-2}

-- the pair
abbrev lent : Start → LoadedPair
lent s = let a = s.args in
    loaded_pair (container_of First a.l0 a.lists0.now a.image0.now a.table0.now) (container_of Second a.l1 a.lists1.now a.image1.now a.table1.now)

-- what a record that is sound gives
kept : (f : File) (l : Loaded) (lists : List ℕ) → length lists ≡ all_lists → loaded_sound f l lists ≡ true
    → Sound l.head.blocksize l.head.n (sizes_of lists) × (l.maxchunks ≤ max_blocks)
kept f l lists e sound = let (head, few, _) = loaded_holds f l lists sound in (head_kept _ _ head e, few)

-- what is left where 17 passed
left : (p : LoadedPair)
    → p.first.loaded.closed ≡ 0
    → loaded_sound p.first.file p.first.loaded p.first.lists ≡ true
    → p.second.loaded.closed ≡ 0
    → loaded_sound p.second.file p.second.loaded p.second.lists ≡ true
    → none_lacking p.first.loaded.head.n p.second.loaded.head.n (rank_of p.first.lists) (rank_of p.second.lists) ≡ true
    → first_failing (loaded_pair_tests p) ≡ first_failing (lent_in p.first ++ lent_in p.second)
unfolding first_failing loaded_pair_tests
left p open₀ sound₀ open₁ sound₁ there = simp (eq-eqb _ 0 open₀, sound₀, eq-eqb _ 0 open₁, sound₁, there)

-- the first record is sound, and the second
sound₀ : (c : Else-not-loaded_ok) → loaded_sound First c.args.l0 c.args.lists0.now ≡ true
sound₀ c = sym c.loaded_ok.ensures ∙ c.if-not-loaded_ok.false

kept₀ : (c : Else-not-loaded_ok) → Sound c.args.l0.head.blocksize c.args.l0.head.n (sizes_of c.args.lists0.now) × (c.args.l0.maxchunks ≤ max_blocks)
kept₀ c = kept First c.args.l0 c.args.lists0.now c.told-lists0 (sound₀ c)

sound₁ : (c : Else-not-loaded_ok-2) → loaded_sound Second c.args.l1 c.args.lists1.now ≡ true
sound₁ c = sym c.loaded_ok-else-l1-ne0.ensures ∙ c.if-not-loaded_ok-2.false

kept₁ : (c : Else-not-loaded_ok-2) → Sound c.args.l1.head.blocksize c.args.l1.head.n (sizes_of c.args.lists1.now) × (c.args.l1.maxchunks ≤ max_blocks)
kept₁ c = kept Second c.args.l1 c.args.lists1.now c.told-lists1 (sound₁ c)

-- what was found of the ranks
ranked : (c : After-none_lacking) → let a = c.args in c.none_lacking.result ≡ none_lacking a.l0.head.n a.l1.head.n (rank_of a.lists0.now) (rank_of a.lists1.now)
ranked c =
    let at = goal.at.After-none_lacking c in
    let a = c.args in
    c.none_lacking.ensures
    ∙ none_lacking_listed a.lists0.now a.lists1.now c.told-lists0 c.told-lists1 a.l0.head.n a.l1.head.n (kept₀ at.Else-not-loaded_ok).0.tasks (kept₁ at.Else-not-loaded_ok-2).0.tasks

-- ---- 17

pub returns-then-l0-ne0 : goal.returns-then-l0-ne0
unfolding first_failing loaded_pair_tests
returns-then-l0-ne0 c =
    elim c.then-l0-ne0.branch [
      | then-l0-ne0-via-then-l0-ne0 w ↦ simp (ne_eqb c.args.l0.closed 0 w.if-l0-ne0.true)
      | then-l0-ne0-via-else-l0-ne0+then-not-loaded_ok w ↦ simp (eq-eqb _ 0 w.if-l0-ne0.false, sym w.loaded_ok.ensures ∙ w.if-not-loaded_ok.true)
    ]

pub returns-then-l1-ne0 : goal.returns-then-l1-ne0
unfolding first_failing loaded_pair_tests
returns-then-l1-ne0 c =
    let first = sound₀ (goal.at.returns-then-l1-ne0 c).Else-not-loaded_ok in
    elim c.then-l1-ne0.branch [
      | then-l1-ne0-via-then-l1-ne0 w ↦ simp (eq-eqb _ 0 c.if-l0-ne0.false, first, ne_eqb c.args.l1.closed 0 w.if-l1-ne0.true)
      | then-l1-ne0-via-else-l1-ne0+then-not-loaded_ok-2 w ↦
          simp (
            eq-eqb _ 0 c.if-l0-ne0.false,
            first,
            eq-eqb _ 0 w.if-l1-ne0.false,
            sym w.loaded_ok-else-l1-ne0.ensures ∙ w.if-not-loaded_ok-2.true,
          )
    ]

pub shared_ref_as_front-none_lacking : goal.shared_ref_as_front-none_lacking
shared_ref_as_front-none_lacking c = omega (arith, (kept₀ (goal.at.shared_ref_as_front-none_lacking c).Else-not-loaded_ok).0.tasks)

pub shared_ref_as_front-none_lacking-2 : goal.shared_ref_as_front-none_lacking-2
shared_ref_as_front-none_lacking-2 c = omega (arith, (kept₁ (goal.at.shared_ref_as_front-none_lacking-2 c).Else-not-loaded_ok-2).0.tasks)

pub none_lacking-requires : goal.none_lacking-requires
none_lacking-requires c =
    let at = goal.at.none_lacking-requires c in
    let a = c.args in
    let few₀ = (kept₀ at.Else-not-loaded_ok).0.tasks in
    let few₁ = (kept₁ at.Else-not-loaded_ok-2).0.tasks in
    let n = length_first a.lists0.now a.lists1.now c.told-lists0 c.told-lists1 a.l0.head.n a.l1.head.n few₀ few₁ in
    let m = length_second a.lists0.now a.lists1.now c.told-lists0 c.told-lists1 a.l0.head.n a.l1.head.n few₀ few₁ in
    (omega (arith, n, few₀), omega (arith, m, few₁))

pub returns-then-not-none_lacking : goal.returns-then-not-none_lacking
unfolding first_failing loaded_pair_tests
returns-then-not-none_lacking c =
    let at = goal.at.returns-then-not-none_lacking c in
    simp (
      eq-eqb _ 0 c.if-l0-ne0.false,
      sound₀ at.Else-not-loaded_ok,
      eq-eqb _ 0 c.if-l1-ne0.false,
      sound₁ at.Else-not-loaded_ok-2,
      sym (ranked at.After-none_lacking) ∙ c.if-not-none_lacking.true,
    )

-- ---- 18 and 19 of both

-- what is left where these tests passed
asks : (c : Else-not-none_lacking) → let p = lent (goal.at.Else-not-none_lacking c).Start in
    first_failing (loaded_pair_tests p) ≡ first_failing (lent_in p.first ++ lent_in p.second)
asks c =
    let at = goal.at.Else-not-none_lacking c in
    left (lent at.Start) c.if-l0-ne0.false (sound₀ at.Else-not-loaded_ok) c.if-l1-ne0.false (sound₁ at.Else-not-loaded_ok-2)
    (sym (ranked at.After-none_lacking) ∙ c.if-not-none_lacking.false)

pub test_lent-requires : goal.test_lent-requires
test_lent-requires c = kept₀ (goal.at.test_lent-requires c).Else-not-loaded_ok

pub returns-in_err-test_lent : goal.returns-in_err-test_lent
returns-in_err-test_lent c =
    let at = goal.at.returns-in_err-test_lent c in
    let p = err_from_is_err_and c.from_residual.result c.from_residual.ensures.1 in
    let e = c.in_err-test_lent.ensures in
    let some : 0 < first_failing (lent_in (lent at.Start).first) = omega (arith, e, some_number c.in_err-test_lent.field-0.0) in
    rw (p.1, p.2) (e ∙ sym (asks at.Else-not-none_lacking ∙ first_fails (lent_in (lent at.Start).first) _ some))

pub test_lent-requires-2 : goal.test_lent-requires-2
test_lent-requires-2 c = kept₁ (goal.at.test_lent-requires-2 c).Else-not-loaded_ok-2

pub returns : goal.returns
returns c =
    let at = goal.at.returns c in
    c.test_lent-2.ensures ∙ sym (asks at.Else-not-none_lacking ∙ first_passes (lent_in (lent at.Start).first) _ (omega arith) (sym c.in_ok-test_lent.ensures))
