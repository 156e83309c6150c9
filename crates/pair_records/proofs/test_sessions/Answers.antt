-- Each return by the tests that led there.
use mathlib.Core.Path.{◌≡◌, sym, ap₂, ◌∙◌}
use mathlib.Core.Bool.{true, cond}
use mathlib.Core.List.{List, ◌++◌}
use Prim.Native.Nat.{ℕ, ◌+◌, ◌≤◌, ◌<◌}
use native.Mathlib.Omega.{arith}
use lib.Dec.{ltb}
use lib.ListN.{length}
use borrow.Author.Tests.{lt-ltb, le-ltb, eq-eqb, ne_eqb}
use Rattle.std.proofs.lemmas.Result.{err_from_is_err_and}
use Rattle.format.specs.declared.head.File.{File}
use Rattle.format.specs.declared.head.File.TheVariants.{First, Second}
use Rattle.format.specs.declared.session.Session.{Session}
use Rattle.format.specs.Limits.{max_blocks, Sound}
use Rattle.format.specs.Refusals.{first_failing}
use Rattle.format.specs.Record.{all_lists, sizes_of, rank_of, size_of, end_at}
use Rattle.format.specs.Session.{state_of, session_sound}
use Rattle.format.proofs.Refusals.{first_passes, first_fails, some_number}
use Rattle.format.proofs.Passing.{head_kept}
use Rattle.format.proofs.Sessions.{session_holds}
use Rattle.format.proofs.Chunks.{meta2_end_small}
use Rattle.pairs.specs.Ranks.{none_lacking}
use Rattle.pairs.specs.Mapping.{mapping_length}
use Rattle.pairs.specs.Sessions.{Pair, pair_of, lent_of, room_end, pair_tests}
use Rattle.ranks.proofs.Carrying.{length_first, length_second, none_lacking_listed}
use Rattle.pair_records.proofs.test_sessions.Goals as goal
use Rattle.pair_records.proofs.test_sessions.Goals.{Start, Else-not-session_ok, Else-not-session_ok-2, After-none_lacking, Else-image0-end, then-s0-ne0-via-then-s0-ne0, then-s0-ne0-via-else-s0-ne0+then-not-session_ok, then-s1-ne0-via-then-s1-ne0, then-s1-ne0-via-else-s1-ne0+then-not-session_ok-2, After-meta2_end-end, After-length_of}

-- the pair
abbrev lent : Start → Pair
lent s = let a = s.args in
    pair_of (state_of First a.s0 a.lists0.now a.image0.now a.table0.now) (state_of Second a.s1 a.lists1.now a.image1.now a.table1.now)

-- what a record that is sound gives
kept : (f : File) (s : Session) (lists : List ℕ) → length lists ≡ all_lists → session_sound f s lists ≡ true
    → Sound s.head.blocksize s.head.n (sizes_of lists) × (s.planned ≤ max_blocks)
kept f s lists e sound = let (head, few, _) = (session_holds f s lists sound).1 in (head_kept _ _ head e, few)

-- what is left where 17 passed
left : (p : Pair)
    → p.first.session.closed ≡ 0
    → session_sound p.first.file p.first.session p.first.lists ≡ true
    → p.second.session.closed ≡ 0
    → session_sound p.second.file p.second.session p.second.lists ≡ true
    → none_lacking p.first.session.head.n p.second.session.head.n (rank_of p.first.lists) (rank_of p.second.lists) ≡ true
    → first_failing (pair_tests p) ≡ cond (ltb (length p.first.image) (room_end p)) 18 (first_failing (lent_of p.first ++ lent_of p.second))
unfolding first_failing pair_tests
left p open₀ sound₀ open₁ sound₁ there = simp (eq-eqb _ 0 open₀, sound₀, eq-eqb _ 0 open₁, sound₁, there)

-- the first record is sound, and the second
sound₀ : (c : Else-not-session_ok) → session_sound First c.args.s0 c.args.lists0.now ≡ true
sound₀ c = sym c.session_ok.ensures ∙ c.if-not-session_ok.false

kept₀ : (c : Else-not-session_ok) → Sound c.args.s0.head.blocksize c.args.s0.head.n (sizes_of c.args.lists0.now) × (c.args.s0.planned ≤ max_blocks)
kept₀ c = kept First c.args.s0 c.args.lists0.now c.told-lists0 (sound₀ c)

sound₁ : (c : Else-not-session_ok-2) → session_sound Second c.args.s1 c.args.lists1.now ≡ true
sound₁ c = sym c.session_ok-else-s1-ne0.ensures ∙ c.if-not-session_ok-2.false

kept₁ : (c : Else-not-session_ok-2) → Sound c.args.s1.head.blocksize c.args.s1.head.n (sizes_of c.args.lists1.now) × (c.args.s1.planned ≤ max_blocks)
kept₁ c = kept Second c.args.s1 c.args.lists1.now c.told-lists1 (sound₁ c)

-- what was found of the ranks
ranked : (c : After-none_lacking) → let a = c.args in c.none_lacking.result ≡ none_lacking a.s0.head.n a.s1.head.n (rank_of a.lists0.now) (rank_of a.lists1.now)
ranked c =
    let at = goal.at.After-none_lacking c in
    let a = c.args in
    c.none_lacking.ensures
    ∙ none_lacking_listed a.lists0.now a.lists1.now c.told-lists0 c.told-lists1 a.s0.head.n a.s1.head.n (kept₀ at.Else-not-session_ok).0.tasks (kept₁ at.Else-not-session_ok-2).0.tasks

-- ---- 17

pub returns-then-s0-ne0 : goal.returns-then-s0-ne0
unfolding first_failing pair_tests
returns-then-s0-ne0 c =
    elim c.then-s0-ne0.branch [
      | then-s0-ne0-via-then-s0-ne0 w ↦ simp (ne_eqb c.args.s0.closed 0 w.if-s0-ne0.true)
      | then-s0-ne0-via-else-s0-ne0+then-not-session_ok w ↦ simp (eq-eqb _ 0 w.if-s0-ne0.false, sym w.session_ok.ensures ∙ w.if-not-session_ok.true)
    ]

pub returns-then-s1-ne0 : goal.returns-then-s1-ne0
unfolding first_failing pair_tests
returns-then-s1-ne0 c =
    let first = sound₀ (goal.at.returns-then-s1-ne0 c).Else-not-session_ok in
    elim c.then-s1-ne0.branch [
      | then-s1-ne0-via-then-s1-ne0 w ↦ simp (eq-eqb _ 0 c.if-s0-ne0.false, first, ne_eqb c.args.s1.closed 0 w.if-s1-ne0.true)
      | then-s1-ne0-via-else-s1-ne0+then-not-session_ok-2 w ↦
          simp (
            eq-eqb _ 0 c.if-s0-ne0.false,
            first,
            eq-eqb _ 0 w.if-s1-ne0.false,
            sym w.session_ok-else-s1-ne0.ensures ∙ w.if-not-session_ok-2.true,
          )
    ]

pub shared_ref_as_front-none_lacking : goal.shared_ref_as_front-none_lacking
shared_ref_as_front-none_lacking c = omega (arith, (kept₀ (goal.at.shared_ref_as_front-none_lacking c).Else-not-session_ok).0.tasks)

pub shared_ref_as_front-none_lacking-2 : goal.shared_ref_as_front-none_lacking-2
shared_ref_as_front-none_lacking-2 c = omega (arith, (kept₁ (goal.at.shared_ref_as_front-none_lacking-2 c).Else-not-session_ok-2).0.tasks)

pub none_lacking-requires : goal.none_lacking-requires
none_lacking-requires c =
    let at = goal.at.none_lacking-requires c in
    let a = c.args in
    let few₀ = (kept₀ at.Else-not-session_ok).0.tasks in
    let few₁ = (kept₁ at.Else-not-session_ok-2).0.tasks in
    let n = length_first a.lists0.now a.lists1.now c.told-lists0 c.told-lists1 a.s0.head.n a.s1.head.n few₀ few₁ in
    let m = length_second a.lists0.now a.lists1.now c.told-lists0 c.told-lists1 a.s0.head.n a.s1.head.n few₀ few₁ in
    (omega (arith, n, few₀), omega (arith, m, few₁))

pub returns-then-not-none_lacking : goal.returns-then-not-none_lacking
unfolding first_failing pair_tests
returns-then-not-none_lacking c =
    let at = goal.at.returns-then-not-none_lacking c in
    simp (
      eq-eqb _ 0 c.if-s0-ne0.false,
      sound₀ at.Else-not-session_ok,
      eq-eqb _ 0 c.if-s1-ne0.false,
      sound₁ at.Else-not-session_ok-2,
      sym (ranked at.After-none_lacking) ∙ c.if-not-none_lacking.true,
    )

-- ---- 18 of file 0 with the mapping's room

pub of-requires : goal.of-requires
of-requires c = (kept₀ (goal.at.of-requires c).Else-not-session_ok).0

pub meta2_end-end-requires : goal.meta2_end-end-requires
meta2_end-end-requires c = (kept₀ (goal.at.meta2_end-end-requires c).Else-not-session_ok).1

pub length_of-requires : goal.length_of-requires
length_of-requires c =
    let at = goal.at.length_of-requires c in
    ((kept₀ at.Else-not-session_ok).0.tasks, (kept₁ at.Else-not-session_ok-2).0.tasks)

-- where META2 ends
ends : (c : After-meta2_end-end) → c.meta2_end-end.result ≡ end_at c.args.s0.head (size_of c.args.lists0.now) c.args.s0.planned
unfolding end_at
ends c = let l = c.of.ensures in rw (l.n, l.blocksize, l.sizes) at c.meta2_end-end.ensures

pub overflow_add-end : goal.overflow_add-end
unfolding mapping_length end_at
overflow_add-end c =
    let at = goal.at.overflow_add-end c in
    let (sound, few) = kept₀ at.Else-not-session_ok in
    omega (
      arith,
      ends at.After-meta2_end-end,
      meta2_end_small sound c.args.s0.planned few,
      c.length_of.ensures,
      sound.tasks,
      (kept₁ at.Else-not-session_ok-2).0.tasks,
    )

-- what is left where 17 passed, and the room
asked : (c : After-length_of) → let p = lent (goal.at.After-length_of c).Start in
    first_failing (pair_tests p) ≡ cond (ltb (length p.first.image) (room_end p)) 18 (first_failing (lent_of p.first ++ lent_of p.second))
asked c =
    let at = goal.at.After-length_of c in
    left (lent at.Start) c.if-s0-ne0.false (sound₀ at.Else-not-session_ok) c.if-s1-ne0.false (sound₁ at.Else-not-session_ok-2)
    (sym (ranked at.After-none_lacking) ∙ c.if-not-none_lacking.false)

room_is : (c : After-length_of) → c.meta2_end-end.result + c.length_of.result ≡ room_end (lent (goal.at.After-length_of c).Start)
room_is c = ap₂ ◌+◌ (ends (goal.at.After-length_of c).After-meta2_end-end) c.length_of.ensures

pub returns-then-image0-end : goal.returns-then-image0-end
returns-then-image0-end c =
    let at = goal.at.returns-then-image0-end c in
    let short : length c.args.image0.now < room_end (lent at.Start) = rw (← room_is at.After-length_of) c.if-image0-end.true in
    sym (asked at.After-length_of ∙ rw (lt-ltb _ _ short))

-- ---- 18 and 19 of both

-- what is left where these tests passed too
asks : (c : Else-image0-end) → let p = lent (goal.at.Else-image0-end c).Start in
    first_failing (pair_tests p) ≡ first_failing (lent_of p.first ++ lent_of p.second)
asks c =
    let at = goal.at.Else-image0-end c in
    let long : room_end (lent at.Start) ≤ length c.args.image0.now = rw (← room_is at.After-length_of) c.if-image0-end.false in
    asked at.After-length_of ∙ rw (le-ltb _ _ long)

pub test_lent-requires : goal.test_lent-requires
test_lent-requires c = kept₀ (goal.at.test_lent-requires c).Else-not-session_ok

pub returns-in_err-test_lent : goal.returns-in_err-test_lent
returns-in_err-test_lent c =
    let at = goal.at.returns-in_err-test_lent c in
    let p = err_from_is_err_and c.from_residual.result c.from_residual.ensures.1 in
    let e = c.in_err-test_lent.ensures in
    let some : 0 < first_failing (lent_of (lent at.Start).first) = omega (arith, e, some_number c.in_err-test_lent.field-0.0) in
    rw (p.1, p.2) (e ∙ sym (asks at.Else-image0-end ∙ first_fails (lent_of (lent at.Start).first) _ some))

pub test_lent-requires-2 : goal.test_lent-requires-2
test_lent-requires-2 c = kept₁ (goal.at.test_lent-requires-2 c).Else-not-session_ok-2

pub returns : goal.returns
returns c =
    let at = goal.at.returns c in
    c.test_lent-2.ensures ∙ sym (asks at.Else-image0-end ∙ first_passes (lent_of (lent at.Start).first) _ (omega arith) (sym c.in_ok-test_lent.ensures))
