-- A refused load of a pair names the file and the first field that breaks its rule: file 0's fields, then file 1's, each as a single file's, then the
-- mapping's.
use mathlib.Core.Path.{◌≡◌, refl, sym, ap, subst, ◌∙◌}
use mathlib.Core.Bool.{Bool, true, false, cond, not}
use mathlib.Core.List.{List, [], ◌∷◌}
use mathlib.Core.Logic.{◌⊎◌, inl, inr}
use Prim.Native.Nat.{ℕ, zero, suc, ◌+◌, ◌-◌, ◌*◌, ◌≤◌, ◌<◌}
use native.Mathlib.Omega.{arith}
use lib.Dec.{eqb}
use lib.IntN.{ℤ, pos}
use lib.ListN.{length}
use borrow.Author.Tests.{eqb-true, eq-eqb}
use Rattle.lists.specs.Logic.{Exactly}
use Rattle.endian.specs.Signed.{within, natural}
use Rattle.endian.proofs.Signed.{within_natural}
use Rattle.format.specs.declared.head.File.TheVariants.{First, Second}
use Rattle.format.specs.Refusals.{first_failing, verdict}
use Rattle.format.specs.Record.{end_at}
use Rattle.format.specs.Judge.{is, big_in, tasks_in, rank_in, head_in, size_in, maxchunks_in}
use Rattle.format.specs.Load.{load_answer}
use Rattle.format.proofs.Refusals.{none_fails}
use Rattle.format.proofs.Naming.{Naming, Pairs, pairs_join, AllKeep, find, all_kept}
use Rattle.pairs.specs.declared.PairLoaded.{PairLoaded}
use Rattle.pairs.specs.Mapping.{mapping_length, entry_tests, mapping_tests}
use Rattle.pairs.specs.Load.{end_in, mapping_in, pair_loaded}
use Rattle.pairs.proofs.Mapping.{mapping_numbered}
use Rattle.pair_loading.proofs.Accepted.{some_tasks}
use Rattle.pair_loading.proofs.Checked.{first_refused, second_refused, mapping_refused}
use Rattle.container.specs.Where as w
use Rattle.container.proofs.Refusing as own
use Rattle.container.proofs.Where.{exactly_not, exactly_long, from_to, to_within, exactly_is, says_where}
use Rattle.pair.specs.Where as m
use Rattle.pair.proofs.Accepts.{parts_pass, all_pass, load_number, answer_is}

-- ---- rules as tests, and back

file_exactly : (z : ℤ) → Exactly (not (within 0 1 z) ≡ false) ((z ≡ pos 0) ⊎ (z ≡ pos 1))
file_exactly z = exactly_not (within 0 1 z) (λ e. let (is, low, high) = within_natural 0 1 z e in to (natural z) is high) from
  where
    to : (k : ℕ) → z ≡ pos k → k ≤ 1 → (z ≡ pos 0) ⊎ (z ≡ pos 1)
    to zero e l = inl e
    to (suc zero) e l = inr e
    to (suc (suc k)) e l = absurd (omega arith)

    from : (z ≡ pos 0) ⊎ (z ≡ pos 1) → within 0 1 z ≡ true
    from (inl e) = rw e
    from (inr e) = rw e

task_exactly : (most tasks : ℕ) (z : ℤ) → most ≡ tasks → 1 ≤ tasks
    → Exactly (not (within 0 (most - 1) z) ≡ false) ((i : ℕ) × (z ≡ pos i) × (i < tasks))
task_exactly most tasks z same some =
    exactly_not (within 0 (most - 1) z) (λ e. let (i, is, low, high) = from_to 0 (most - 1) z e in (i, is, omega arith))
    (λ (i, is, l). to_within 0 (most - 1) z (i, is, omega arith, omega arith))

rank_exactly : (carried said r : ℕ) → carried ≡ said → Exactly (not (eqb carried r) ≡ false) (said ≡ r)
rank_exactly carried said r same =
    exactly_not (eqb carried r) (λ e. sym same ∙ eqb-true carried r e) (λ keeps. eq-eqb carried r (same ∙ keeps))

-- ---- the mapping's tests beside the list of its fields

module _ (image image' : List ℕ) where
  -- what is said of each field
  abbrev rules : Naming m.MappingField
  rules = record {
    named = m.mapping_named;
    place_of = m.mapping_place image image';
    says_of = m.mapping_says image image';
    Keeps = m.MappingKeeps image image';
  }

  every : (fs : List m.MappingField) → AllKeep rules fs → m.EveryField image image' (m.MappingKeeps image image') fs
  every [] k = k
  every (f ∷ fs) k = (k.0, every fs k.1)

  -- of the file that an entry names, which is 0 or 1
  of_named : (f : List ℕ → ℕ) (z : ℤ) → (z ≡ pos 0) ⊎ (z ≡ pos 1) → cond (is 0 z) (f image) (f image') ≡ f (cond (eqb (natural z) 0) image image')
  of_named f z (inl e) = rw e
  of_named f z (inr e) = rw e

  module _ (some : 1 ≤ w.n image) (some' : 1 ≤ w.n image') where
    some_of : (first : Bool) → 1 ≤ w.n (cond first image image')
    some_of true = some
    some_of false = some'

    entry_pairs : (r : ℕ)
        → Pairs rules (entry_tests (tasks_in image) (tasks_in image') (rank_in image) (rank_in image') (big_in image) image (end_in image) r)
        (m.file r ∷ m.task r ∷ m.rank r ∷ [])
    unfolding entry_tests tasks_in rank_in head_in size_in maxchunks_in end_at
    entry_pairs r =
        let z = m.file_said image image' r in
        let i = natural (m.task_said image image' r) in (
          record { names = refl; stands_at = refl; says_so = refl; exact = file_exactly z },
          λ file.
              let rank = of_named (λ xs. natural (w.long xs (1076 + 8 * i))) z file in (
                record {
                  names = refl;
                  stands_at = refl;
                  says_so = refl;
                  exact = task_exactly _ _ (m.task_said image image' r) (of_named w.n z file) (some_of (eqb (natural z) 0));
                },
                λ _. (record { names = refl; stands_at = refl; says_so = ap pos rank; exact = rank_exactly _ _ r rank }, λ _. tt),
              ),
        )

    mapping_pairs : Pairs rules (mapping_in image image') (m.mapping_judged image image')
    unfolding mapping_in mapping_tests mapping_length tasks_in head_in size_in maxchunks_in end_at
    mapping_pairs = (
      record { names = refl; stands_at = refl; says_so = refl; exact = exactly_long (w.end image + 4) (length image) },
      λ _. (
        record { names = refl; stands_at = refl; says_so = refl; exact = exactly_is (m.ranks image image') (w.int image (w.end image)) },
        λ _. (
          record {
            names = refl;
            stands_at = refl;
            says_so = refl;
            exact = exactly_long (w.end image + (4 + 8 * m.ranks image image')) (length image);
          },
          λ _. pairs_join rules _ (λ r. m.file r ∷ m.task r ∷ m.rank r ∷ []) (m.ranks image image') (λ r l. entry_pairs r),
        ),
      ),
    )

-- ---- a load

module _ (image image' : List ℕ) (table table' : List ℤ) where
  abbrev refusal₀ : ℕ
  refusal₀ = (load_answer First image table).refusal

  abbrev refusal₁ : ℕ
  refusal₁ = (load_answer Second image' table').refusal

  in_file_0 : 0 < refusal₀ → m.PairBroken image image' table table'
  unfolding pair_loaded load_answer
  in_file_0 some =
      let e = first_refused image image' (length table) (length table') {one = load_answer First image table} refl (λ none. omega arith) in
      m.in_first (ap (λ (a : PairLoaded). a.file) (sym e))
      (subst (λ (a : PairLoaded). w.Broken First image (length table) a.refusal a.fault) e ((says_where First image table).refused some))

  module _ (none : refusal₀ ≡ 0) where
    in_file_1 : 0 < refusal₁ → m.PairBroken image image' table table'
    unfolding pair_loaded load_answer
    in_file_1 some =
        let e =
        second_refused image image' (length table) (length table') {one = load_answer First image table} refl none
        {two = load_answer Second image' table'} refl (λ none. omega arith) in
        m.in_second_file ((says_where First image table).accepted none).1 (ap (λ (a : PairLoaded). a.file) (sym e))
        (subst (λ (a : PairLoaded). w.Broken Second image' (length table') a.refusal a.fault) e ((says_where Second image' table').refused some))

    module _ (none' : refusal₁ ≡ 0) where
      pairs : Pairs (rules image image') (mapping_in image image') (m.mapping_judged image image')
      unfolding load_answer tasks_in
      pairs =
          mapping_pairs image image' (some_tasks First image (length table) {answer = load_answer First image table} refl none)
          (some_tasks Second image' (length table') {answer = load_answer Second image' table'} refl none')

      in_mapping : 0 < first_failing (mapping_in image image') → m.PairBroken image image' table table'
      unfolding pair_loaded load_answer
      in_mapping some =
          let e =
          mapping_refused image image' (length table) (length table') {one = load_answer First image table} refl none
          {two = load_answer Second image' table'} refl none' {v = verdict (mapping_in image image')} refl (λ none. omega arith) in
          let f = find (rules image image') (mapping_in image image') (m.mapping_judged image image') pairs some in
          m.in_mapping ((says_where First image table).accepted none).1 ((says_where Second image' table').accepted none').1
          (ap (λ (a : PairLoaded). a.file) (sym e))
          (subst (λ (a : PairLoaded). m.MappingBroken image image' a.refusal a.fault) e
          (record {
            field = f.field;
            earlier = f.earlier;
            later = f.later;
            in_order = f.in_order;
            names = f.names;
            stands_at = f.stands_at;
            says_so = f.says_so;
            breaks = f.breaks;
            kept = every image image' f.earlier f.kept;
          }))

  broken : 0 < (pair_loaded image image' table table').refusal → m.PairBroken image image' table table'
  broken l = go refusal₀ refl refusal₁ refl (first_failing (mapping_in image image')) refl
    where
      go : (a : ℕ) → refusal₀ ≡ a → (b : ℕ) → refusal₁ ≡ b → (c : ℕ) → first_failing (mapping_in image image') ≡ c
          → m.PairBroken image image' table table'
      go (suc a) e b f c g = in_file_0 (omega arith)
      go zero e (suc b) f c g = in_file_1 e (omega arith)
      go zero e zero f (suc c) g = in_mapping e f (omega arith)
      go zero e zero f zero g =
          let passed =
          all_pass image image' (length table) (length table') (sym (own.load_number First image table) ∙ e)
          (sym (own.load_number Second image' table') ∙ f) g in
          absurd (omega (arith, load_number image image' table table', passed))

  pub pair_says_where : m.PairSaysWhere image image' table table'
  unfolding mapping_in
  pair_says_where = record {
    refused = broken;
    accepted = λ e.
        let zero = sym (load_number image image' table table') ∙ e in
        let is = answer_is image image' table table' zero in
        let (one, two, mapped) = parts_pass image image' (length table) (length table') zero in
        let none = own.load_number First image table ∙ one in
        let none' = own.load_number Second image' table' ∙ two in (
          ap (λ (a : PairLoaded). a.file) is,
          ap (λ (a : PairLoaded). a.fault) is,
          ((says_where First image table).accepted none).1,
          ((says_where Second image' table').accepted none').1,
          every image image' (m.mapping_judged image image')
              (all_kept (rules image image') (mapping_in image image') (m.mapping_judged image image') (pairs none none')
              (none_fails (mapping_in image image')
              (mapping_numbered (tasks_in image) (tasks_in image') (rank_in image) (rank_in image') (big_in image) image (end_in image)) mapped)),
        );
  }
