-- The loader of pairs accepts exactly the pairs, and hands back what both files say.
use mathlib.Core.Path.{◌≡◌, refl, sym, ap, subst, ◌∙◌}
use mathlib.Core.List.{List}
use Prim.Native.Nat.{ℕ}
use lib.IntN.{ℤ}
use lib.ListN.{length}
use Rattle.format.specs.declared.head.File.{File}
use Rattle.format.specs.declared.head.File.TheVariants.{First, Second}
use Rattle.format.specs.Refusals.{Verdict}
use Rattle.format.specs.declared.loaded.LoadAnswer.{LoadAnswer}
use Rattle.format.specs.Refusals.{no_fault, first_failing}
use Rattle.format.specs.Judge.{rank_in}
use Rattle.format.specs.Container.{IsContainer, Says}
use Rattle.format.specs.Load.{loaded_in, lists_in, load_tests, load_refusal, check_answer, load_answer, load_table}
use Rattle.format.proofs.Refusals.{both_pass, first_passes, when_accepted, number_is}
use Rattle.format.proofs.Fronts.{big_is, tasks_is}
use Rattle.format.proofs.Only.{only}
use Rattle.format.proofs.Every.{front, rank_is, end_said, every, says}
use Rattle.pairs.specs.declared.PairLoaded.{PairLoaded}
use Rattle.pairs.specs.Mapping.{mapping_tests}
use Rattle.pairs.specs.Load.{mapping_in, pair_load_tests, pair_load_refusal, pair_checked, pair_loaded, pair_load_tables}
use Rattle.pairs.proofs.Mapping.{mapping_agree}
use Rattle.pair_loading.proofs.Checked.{load_numbered}
use Rattle.pair.specs.Format.{IsPair, CellsFor, AcceptsPairs, mapping_at}
use Rattle.pair.proofs.Mapped.{mapping_holds, mapping_passes}

-- ---- the tests, file by file

module _ (image image' : List ℕ) (cells cells' : ℕ) where
  pub parts_pass : pair_load_refusal image image' cells cells' ≡ 0
      → (load_refusal First image cells ≡ 0) × (load_refusal Second image' cells' ≡ 0) × (first_failing (mapping_in image image') ≡ 0)
  unfolding pair_load_refusal pair_load_tests load_refusal
  parts_pass e =
      let (one, rest) = both_pass (load_tests First image cells) _ (load_numbered First image cells) e in
      let (two, mapped) = both_pass (load_tests Second image' cells') _ (load_numbered Second image' cells') rest in
      (one, two, mapped)

  pub all_pass : load_refusal First image cells ≡ 0 → load_refusal Second image' cells' ≡ 0 → first_failing (mapping_in image image') ≡ 0
      → pair_load_refusal image image' cells cells' ≡ 0
  unfolding pair_load_refusal pair_load_tests load_refusal
  all_pass one two mapped =
      first_passes (load_tests First image cells) _ (load_numbered First image cells) one
      ∙ first_passes (load_tests Second image' cells') _ (load_numbered Second image' cells') two
      ∙ mapped

-- ---- the mapping, by what both files say

mapping_said : (image image' : List ℕ) (c : IsContainer First image) (c' : IsContainer Second image')
    → first_failing (mapping_in image image')
    ≡ first_failing (mapping_tests c.says.n c'.says.n c.says.rank c'.says.rank c.says.big image (mapping_at c.says))
unfolding mapping_in
mapping_said image image' c c' =
    let s = c.says in
    let s' = c'.says in
    let one = front First image s c.first c.second in
    let two = front Second image' s' c'.first c'.second in
    rw (tasks_is one, tasks_is two, big_is one, end_said First image s c.first c.second)
    (ap (λ (v : Verdict). v.refusal)
    (mapping_agree s.n s'.n (rank_in image) (rank_in image') s.rank s'.rank c.first.bounds.tasks_range.0
    c'.first.bounds.tasks_range.0 (rank_is First image s c.first c.second) (rank_is Second image' s' c'.first c'.second) s.big image
    (mapping_at s)))

-- what an accepted load of one file hands back
pub own_answer : (f : File) (xs : List ℕ) (cells : List ℤ) → load_refusal f xs (length cells) ≡ 0
    → load_answer f xs cells ≡ record { loaded = loaded_in xs; lists = lists_in xs; refusal = 0; fault = no_fault }
unfolding load_answer check_answer
own_answer f xs cells e = when_accepted _ _ _ e

-- ---- accepted exactly where they are a pair

module _ (image image' : List ℕ) (table table' : List ℤ) where
  abbrev pub number : ℕ
  number = pair_load_refusal image image' (length table) (length table')

  pub load_number : (pair_loaded image image' table table').refusal ≡ number
  unfolding pair_loaded pair_checked
  load_number = number_is _ _ _ (λ (a : PairLoaded). a.refusal) refl refl

  load_only : number ≡ 0 → (p : IsPair image image') × CellsFor p table table'
  load_only e =
      let (one, two, mapped) = parts_pass image image' (length table) (length table') e in
      let (c, room) = only First image (length table) one in
      let (c', room') = only Second image' (length table') two in
      let has =
      mapping_holds c.says c'.says image c.first.bounds.tasks_range.0 c'.first.bounds.tasks_range.0
      (sym (mapping_said image image' c c') ∙ mapped) in
      (record { first = c; second = c'; mapped = has }, (room, room'))

  load_every : (p : IsPair image image') → CellsFor p table table' → number ≡ 0
  load_every p room =
      let c = p.first in
      let c' = p.second in
      all_pass image image' (length table) (length table') (every First image c.says c.first c.second (length table) room.0)
      (every Second image' c'.says c'.first c'.second (length table') room.1)
      (mapping_said image image' c c'
      ∙ mapping_passes c.says c'.says image c.first.bounds.tasks_range.0 c'.first.bounds.tasks_range.0 p.mapped)

  -- what is handed back of each file is what its own load hands back
  module _ (e : number ≡ 0) where
    pub answer_is : pair_loaded image image' table table'
        ≡ record {
          loaded0 = loaded_in image;
          lists0 = lists_in image;
          loaded1 = loaded_in image';
          lists1 = lists_in image';
          refusal = 0;
          file = 0;
          fault = no_fault;
        }
    unfolding pair_loaded pair_checked
    answer_is = when_accepted number _ _ e

    pub tables_are : pair_load_tables image image' table table' ≡ (load_table First image table, load_table Second image' table')
    unfolding pair_load_tables
    tables_are = when_accepted number _ _ e

  own_says : (f : File) (xs : List ℕ) (cells : List ℤ) (c : IsContainer f xs) → load_refusal f xs (length cells) ≡ 0
      → Says f c.says (loaded_in xs) (lists_in xs) cells (load_table f xs cells)
  own_says f xs cells c e =
      subst (λ (a : LoadAnswer). Says f c.says a.loaded a.lists cells (load_table f xs cells)) (own_answer f xs cells e)
      (says f xs c.says c.first c.second cells e)

  pub accepts_pairs : AcceptsPairs image image' table table'
  accepts_pairs = record {
    only = λ e. load_only (sym load_number ∙ e);
    every = λ p room. load_number ∙ load_every p room;
    says = λ p e.
        let zero = sym load_number ∙ e in
        let (one, two, mapped) = parts_pass image image' (length table) (length table') zero in
        rw (answer_is zero, tables_are zero) (own_says First image table p.first one, own_says Second image' table' p.second two);
  }
