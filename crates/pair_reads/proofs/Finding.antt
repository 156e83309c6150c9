-- What a pair's tests give where they pass: the file that has the rank, and its task there, which may be read; and so of a chunk.
use mathlib.Core.Path.{◌≡◌, refl, sym, ap₂, ◌∙◌}
use mathlib.Core.Bool.{true, not}
use mathlib.Core.List.{[], ◌∷◌}
use Prim.Native.Nat.{ℕ, ◌+◌, ◌-◌, ◌≤◌, ◌<◌}
use native.Mathlib.Omega.{arith}
use lib.IntN.{pos}
use lib.ListN.{length}
use borrow.Author.Tests.{lt-ltb, le-ltb, not-false}
use Rattle.endian.specs.Signed.{within}
use Rattle.endian.proofs.Signed.{within_facts}
use Rattle.format.specs.Limits.{max_tasks}
use Rattle.format.specs.Refusals.{test, first_failing}
use Rattle.format.specs.Record.{all_lists, count_of, file_in}
use Rattle.format.specs.Reads.{Container, container_of, loaded_tests, chunks_used}
use Rattle.format.specs.Passed.{Readable}
use Rattle.format.proofs.Refusals.{Numbered, none_fails, first_passes}
use Rattle.format.proofs.Verdicts.{each_append}
use Rattle.format.proofs.Passing.{head_tasks}
use Rattle.format.proofs.LoadedRecords.{loaded_passed, loaded_file}
use Rattle.format.proofs.Readable.{read_sound}
use Rattle.pairs.specs.Ranks.{mapping_size, none_lacking}
use Rattle.pairs.specs.Reads.{LoadedPair, tasks₀, tasks₁, ranks₀, ranks₁, file_there, task_there}
use Rattle.pairs.specs.Reads.{loaded_pair_tests, pair_read_tests, pair_chunk_refusal}
use Rattle.pairs.proofs.Records.{loaded_pair_numbered, loaded_pair_passed}
use Rattle.std.specs.Prelude.{Some, None}
use Rattle.ranks.specs.Holders.{holder, some_task}
use Rattle.ranks.proofs.Finding.{found_first, found_second, task_is, found_below, lost_past}
use Rattle.chunks.proofs.Testing.{next_answers}
use Rattle.pair_reads.specs.Found.{Found}

-- a container of the file that its record says it is
abbrev pub own : Container → Container
own c = container_of (file_in c.loaded.head) c.loaded c.lists c.image c.table

-- which is the file that the calls mean, where 17, 18 and 19 pass
own_is : (c : Container) → first_failing (loaded_tests c) ≡ 0 → own c ≡ c
own_is c passes i = container_of (loaded_file c passes i) c.loaded c.lists c.image c.table

own_readable : (c : Container) (task : ℕ) → length c.lists ≡ all_lists → first_failing (loaded_tests c) ≡ 0 → 1 ≤ task → task ≤ c.loaded.head.n
    → Readable (own c) task
own_readable c task many passes first last =
    record { as_many = many; passed = loaded_passed c passes; first_task = first; last_task = last }

module _ (p : LoadedPair) (passes : 0 ≡ first_failing (loaded_pair_tests p)) where
  -- tests 17, 18 and 19 of each file pass, and no rank is lacking
  each_passes : (first_failing (loaded_tests p.first) ≡ 0)
      × (first_failing (loaded_tests p.second) ≡ 0)
      × (none_lacking (tasks₀ p) (tasks₁ p) (ranks₀ p) (ranks₁ p) ≡ true)
  each_passes = loaded_pair_passed p (sym passes)

  pub few_tasks : (tasks₀ p ≤ max_tasks) × (tasks₁ p ≤ max_tasks)
  few_tasks =
      let (one, two, none) = each_passes in
      ((head_tasks _ _ (loaded_passed p.first one).head).1, (head_tasks _ _ (loaded_passed p.second two).head).1)

  module _ (rank : ℕ) where
    abbrev held : ℕ
    held = holder (tasks₀ p) (tasks₁ p) (ranks₀ p) (ranks₁ p) rank

    -- then 14, by what a search for the rank's task answers
    pub rank_lost : some_task held ≡ None → 14 ≡ first_failing (pair_read_tests p rank)
    unfolding pair_read_tests first_failing
    rank_lost lost =
        let (one, two, none) = each_passes in
        next_answers (loaded_pair_tests p) _ (loaded_pair_numbered p) passes
        (rw (le-ltb rank (mapping_size (tasks₀ p) (tasks₁ p)) (lost_past _ _ _ _ none rank lost)) refl)

    module _ {task : ℕ} (is : some_task held ≡ Some task) where
      below : rank < tasks₀ p + tasks₁ p
      below = let (one, two, none) = each_passes in found_below _ _ _ _ none rank is

      pub rank_found : 0 ≡ first_failing (pair_read_tests p rank)
      unfolding pair_read_tests first_failing
      rank_found = next_answers (loaded_pair_tests p) _ (loaded_pair_numbered p) passes (rw (lt-ltb rank (mapping_size (tasks₀ p) (tasks₁ p)) below) refl)

      pub in_file_0 : length p.first.lists ≡ all_lists → task ≤ tasks₀ p → Found p rank 0 (own p.first) task
      in_file_0 many within =
          let (one, two, none) = each_passes in
          let same = task_is _ _ _ _ rank is in
          let (which, local, first) = found_first _ _ _ _ none rank below (omega arith) in
          record {
            which = rw which refl;
            file_is = own_is p.first one ∙ sym (rw which);
            task_is = omega arith;
            may_read = own_readable p.first _ many one (omega arith) (omega arith);
          }

      pub in_file_1 : length p.second.lists ≡ all_lists → tasks₀ p < task → Found p rank 1 (own p.second) (task - tasks₀ p)
      in_file_1 many past =
          let (one, two, none) = each_passes in
          let same = task_is _ _ _ _ rank is in
          let (which, local, first, last) = found_second _ _ _ _ none rank below (omega arith) in
          record {
            which = rw which refl;
            file_is = own_is p.second two ∙ sym (rw which);
            task_is = omega arith;
            may_read = own_readable p.second _ many two (omega arith) (omega arith);
          }

-- no test has the number 0
pub pair_read_numbered : (p : LoadedPair) (rank : ℕ) → Numbered (pair_read_tests p rank)
unfolding pair_read_tests
pair_read_numbered p rank = each_append _ (loaded_pair_tests p) _ (loaded_pair_numbered p) (omega arith, tt)

-- where they pass, a chunk is asked for
pub chunk_asked : (p : LoadedPair) (rank chunk : ℕ)
    → first_failing (pair_read_tests p rank) ≡ 0
    → pair_chunk_refusal p rank chunk ≡ first_failing (test 22 (not (within 1 (chunks_used (file_there p rank) (task_there p rank)) (pos chunk))) ∷ [])
unfolding pair_chunk_refusal
chunk_asked p rank chunk passes = first_passes (pair_read_tests p rank) _ (pair_read_numbered p rank) passes

module _ {p : LoadedPair} {rank file : ℕ} {c : Container} {task : ℕ} (found : Found p rank file c task) where
  -- what is asked of the file and the task is what the rules ask of theirs
  pub there : {A : Type 0} (f : Container → ℕ → A) → f c task ≡ f (file_there p rank) (task_there p rank)
  there f = ap₂ f found.file_is found.task_is

  pub is_task : (1 ≤ task) × (task ≤ max_tasks)
  is_task = let r = found.may_read in (r.first_task, omega (arith, r.last_task, (read_sound r).tasks))

  -- then 22 is asked of a chunk, and where it passes too the chunk may be read
  module _ (chunk : ℕ) (passes : 0 ≡ first_failing (pair_read_tests p rank)) {number : ℕ}
      (tested : number ≡ first_failing (test 22 (not (within 1 (count_of c.lists (task - 1)) (pos chunk))) ∷ [])) where
    pub chunk_tested : number ≡ pair_chunk_refusal p rank chunk
    unfolding chunks_used
    chunk_tested =
        tested
        ∙ there (λ f t. first_failing (test 22 (not (within 1 (count_of f.lists (t - 1)) (pos chunk))) ∷ []))
        ∙ sym (chunk_asked p rank chunk (sym passes))

    pub chunk_used : number ≡ 0 → (1 ≤ chunk) × (chunk ≤ chunks_used c task)
    unfolding chunks_used
    chunk_used none = within_facts 1 _ chunk (not-false _ (none_fails _ (omega arith, tt) (sym tested ∙ none)).0)
