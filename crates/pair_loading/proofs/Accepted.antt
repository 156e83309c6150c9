-- What is known of a file that passed its check: its ranks, and where META2 ends; and of two: the mapping's verdict by the lists of their records.
use mathlib.Core.Path.{◌≡◌, refl, sym, ap, ◌∙◌}
use mathlib.Core.List.{List}
use Prim.Native.Nat.{ℕ, ◌≤◌, ◌<◌, ◌^◌}
use native.Mathlib.Omega.{arith}
use lib.Dec.{eqb}
use lib.IntN.{ℤ, pos}
use lib.ListN.{length, take, replicate, length-replicate}
use lib.Seq.{length-take-le, get_or-take}
use Rattle.format.specs.declared.head.File.{File}
use Rattle.format.specs.declared.head.File.TheVariants.{First, Second}
use Rattle.format.specs.declared.loaded.LoadAnswer.{LoadAnswer}
use Rattle.format.specs.Refusals.{no_fault, verdict}
use Rattle.format.specs.Layout.{meta2_end}
use Rattle.format.specs.Limits.{max_tasks, max_rank}
use Rattle.format.specs.Record.{entry, all_lists, size_of, end_at}
use Rattle.format.specs.Judge.{tasks_in, maxchunks_in, head_in, rank_in, size_in, count_in, big_in}
use Rattle.format.specs.Load.{meta2_bytes, loaded_in, lists_in, load_refusal, check_answer}
use Rattle.format.specs.Passed.{Meta2Fits}
use Rattle.format.proofs.Refusals.{number_is, when_accepted}
use Rattle.format.proofs.Record.{is_big_order, end_at_agree}
use Rattle.format.proofs.Stripes.{length_lists, rank_at_place, rank_made, size_made}
use Rattle.format.proofs.Chunks.{meta2_end_small}
use Rattle.format.proofs.Accepting.{FrontHolds, tasks_in_hold, rank_in_holds}
use Rattle.format.proofs.LoadTests.{load_holds}
use Rattle.loading.proofs.LoadAnswers.{fillable}
use Rattle.pairs.specs.Mapping.{mapping_tests}
use Rattle.pairs.specs.Load.{end_in, mapping_in}
use Rattle.pairs.proofs.Mapping.{mapping_agree}
use Rattle.mapping.specs.Entries.{Listed}

-- ---- one file

-- what an accepted check hands back
abbrev accepted_of : List ℕ → LoadAnswer
accepted_of image = record { loaded = loaded_in image; lists = lists_in image; refusal = 0; fault = no_fault }

-- the ranks of its record, as code lends them
abbrev pub ranks_in : List ℕ → List ℕ
ranks_in image = take (tasks_in image) (lists_in image)

module _ (f : File) (image : List ℕ) (cells : ℕ) {answer : LoadAnswer} (checked : answer ≡ check_answer f image cells) where
  pub number_of : load_refusal f image cells ≡ answer.refusal
  unfolding check_answer
  number_of = sym (ap (λ (a : LoadAnswer). a.refusal) checked ∙ number_is _ _ _ (λ (a : LoadAnswer). a.refusal) refl refl)

  module _ (none : answer.refusal ≡ 0) where
    pub answer_is : answer ≡ accepted_of image
    unfolding check_answer
    answer_is = checked ∙ when_accepted (load_refusal f image cells) _ _ (number_of ∙ none)

    front : FrontHolds f image (length image)
    front = (load_holds f image cells (number_of ∙ none)).first.front

    pub some_tasks : 1 ≤ tasks_in image
    unfolding tasks_in
    some_tasks = (tasks_in_hold front).1

    few_tasks : tasks_in image ≤ max_tasks
    unfolding tasks_in
    few_tasks = (tasks_in_hold front).2

    -- the ranks of its record, as code lends them, are those of the image
    pub rank_is : (i : ℕ) → i < tasks_in image → entry (ranks_in image) i ≡ rank_in image i
    unfolding lists_in
    rank_is i l =
        get_or-take (tasks_in image) (lists_in image) i 0 l
        ∙ rank_at_place (lists_in image) i (omega (arith, few_tasks))
        ∙ rank_made (tasks_in image) (rank_in image) (size_in image) (count_in (head_in image) (meta2_bytes image)) few_tasks i l

    size_is : (i : ℕ) → i < tasks_in image → size_of (lists_in image) i ≡ size_in image i
    unfolding lists_in
    size_is = size_made (tasks_in image) (rank_in image) (size_in image) (count_in (head_in image) (meta2_bytes image)) few_tasks

    rank_small : (i : ℕ) → i < tasks_in image → rank_in image i ≤ max_rank
    unfolding rank_in
    rank_small i l = (rank_in_holds front i l).2

    as_many : length (lists_in image) ≡ all_lists
    unfolding lists_in
    as_many = length_lists (tasks_in image) (rank_in image) (size_in image) (count_in (head_in image) (meta2_bytes image))

    pub length_ranks_in : length (ranks_in image) ≡ tasks_in image
    length_ranks_in = length-take-le (tasks_in image) (lists_in image) (omega (arith, few_tasks, as_many))

    listed_in : Listed (ranks_in image)
    listed_in = record {
      some = rw length_ranks_in some_tasks;
      few = rw length_ranks_in few_tasks;
      small = λ i l. let l : i < tasks_in image = omega (arith, length_ranks_in) in rw (rank_is i l) (rank_small i l);
    }

    pub listed : Listed (take answer.loaded.head.n answer.lists)
    unfolding loaded_in head_in
    listed = rw answer_is listed_in

    -- what META2 is found by, for a table of so many cells
    pub found : Meta2Fits answer.loaded.head answer.lists answer.loaded.maxchunks image (replicate cells (pos 0))
    found = fillable f image (replicate cells (pos 0)) (checked ∙ ap (check_answer f image) (sym (length-replicate {A = ℤ} cells (pos 0)))) none

    -- where META2 ends, by the record
    abbrev end : ℕ
    end = let h = answer.loaded.head in meta2_end h.blocksize h.n (size_of answer.lists) answer.loaded.maxchunks

    pub end_within : end ≤ length image
    unfolding end_at
    end_within = found.image_long

    pub end_small : end < 2 ^ 62
    end_small = meta2_end_small found.sound answer.loaded.maxchunks found.few

    pub end_is : end ≡ end_in image
    unfolding end_at loaded_in head_in
    end_is = rw answer_is (end_at_agree (head_in image) (size_of (lists_in image)) (size_in image) size_is (maxchunks_in image))

-- ---- both files

module _ (image image' : List ℕ) (cells cells' : ℕ) {one two : LoadAnswer} (checked : one ≡ check_answer First image cells)
    (checked' : two ≡ check_answer Second image' cells') (none : one.refusal ≡ 0) (none' : two.refusal ≡ 0) where
  -- the mapping judged by the ranks of the records, from where META2 ends
  pub mapping_judged_holds : (end : ℕ) → end ≡ end_in image
      → let ranks = take one.loaded.head.n one.lists in
      let ranks' = take two.loaded.head.n two.lists in
      verdict (mapping_tests (length ranks) (length ranks') (entry ranks) (entry ranks') (eqb one.loaded.head.order 1) image end)
      ≡ verdict (mapping_in image image')
  unfolding mapping_in loaded_in head_in
  mapping_judged_holds end ends =
      rw (
        answer_is First image cells checked none,
        answer_is Second image' cells' checked' none',
        ends,
        is_big_order (big_in image),
        length_ranks_in First image cells checked none,
        length_ranks_in Second image' cells' checked' none',
      )
      (mapping_agree (tasks_in image) (tasks_in image') (entry (ranks_in image)) (entry (ranks_in image')) (rank_in image) (rank_in image')
      (some_tasks First image cells checked none) (some_tasks Second image' cells' checked' none') (rank_is First image cells checked none)
      (rank_is Second image' cells' checked' none') (big_in image) image (end_in image))
