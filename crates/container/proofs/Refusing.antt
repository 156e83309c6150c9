-- Demand 1: a refusal is one of the entry's own numbers, and a refused call moves nothing.
use mathlib.Core.Path.{◌≡◌, refl, ap, ap₂, ◌∙◌}
use mathlib.Core.Bool.{Bool, true, false, cond}
use mathlib.Core.List.{List, [], ◌∷◌}
use Prim.Native.Nat.{ℕ, ◌<◌}
use native.Mathlib.Omega.{arith}
use lib.Dec.{eqb}
use lib.IntN.{ℤ}
use lib.ListN.{length, take, drop, replicate}
use Rattle.format.specs.declared.head.File.{File}
use Rattle.format.specs.declared.head.Head.{Head}
use Rattle.format.specs.Refusals.{Test, first_failing}
use Rattle.format.specs.Judge.{tasks_in, start_tests, field_tests, fixed_tests, rank_tests, requested_tests, last_tests, rest_tests, meta1_tests, count_tests, greatest_test, value_test, value_tests, counts_tests, meta2_tests}
use Rattle.format.proofs.Refusals.{Each, answered, when_refused, number_is}
use Rattle.format.proofs.Verdicts.{each_append, each_join}
use Rattle.format.specs.declared.loaded.LoadAnswer.{LoadAnswer}
use Rattle.format.specs.declared.loaded.Part.{Part}
use Rattle.format.specs.declared.loaded.ByteCount.{ByteCount}
use Rattle.format.specs.Record.{record_tests, no_lists}
use Rattle.format.specs.declared.session.Opened.{Opened}
use Rattle.format.specs.declared.session.Closed.{Closed}
use Rattle.format.specs.Session.{State, session_tests}
use Rattle.format.specs.Open.{Opening, shape_tests, number_tests, plan_tests, open_refusal, opens, open_answer, open_image, open_found}
use Rattle.format.specs.Write.{Request, request_tests, write_refusal, after_write, write_found, writes, refusals}
use Rattle.lists.specs.Stores.{applied}
use Rattle.format.specs.Close.{close_refusal, close_answer, close_stores, close_image, close_found}
use Rattle.format.proofs.Storing.{refused_found, refused_write_found, refused_close_found}
use Rattle.format.proofs.Opening.{needs_number, needs_refused, open_plan, open_short, open_enough, refused_answer, refused_image, refused_table}
use Rattle.format.proofs.Outcomes.{refused_keeps, request_numbers}
use Rattle.format.specs.Load.{load_tests, load_refusal, load_fault, check_answer, load_answer, load_table}
use Rattle.format.specs.Reads.{Container, loaded_tests, read_tests, chunk_refusal, chunk_bytes, chunk_part, chunk_place, part_answer, total_answer, read_refusal, read_answer, read_output}
use Rattle.container.specs.Refusing.{load_numbers, chunk_numbers, read_numbers, total_numbers, needs_numbers, open_numbers, write_numbers, size_numbers, record_numbers, LoadRefuses, ChunkRefuses, PartRefuses, TotalRefuses, ReadRefuses, SizeRefuses, LengthRefuses, PrefixRefuses, NeedsRefuses, NeedsSays, OpenRefuses, WriteRefuses, CloseRefuses, Ended}
use Rattle.format.specs.About.{size_tests, chunk_size_answer, whole_refusal, length_answer, prefix_answer}
use Rattle.container.specs.Format.{PartThere}
use Rattle.format.specs.Accepted.{SessionJudged, LoadedJudged}
use Rattle.lists.specs.Logic.{OneOf, Not}
use Rattle.lists.proofs.Logic.{listed, one_of}
use Rattle.format.proofs.Judging.{Other, under, over, session_judged, loaded_judged}
use Rattle.format.specs.Loaded.{no_loaded}

-- the answer to tests whose numbers are all listed
pub one_of_tests : (numbers : List ℕ) (ts : List Test) → Each (λ t. listed (0 ∷ numbers) t.number ≡ true) ts
    → OneOf (0 ∷ numbers) (first_failing ts)
unfolding listed
one_of_tests numbers ts h =
    one_of (0 ∷ numbers) (first_failing ts) (answered (λ r. listed (0 ∷ numbers) r ≡ true) ts refl h)

-- ---- loading

module _ (f : File) (image : List ℕ) (table : List ℤ) where
  pub load_number : (load_answer f image table).refusal ≡ load_refusal f image (length table)
  unfolding load_answer check_answer
  load_number = number_is (load_refusal f image (length table)) _ _ (λ (a : LoadAnswer). a.refusal) refl refl

  abbrev Listed : List Test → Type 0
  Listed = Each (λ t. listed (0 ∷ load_numbers) t.number ≡ true)

  fixed_listed : Listed (fixed_tests image f (length image))
  unfolding start_tests field_tests fixed_tests listed
  fixed_listed = (refl, (refl, (refl, (refl, (refl, (refl, (refl, (refl, (refl, tt)))))))))

  last_listed : Listed (last_tests image (length image))
  unfolding last_tests listed
  last_listed = (refl, (refl, (refl, (refl, tt))))

  rest_listed : Listed (rest_tests image (length image))
  unfolding rank_tests requested_tests rest_tests listed
  rest_listed =
      each_append _ (rank_tests image) _ (each_join _ _ (λ i. (refl, tt)) (tasks_in image))
      (each_append _ (requested_tests image) _ (each_join _ _ (λ i. (refl, tt)) (tasks_in image)) last_listed)

  meta2_listed : (h : Head) (size : ℕ → ℕ) (maxchunks at : ℕ) (part : List ℕ) → Listed (meta2_tests h size maxchunks at part)
  unfolding count_tests greatest_test value_test value_tests counts_tests meta2_tests listed
  meta2_listed h size maxchunks at part =
      each_append _ (counts_tests h size maxchunks at part) _
      (each_append _ (count_tests h size maxchunks at part) _ (each_join _ _ (λ i. (refl, tt)) h.n) (refl, tt))
      (each_join _ _ (λ k. each_join _ _ (λ i. (refl, tt)) h.n) maxchunks)

  load_listed : OneOf (0 ∷ load_numbers) (load_refusal f image (length table))
  unfolding load_refusal load_tests meta1_tests listed
  load_listed =
      one_of_tests load_numbers (load_tests f image (length table))
      (each_append _ (meta1_tests image f (length image)) _ (each_append _ (fixed_tests image f (length image)) _ fixed_listed rest_listed)
      (refl, meta2_listed _ _ _ _ _))

  pub answer_refused : 0 < load_refusal f image (length table)
      → load_answer f image table ≡ record { loaded = no_loaded; lists = no_lists; refusal = load_refusal f image (length table); fault = load_fault f image (length table) }
  unfolding load_answer check_answer
  answer_refused r = when_refused _ _ _ r

  table_kept : 0 < load_refusal f image (length table) → load_table f image table ≡ table
  unfolding load_table
  table_kept r = when_refused _ _ _ r

  pub load_refuses : LoadRefuses f image table
  load_refuses = record {
    numbered = rw load_number load_listed;
    moves_nothing = λ l. let r : 0 < load_refusal f image (length table) = rw load_number at l in rw (answer_refused r, table_kept r);
  }

-- ---- the reads

module _ (c : Container) (task : ℕ) where
  pub total_number : (total_answer c task).refusal ≡ first_failing (read_tests c task)
  unfolding total_answer
  total_number = number_is (first_failing (read_tests c task)) _ _ (λ (a : ByteCount). a.refusal) refl refl

  pub read_number : (p : ℕ) (out : List ℕ) → (read_answer c task p out).refusal ≡ read_refusal c task p
  unfolding read_answer
  read_number p out = number_is (read_refusal c task p) _ _ (λ (a : ByteCount). a.refusal) refl refl

  pub part_there : (chunk : ℕ) → PartThere c task chunk
  unfolding part_answer chunk_place chunk_part chunk_bytes
  part_there chunk = go (eqb (chunk_refusal c task chunk) 0)
    where
      go : (b : Bool)
          → let part = cond b (chunk_place c task chunk) (record { refusal = chunk_refusal c task chunk; start = 0; length = 0 }) in
          take part.length (drop part.start c.image) ≡ cond b (chunk_bytes c task chunk) []
      go true = refl
      go false = refl

  pub chunk_refuses : (chunk : ℕ) → ChunkRefuses c task chunk
  unfolding chunk_refusal chunk_part loaded_tests read_tests record_tests listed
  chunk_refuses chunk = record {
    numbered = one_of_tests chunk_numbers _ (refl, (refl, (refl, (refl, (refl, tt)))));
    moves_nothing = λ l. when_refused _ _ _ l;
  }

  pub chunk_judged : (chunk : ℕ) → LoadedJudged c (chunk_refusal c task chunk)
  unfolding chunk_refusal read_tests loaded_tests record_tests
  chunk_judged chunk = loaded_judged c _ (under (omega arith), (over (omega arith), tt))

  pub part_number : (chunk : ℕ) → (part_answer c task chunk).refusal ≡ chunk_refusal c task chunk
  unfolding part_answer chunk_place
  part_number chunk = number_is (chunk_refusal c task chunk) _ _ (λ (a : Part). a.refusal) refl refl

  part_refused : (chunk : ℕ) → 0 < chunk_refusal c task chunk
      → part_answer c task chunk ≡ record { refusal = chunk_refusal c task chunk; start = 0; length = 0 }
  unfolding part_answer
  part_refused chunk l = when_refused _ _ _ l

  pub part_refuses : (chunk : ℕ) → PartRefuses c task chunk
  part_refuses chunk = record {
    numbered = rw part_number (chunk_refuses chunk).numbered;
    moves_nothing = λ l. rw (part_refused chunk (rw part_number at l));
  }

  pub total_refuses : TotalRefuses c task
  unfolding total_answer loaded_tests read_tests record_tests listed
  total_refuses = record {
    numbered = rw total_number (one_of_tests total_numbers _ (refl, (refl, (refl, (refl, tt)))));
    moves_nothing = λ l. ap (λ (a : ByteCount). a.bytes) (when_refused _ _ _ (rw total_number at l));
  }

  pub total_judged : LoadedJudged c (total_answer c task).refusal
  unfolding read_tests loaded_tests record_tests
  total_judged = rw total_number (loaded_judged c _ (under (omega arith), tt))

  module _ (p : ℕ) (out : List ℕ) where
    read_listed : OneOf (0 ∷ read_numbers) (read_refusal c task p)
    unfolding read_refusal loaded_tests read_tests record_tests listed
    read_listed = one_of_tests read_numbers _ (refl, (refl, (refl, (refl, (refl, tt)))))

    count_refused : 0 < read_refusal c task p → read_answer c task p out ≡ record { refusal = read_refusal c task p; bytes = 0 }
    unfolding read_answer
    count_refused r = when_refused _ _ _ r

    output_kept : 0 < read_refusal c task p → read_output c task p out ≡ out
    unfolding read_output
    output_kept r = when_refused _ _ _ r

    pub read_refuses : ReadRefuses c task p out
    read_refuses = record {
      numbered = rw read_number read_listed;
      moves_nothing = λ l. let r : 0 < read_refusal c task p = rw read_number at l in rw (count_refused r, output_kept r);
    }

    pub read_judged : LoadedJudged c (read_answer c task p out).refusal
    unfolding read_refusal read_tests loaded_tests record_tests
    read_judged = rw read_number (loaded_judged c _ (under (omega arith), (over (omega arith), tt)))

-- ---- the container as a whole

module _ (c : Container) where
  whole_listed : OneOf (0 ∷ record_numbers) (whole_refusal c)
  unfolding whole_refusal loaded_tests record_tests listed
  whole_listed = one_of_tests record_numbers _ (refl, (refl, (refl, tt)))

  whole_judged : LoadedJudged c (whole_refusal c)
  unfolding whole_refusal loaded_tests record_tests
  whole_judged = loaded_judged c [] tt

  length_number : (length_answer c).refusal ≡ whole_refusal c
  unfolding length_answer
  length_number = number_is (whole_refusal c) _ _ (λ (a : ByteCount). a.refusal) refl refl

  prefix_number : (prefix_answer c).refusal ≡ whole_refusal c
  unfolding prefix_answer
  prefix_number = number_is (whole_refusal c) _ _ (λ (a : Part). a.refusal) refl refl

  pub length_judged : LoadedJudged c (length_answer c).refusal
  length_judged = rw length_number whole_judged

  pub prefix_judged : LoadedJudged c (prefix_answer c).refusal
  prefix_judged = rw prefix_number whole_judged

  pub length_refuses : LengthRefuses c
  unfolding length_answer
  length_refuses = record {
    numbered = rw length_number whole_listed;
    moves_nothing = λ l. ap (λ (a : ByteCount). a.bytes) (when_refused _ _ _ (rw length_number at l));
  }

  prefix_refused : 0 < whole_refusal c → prefix_answer c ≡ record { refusal = whole_refusal c; start = 0; length = 0 }
  unfolding prefix_answer
  prefix_refused l = when_refused _ _ _ l

  pub prefix_refuses : PrefixRefuses c
  prefix_refuses = record {
    numbered = rw prefix_number whole_listed;
    moves_nothing = λ l. rw (prefix_refused (rw prefix_number at l));
  }

-- ---- opening, writing and closing

module _ (o : Opening) where
  needs_listed : OneOf (0 ∷ needs_numbers) (first_failing (plan_tests o))
  unfolding plan_tests shape_tests number_tests listed
  needs_listed = one_of_tests needs_numbers _ (refl, (refl, (refl, (refl, (refl, (refl, (refl, (refl, tt))))))))

  pub needs_refuses : NeedsRefuses o
  needs_refuses = record {
    numbered = rw (needs_number o) needs_listed;
    moves_nothing = λ l. rw (needs_refused o (rw (needs_number o) at l));
  }

module _ (size blocksize : ℕ) where
  size_listed : OneOf (0 ∷ size_numbers) (first_failing (size_tests size blocksize))
  unfolding size_tests listed
  size_listed = one_of_tests size_numbers _ (refl, (refl, tt))

  size_number : (chunk_size_answer size blocksize).refusal ≡ first_failing (size_tests size blocksize)
  unfolding chunk_size_answer
  size_number = number_is (first_failing (size_tests size blocksize)) _ _ (λ (a : ByteCount). a.refusal) refl refl

  pub size_refuses : SizeRefuses size blocksize
  unfolding chunk_size_answer
  size_refuses = record {
    numbered = rw size_number size_listed;
    moves_nothing = λ l. ap (λ (a : ByteCount). a.bytes) (when_refused _ _ _ (rw size_number at l));
  }

module _ (o : Opening) (image : List ℕ) (table : List ℤ) where
  pub open_number : (open_answer o image table).refusal ≡ open_refusal o (length image) (length table)
  unfolding open_answer opens
  open_number = number_is (open_refusal o (length image) (length table)) _ _ (λ (a : Opened). a.refusal) refl refl

  open_listed : OneOf (0 ∷ open_numbers) (open_refusal o (length image) (length table))
  unfolding open_refusal plan_tests shape_tests number_tests listed
  open_listed = one_of_tests open_numbers _ (refl, (refl, (refl, (refl, (refl, (refl, (refl, (refl, (refl, tt)))))))))

  pub needs_says : NeedsSays o image table
  needs_says = record {
    refused = λ l. open_number ∙ open_plan o (length image) (length table) l;
    short = λ none l. open_number ∙ open_short o (length image) (length table) none l;
    enough = λ none i t. open_number ∙ open_enough o (length image) (length table) none i t;
  }

  opens_refused : (left : List ℕ) → (0 < open_refusal o (length image) (length table) → left ≡ image) → OpenRefuses o image table left
  opens_refused left kept = record {
    numbered = rw open_number open_listed;
    moves_nothing =
        λ l. let r : 0 < open_refusal o (length image) (length table) = rw open_number at l in
        rw (refused_answer o image table r, kept r, refused_table o image table r);
  }

  pub open_refuses : OpenRefuses o image table (open_image o image table)
  open_refuses = opens_refused _ (refused_image o image table)

  pub open_within_refuses : (b : ℕ) → OpenRefuses o image table (open_found o image table b)
  open_within_refuses b = opens_refused _ (λ r. refused_found o image table r b)

write_listed : (st : State) (q : Request) → OneOf (0 ∷ write_numbers) (write_refusal st q)
unfolding write_refusal session_tests record_tests listed
write_listed st q =
    one_of_tests write_numbers _ (refl, (refl, (refl, request_numbers st q (λ r. listed (0 ∷ write_numbers) r ≡ true) refl refl refl)))

pub write_judged : (st : State) (q : Request) → SessionJudged st (write_refusal st q)
unfolding write_refusal
write_judged st q =
    session_judged st (request_tests st q) (request_numbers st q Other (under (omega arith)) (under (omega arith)) (under (omega arith)))

pub write_refuses : (st : State) (q : Request) → WriteRefuses st q (after_write st q)
write_refuses st q = record { numbered = write_listed st q; moves_nothing = refused_keeps st q }

pub write_within_refuses : (st : State) (q : Request) (b : ℕ) → WriteRefuses st q (write_found st q b)
write_within_refuses st q b = record { numbered = write_listed st q; moves_nothing = refused_write_found st q b }

module _ (st : State) where
  pub close_number : (close_answer st).refusal ≡ close_refusal st
  unfolding close_answer
  close_number = number_is (close_refusal st) _ _ (λ (a : Closed). a.refusal) refl refl

  close_listed : OneOf (0 ∷ record_numbers) (close_refusal st)
  unfolding close_refusal session_tests record_tests listed
  close_listed = one_of_tests record_numbers _ (refl, (refl, (refl, tt)))

  pub close_judged : SessionJudged st (close_answer st).refusal
  unfolding close_refusal session_tests record_tests
  close_judged = rw close_number (session_judged st [] tt)

  answer_kept : 0 < close_refusal st → close_answer st ≡ record { refusal = close_refusal st; session = st.session; length = 0 }
  unfolding close_answer
  answer_kept r = when_refused _ _ _ r

  image_kept : 0 < close_refusal st → close_image st ≡ st.image
  unfolding close_image close_stores applied
  image_kept r = ap (applied st.image) (when_refused _ _ _ r)

  closes_refused : (left : List ℕ) → (0 < close_refusal st → left ≡ st.image) → CloseRefuses st left
  closes_refused left kept = record {
    numbered = rw close_number close_listed;
    moves_nothing = λ l. let r : 0 < close_refusal st = rw close_number at l in rw (answer_kept r, kept r);
  }

  pub close_refuses : CloseRefuses st (close_image st)
  close_refuses = closes_refused _ image_kept

  pub close_within_refuses : (b : ℕ) → CloseRefuses st (close_found st b)
  close_within_refuses b = closes_refused _ (λ r. refused_close_found st r b)

-- ---- a session that is marked closed

module _ (st : State) (flagged : Not (st.session.closed ≡ 0)) where
  refused_17 : (q : Request) → write_refusal st q ≡ 17
  refused_17 q = (write_judged st q).number_17.1 (λ good. flagged good.not_closed)

  kept_17 : (q : Request) → after_write st q ≡ st
  kept_17 q = refused_keeps st q (omega (arith, refused_17 q))

  all_17 : (qs : List Request) → refusals st qs ≡ replicate (length qs) 17
  all_17 [] = refl
  all_17 (q ∷ qs) = ap₂ ◌∷◌ (refused_17 q) (ap (λ (s : State). refusals s qs) (kept_17 q) ∙ all_17 qs)

  all_kept : (qs : List Request) → writes st qs ≡ st
  all_kept [] = refl
  all_kept (q ∷ qs) = ap (λ (s : State). writes s qs) (kept_17 q) ∙ all_kept qs

  pub flag_ends : Ended st
  flag_ends = record {
    no_write = all_17;
    stays = all_kept;
    no_close = (close_judged st).number_17.1 (λ good. flagged good.not_closed);
  }
