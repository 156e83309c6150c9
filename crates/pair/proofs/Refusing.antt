-- Demand 1 of a pair: a refusal is one of the entry's own numbers, a refused call moves nothing of either file, and what ties one answer to another.
use mathlib.Core.Path.{◌≡◌, refl, sym, ap, ap₂, ◌∙◌}
use mathlib.Core.Bool.{Bool, true, false, cond, ◌||◌, false≢true, or-true}
use mathlib.Core.List.{List, [], ◌∷◌, ◌++◌}
use mathlib.Core.Logic.{◌⊎◌, inl, inr, ⊎_elim, ⊎_map}
use Prim.Native.Nat.{ℕ, ◌+◌, ◌<◌}
use native.Mathlib.Omega.{arith}
use lib.Dec.{ltb, eqb}
use lib.IntN.{ℤ}
use lib.ListN.{length, take, drop, replicate}
use borrow.Author.Tests.{lt-ltb, le-ltb}
use Rattle.lists.specs.Logic.{Not, OneOf}
use Rattle.lists.proofs.Logic.{listed, one_of_more}
use Rattle.format.specs.declared.head.File.{File}
use Rattle.format.specs.declared.head.File.TheVariants.{First, Second}
use Rattle.format.specs.declared.loaded.ByteCount.{ByteCount}
use Rattle.format.specs.Refusals.{first_failing}
use Rattle.format.specs.Judge.{tasks_in}
use Rattle.format.specs.Record.{no_lists}
use Rattle.format.specs.Session.{State}
use Rattle.format.specs.Loaded.{no_loaded}
use Rattle.format.specs.Open.{Opening, plan_tests}
use Rattle.format.specs.Write.{Request}
use Rattle.format.specs.Load.{load_tests, load_refusal}
use Rattle.format.specs.Reads.{Container, chunk_bytes, chunk_place}
use Rattle.format.proofs.Refusals.{answered_append, when_accepted, when_refused, number_is, either_is}
use Rattle.format.proofs.Verdicts.{each_join}
use Rattle.format.proofs.Opening.{needs_number}
use Rattle.format.proofs.Outcomes.{empty_keeps, request_numbers}
use Rattle.format.proofs.Judging.{Other, under, over}
use Rattle.container.specs.Refusing.{load_numbers, chunk_numbers, read_numbers, total_numbers, open_numbers, needs_numbers, write_numbers, record_numbers}
use Rattle.container.proofs.Refusing.{one_of_tests}
use Rattle.container.proofs.Refusing as own
use Rattle.pairs.specs.declared.PairClosed.{PairClosed}
use Rattle.pairs.specs.declared.PairPart.{PairPart}
use Rattle.pairs.specs.Mapping.{entry_tests, mapping_tests, file_of_rank}
use Rattle.pairs.specs.Open.{pair_plan_tests, pair_needs, pair_open_refusal, pair_opened, pair_found, pair_images}
use Rattle.pairs.specs.Sessions.{Pair, pair_tests, second?, state_of_rank, with_state, file_request, pair_write_refusal, pair_after_write, pair_write_found}
use Rattle.pairs.specs.Sessions.{pair_writes, pair_refusals, pair_close_refusal, pair_closed, pair_close_images, pair_close_found}
use Rattle.pairs.specs.Load.{mapping_in, pair_load_tests, pair_load_refusal, broken_file, pair_fault, pair_checked, pair_loaded, pair_load_tables}
use Rattle.pairs.specs.Reads.{LoadedPair, loaded_pair_tests, task_there, pair_read_tests, pair_chunk_refusal, pair_chunk, pair_part, pair_total}
use Rattle.pairs.specs.Reads.{pair_read_refusal, pair_read_answer, pair_read_output}
use Rattle.pairs.specs.Reads
use Rattle.pairs.proofs.Opening.{plan_numbered}
use Rattle.pair_opening.specs.Short.{short_of}
use Rattle.pair_opening.proofs.Opened.{pair_numbered, short_is, refused_pair, refused_found, refused_images, refused_tables}
use Rattle.pair_loading.proofs.Checked.{load_numbered, tables_kept}
use Rattle.pair_writing.proofs.Written.{put_back, refused_left, write_refused}
use Rattle.pair_closing.proofs.Closed.{accepted_closed, refused_closed}
use Rattle.pair_closing.proofs.Closed as closed
use Rattle.pair.specs.Refusing.{PairLoadRefuses, PairChunkRefuses, PairPartRefuses, PairTotalRefuses, PairReadRefuses, PairNeedsRefuses}
use Rattle.pair.specs.Refusing.{PairOpenRefuses, PairWriteRefuses, PairCloseRefuses, PairLoadedJudged, PairSessionJudged, PairNeedsSays}
use Rattle.pair.specs.Refusing.{PairPartThere, PairEnded, after_pair_close, PairRefusals}
use Rattle.pair.proofs.Closes.{pair_close_number}
use Rattle.pair.proofs.Accepts.{load_number}
use Rattle.pair.proofs.Opens.{needs_number_is, open_number_is}
use Rattle.pair.proofs.Judging.{pair_loaded_judged, pair_session_judged}

-- ---- loading

abbrev pair_load_numbers : List ℕ
pair_load_numbers = load_numbers ++ (25 ∷ [])

-- of either file
own_listed : (f : File) (image : List ℕ) (table : List ℤ) → OneOf (0 ∷ pair_load_numbers) (load_refusal f image (length table))
own_listed f image table =
    one_of_more (0 ∷ load_numbers) (25 ∷ []) _ (rw (own.load_number f image table) at (own.load_refuses f image table).numbered)

module _ (image image' : List ℕ) (table table' : List ℤ) where
  mapping_listed : OneOf (0 ∷ pair_load_numbers) (first_failing (mapping_in image image'))
  unfolding mapping_in mapping_tests entry_tests listed
  mapping_listed =
      one_of_tests pair_load_numbers _ (refl, (refl, (refl, each_join _ _ (λ r. (refl, (refl, (refl, tt)))) (tasks_in image + tasks_in image'))))

  load_listed : OneOf (0 ∷ pair_load_numbers) (pair_load_refusal image image' (length table) (length table'))
  unfolding pair_load_refusal pair_load_tests load_refusal
  load_listed =
      answered_append (OneOf (0 ∷ pair_load_numbers)) (load_tests First image (length table)) _ (load_numbered First image (length table))
      (own_listed First image table)
      (answered_append (OneOf (0 ∷ pair_load_numbers)) (load_tests Second image' (length table')) _ (load_numbered Second image' (length table'))
      (own_listed Second image' table') mapping_listed)

  load_refused : 0 < pair_load_refusal image image' (length table) (length table')
      → pair_loaded image image' table table'
      ≡ record {
        loaded0 = no_loaded;
        lists0 = no_lists;
        loaded1 = no_loaded;
        lists1 = no_lists;
        refusal = pair_load_refusal image image' (length table) (length table');
        file = broken_file image image' (length table) (length table');
        fault = pair_fault image image' (length table) (length table');
      }
  unfolding pair_loaded pair_checked
  load_refused some = when_refused _ _ _ some

  left_alone : 0 < (pair_loaded image image' table table').refusal → pair_load_tables image image' table table' ≡ (table, table')
  unfolding pair_loaded
  left_alone some = sym (tables_kept image image' table table' {answer = pair_loaded image image' table table'} refl (λ none. omega arith))

  pub load_refuses : PairLoadRefuses image image' table table'
  load_refuses = record {
    numbered = rw (load_number image image' table table') load_listed;
    moves_nothing = λ some. rw (load_refused (rw (load_number image image' table table') at some), left_alone some);
  }

-- ---- the reads

module _ (p : LoadedPair) (rank : ℕ) where
  pub total_number : (pair_total p rank).refusal ≡ first_failing (pair_read_tests p rank)
  unfolding pair_total
  total_number = number_is (first_failing (pair_read_tests p rank)) _ _ (λ (a : ByteCount). a.refusal) refl refl

  pub read_number : (place : ℕ) (out : List ℕ) → (pair_read_answer p rank place out).refusal ≡ pair_read_refusal p rank place
  unfolding pair_read_answer
  read_number place out = number_is (pair_read_refusal p rank place) _ _ (λ (a : ByteCount). a.refusal) refl refl

  pub part_number : (chunk : ℕ) → (pair_part p rank chunk).refusal ≡ pair_chunk_refusal p rank chunk
  unfolding pair_part
  part_number chunk = number_is (pair_chunk_refusal p rank chunk) _ _ (λ (a : PairPart). a.refusal) refl refl

  pub chunk_refuses : (chunk : ℕ) → PairChunkRefuses p rank chunk
  unfolding pair_chunk_refusal pair_chunk pair_read_tests loaded_pair_tests listed
  chunk_refuses chunk = record {
    numbered = one_of_tests chunk_numbers _ (refl, (refl, (refl, (refl, (refl, (refl, (refl, (refl, tt))))))));
    moves_nothing = λ l. when_refused _ _ _ l;
  }

  pub chunk_judged : (chunk : ℕ) → PairLoadedJudged p (pair_chunk_refusal p rank chunk)
  unfolding pair_chunk_refusal pair_read_tests loaded_pair_tests
  chunk_judged chunk = pair_loaded_judged p _ (under (omega arith), (over (omega arith), tt))

  part_refused : (chunk : ℕ) → 0 < pair_chunk_refusal p rank chunk
      → pair_part p rank chunk ≡ record { refusal = pair_chunk_refusal p rank chunk; file = 0; start = 0; length = 0 }
  unfolding pair_part
  part_refused chunk l = when_refused _ _ _ l

  pub part_refuses : (chunk : ℕ) → PairPartRefuses p rank chunk
  part_refuses chunk = record {
    numbered = rw part_number (chunk_refuses chunk).numbered;
    moves_nothing = λ l. rw (part_refused chunk (rw part_number at l));
  }

  pub total_refuses : PairTotalRefuses p rank
  unfolding pair_total pair_read_tests loaded_pair_tests listed
  total_refuses = record {
    numbered = rw total_number (one_of_tests total_numbers _ (refl, (refl, (refl, (refl, (refl, (refl, (refl, tt))))))));
    moves_nothing = λ l. ap (λ (a : ByteCount). a.bytes) (when_refused _ _ _ (rw total_number at l));
  }

  pub total_judged : PairLoadedJudged p (pair_total p rank).refusal
  unfolding pair_read_tests
  total_judged = rw total_number (pair_loaded_judged p _ (under (omega arith), tt))

  module _ (place : ℕ) (out : List ℕ) where
    read_listed : OneOf (0 ∷ read_numbers) (pair_read_refusal p rank place)
    unfolding pair_read_refusal pair_read_tests loaded_pair_tests listed
    read_listed = one_of_tests read_numbers _ (refl, (refl, (refl, (refl, (refl, (refl, (refl, (refl, tt))))))))

    count_refused : 0 < pair_read_refusal p rank place → pair_read_answer p rank place out ≡ record { refusal = pair_read_refusal p rank place; bytes = 0 }
    unfolding pair_read_answer
    count_refused l = when_refused _ _ _ l

    output_kept : 0 < pair_read_refusal p rank place → pair_read_output p rank place out ≡ out
    unfolding pair_read_output
    output_kept l = when_refused _ _ _ l

    pub read_refuses : PairReadRefuses p rank place out
    read_refuses = record {
      numbered = rw read_number read_listed;
      moves_nothing = λ l. let some : 0 < pair_read_refusal p rank place = rw read_number at l in rw (count_refused some, output_kept some);
    }

    pub read_judged : PairLoadedJudged p (pair_read_answer p rank place out).refusal
    unfolding pair_read_refusal pair_read_tests loaded_pair_tests
    read_judged = rw read_number (pair_loaded_judged p _ (under (omega arith), (over (omega arith), tt)))

  -- the part stands where it is said to stand
  pub pair_part_there : (chunk : ℕ) → PairPartThere p rank chunk
  unfolding pair_part pair_chunk chunk_place chunk_bytes
  pair_part_there chunk = go (eqb (pair_chunk_refusal p rank chunk) 0) (Reads.second? p rank)
    where
      task : ℕ
      task = task_there p rank

      go : (b second : Bool)
          → let c : Container = cond second p.second p.first in
          let part : PairPart =
          cond b
          (record { refusal = 0; file = file_of_rank second; start = (chunk_place c task chunk).start; length = (chunk_place c task chunk).length })
          (record { refusal = pair_chunk_refusal p rank chunk; file = 0; start = 0; length = 0 }) in
          take part.length (drop part.start (cond (eqb part.file 0) p.first.image p.second.image))
          ≡ cond b (chunk_bytes c task chunk) []
      go true true = refl
      go true false = refl
      go false second = refl

-- ---- opening

-- one of two lengths is short
lent_short : (image least cells fewest : ℕ) → (image < least) ⊎ (cells < fewest) → (ltb image least || ltb cells fewest) ≡ true
lent_short image least cells fewest (inl l) = rw (lt-ltb image least l)
lent_short image least cells fewest (inr l) = rw (lt-ltb cells fewest l) (or-true (ltb image least))

-- one of two tests of a number fails
either_gives : (number : ℕ) (a b : Bool) → (a ≡ true) ⊎ (b ≡ true) → cond a number (cond b number 0) ≡ number
either_gives number true b is = refl
either_gives number false b (inl e) = absurd (false≢true e)
either_gives number false b (inr e) = rw e

-- of either file
plan_listed : (o : Opening) → OneOf (0 ∷ needs_numbers) (first_failing (plan_tests o))
plan_listed o = rw (needs_number o) at (own.needs_refuses o).numbered

module _ (o o' : Opening) where
  plans_listed : OneOf (0 ∷ needs_numbers) (first_failing (pair_plan_tests o o'))
  unfolding pair_plan_tests listed
  plans_listed =
      answered_append (OneOf (0 ∷ needs_numbers)) (plan_tests o) _ (plan_numbered o) (plan_listed o)
      (answered_append (OneOf (0 ∷ needs_numbers)) (plan_tests o') _ (plan_numbered o') (plan_listed o') (one_of_tests needs_numbers _ (refl, tt)))

  needs_refused : 0 < first_failing (pair_plan_tests o o')
      → pair_needs o o' ≡ record { refusal = first_failing (pair_plan_tests o o'); image0 = 0; cells0 = 0; image1 = 0; cells1 = 0 }
  unfolding pair_needs
  needs_refused l = when_refused _ _ _ l

  pub needs_refuses : PairNeedsRefuses o o'
  needs_refuses = record {
    numbered = rw (needs_number_is o o') plans_listed;
    moves_nothing = λ l. rw (needs_refused (rw (needs_number_is o o') at l));
  }

  module _ (image : List ℕ) (table : List ℤ) (image' : List ℕ) (table' : List ℤ) where
    abbrev number : ℕ
    number = pair_open_refusal o o' (length image) (length table) (length image') (length table')

    open_listed : OneOf (0 ∷ open_numbers) number
    unfolding pair_open_refusal listed
    open_listed =
        answered_append (OneOf (0 ∷ open_numbers)) (pair_plan_tests o o') _ (pair_numbered o o')
        (one_of_more (0 ∷ needs_numbers) (18 ∷ []) _ plans_listed) (one_of_tests open_numbers _ (refl, (refl, tt)))

    opens_refused : (left : List ℕ × List ℕ) → (0 < number → left ≡ (image, image')) → PairOpenRefuses o o' image table image' table' left
    opens_refused left kept = record {
      numbered = rw (open_number_is o o' image table image' table') open_listed;
      moves_nothing = λ l.
          let some : 0 < number = rw (open_number_is o o' image table image' table') at l in
          rw (refused_pair o o' image table image' table' some, kept some, refused_tables o o' image table image' table' some);
    }

    pub open_refuses : PairOpenRefuses o o' image table image' table' (pair_images o o' image table image' table')
    open_refuses = opens_refused _ (refused_images o o' image table image' table')

    pub open_within_refuses : (b b' : ℕ) → PairOpenRefuses o o' image table image' table' (pair_found o o' image table image' table' b b')
    open_within_refuses b b' = opens_refused _ (λ some. refused_found o o' image table image' table' some b b')

    -- the opening's number by what it needs
    by_needs : (pair_opened o o' image table image' table').refusal
        ≡ short_of (pair_needs o o') (length image) (length table) (length image') (length table')
    by_needs = open_number_is o o' image table image' table' ∙ sym (short_is o o' _ _ _ _)

    pub needs_says : PairNeedsSays o o' image table image' table'
    unfolding short_of first_failing
    needs_says =
        let a = pair_needs o o' in
        record {
          refused = λ l. by_needs ∙ when_refused a.refusal _ _ l;
          short = λ none lent.
              by_needs ∙ when_accepted a.refusal _ _ none
              ∙ either_gives 18 _ _
              (⊎_map (lent_short (length image) a.image0 (length table) a.cells0)
              (lent_short (length image') a.image1 (length table') a.cells1) lent);
          enough = λ none i t i' t'.
              by_needs ∙ when_accepted a.refusal _ _ none
              ∙ rw (le-ltb _ a.image0 i, le-ltb _ a.cells0 t, le-ltb _ a.image1 i', le-ltb _ a.cells1 t');
        }

-- ---- writing

module _ (p : Pair) (q : Request) where
  write_listed : OneOf (0 ∷ write_numbers) (pair_write_refusal p q)
  unfolding pair_write_refusal pair_tests listed
  write_listed =
      let asked = request_numbers (state_of_rank p q.task) (file_request p q) (λ r. listed (0 ∷ write_numbers) r ≡ true) refl refl refl in
      one_of_tests write_numbers _ (refl, (refl, (refl, (refl, (refl, (refl, (refl, (refl, asked))))))))

  pub write_judged : PairSessionJudged p (pair_write_refusal p q)
  unfolding pair_write_refusal
  write_judged =
      let low : Other 14 = under (omega arith) in
      pair_session_judged p _ (low, request_numbers (state_of_rank p q.task) (file_request p q) Other low (under (omega arith)) (under (omega arith)))

  pub write_refuses : PairWriteRefuses p q (pair_after_write p q)
  write_refuses = record { numbered = write_listed; moves_nothing = refused_left p q }

  pub write_within_refuses : (b b' : ℕ) → PairWriteRefuses p q (pair_write_found p q b b')
  write_within_refuses b b' = record { numbered = write_listed; moves_nothing = write_refused p q b b' }

  pub empty_write : length q.bytes ≡ 0 → pair_after_write p q ≡ p
  unfolding pair_after_write
  empty_write none =
      ap (λ (st : State). cond (eqb (pair_write_refusal p q) 0) (with_state p q.task st) p)
      (empty_keeps (state_of_rank p q.task) (file_request p q) none)
      ∙ either_is (eqb (pair_write_refusal p q) 0) _ p (λ (r : Pair). r) (put_back p (second? p q.task)) refl

-- ---- closing

module _ (p : Pair) where
  close_listed : OneOf (0 ∷ record_numbers) (pair_close_refusal p)
  unfolding pair_close_refusal pair_tests listed
  close_listed = one_of_tests record_numbers _ (refl, (refl, (refl, (refl, (refl, (refl, (refl, tt)))))))

  pub close_judged : PairSessionJudged p (pair_closed p).refusal
  unfolding pair_close_refusal pair_tests
  close_judged = rw (pair_close_number p) (pair_session_judged p [] tt)

  closes_refused : (left : List ℕ × List ℕ) → (0 < pair_close_refusal p → left ≡ (p.first.image, p.second.image)) → PairCloseRefuses p left
  closes_refused left kept = record {
    numbered = rw (pair_close_number p) close_listed;
    moves_nothing = λ l. let some : 0 < pair_close_refusal p = rw (pair_close_number p) at l in rw (refused_closed p some, kept some);
  }

  pub close_refuses : PairCloseRefuses p (pair_close_images p)
  close_refuses = closes_refused _ (closed.refused_images p)

  pub close_within_refuses : (b b' : ℕ) → PairCloseRefuses p (pair_close_found p b b')
  close_within_refuses b b' = closes_refused _ (λ some. closed.refused_found p some b b')

-- ---- sessions of which one is marked closed

module _ (p : Pair) (flagged : Not (p.first.session.closed ≡ 0) ⊎ Not (p.second.session.closed ≡ 0)) where
  refused_17 : (q : Request) → pair_write_refusal p q ≡ 17
  refused_17 q =
      (write_judged p q).number_17.1 (λ good. ⊎_elim (λ no. no good.0.not_closed) (λ no. no good.1.not_closed) flagged)

  kept_17 : (q : Request) → pair_after_write p q ≡ p
  kept_17 q = refused_left p q (omega (arith, refused_17 q))

  all_17 : (qs : List Request) → pair_refusals p qs ≡ replicate (length qs) 17
  all_17 [] = refl
  all_17 (q ∷ qs) = ap₂ ◌∷◌ (refused_17 q) (ap (λ (r : Pair). pair_refusals r qs) (kept_17 q) ∙ all_17 qs)

  all_kept : (qs : List Request) → pair_writes p qs ≡ p
  all_kept [] = refl
  all_kept (q ∷ qs) = ap (λ (r : Pair). pair_writes r qs) (kept_17 q) ∙ all_kept qs

  pub flag_ends : PairEnded p
  flag_ends = record {
    no_write = all_17;
    stays = all_kept;
    no_close = (close_judged p).number_17.1 (λ good. ⊎_elim (λ no. no good.0.not_closed) (λ no. no good.1.not_closed) flagged);
  }

pub closed_ends : (p : Pair) → (pair_closed p).refusal ≡ 0 → PairEnded (after_pair_close p)
closed_ends p e =
    let set : (pair_closed p).session0.closed ≡ 1 = ap (λ (a : PairClosed). a.session0.closed) (accepted_closed p (sym (pair_close_number p) ∙ e)) in
    flag_ends (after_pair_close p) (inl (λ none. omega (arith, set)))

pub pair_refusals_hold : PairRefusals
pair_refusals_hold = record {
  load_refuses = load_refuses;
  chunk_refuses = chunk_refuses;
  part_refuses = part_refuses;
  total_refuses = total_refuses;
  read_refuses = read_refuses;
  needs_refuses = needs_refuses;
  open_refuses = open_refuses;
  open_within_refuses = open_within_refuses;
  write_refuses = write_refuses;
  write_within_refuses = write_within_refuses;
  close_refuses = close_refuses;
  close_within_refuses = close_within_refuses;
  chunk_judged = chunk_judged;
  total_judged = total_judged;
  read_judged = read_judged;
  write_judged = write_judged;
  close_judged = close_judged;
  part_number = part_number;
  needs_says = needs_says;
  empty_write = empty_write;
  flag_ends = flag_ends;
  closed_ends = closed_ends;
}
