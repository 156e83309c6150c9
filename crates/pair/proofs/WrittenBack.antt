-- What both sessions of a pair accepted is read back by global rank, from every start: their closed images, each followed by anything, are loaded
-- again.
use mathlib.Core.Path.{◌≡◌, refl, sym, ap, ap₂, subst, ◌∙◌}
use mathlib.Core.Bool.{Bool, true, false, cond}
use mathlib.Core.List.{List, ◌++◌, append_assoc}
use Prim.Native.Nat.{ℕ, ◌+◌, ◌-◌, ◌*◌, ◌^◌, ◌≤◌, ◌<◌, min}
use native.Mathlib.Omega.{arith}
use lib.Dec.{eqb}
use lib.IntN.{ℤ, pos}
use lib.ListN.{length, take, drop, length-append}
use lib.Seq.{length-take-le, take_at, drop_at}
use Rattle.lists.specs.Below.{join_below}
use Rattle.lists.specs.Splice.{splice}
use Rattle.lists.proofs.Below.{join_cong}
use Rattle.format.specs.declared.head.File.{File}
use Rattle.format.specs.declared.head.File.TheVariants.{First, Second}
use Rattle.format.specs.declared.session.Session.{Session}
use Rattle.format.specs.Record.{entry, ranks_of, is_big}
use Rattle.format.specs.Session.{State}
use Rattle.format.specs.Open.{Opening, tasks, open_head, open_session}
use Rattle.format.specs.Write.{Request, accepted}
use Rattle.format.specs.Close.{maxchunks_used, close_answer, close_image}
use Rattle.format.specs.Container.{Contents, HasMeta1, HasMeta2}
use Rattle.format.specs.Reads.{chunks_used}
use Rattle.format.proofs.Record.{suits_file}
use Rattle.format.proofs.Judging.{suits_holds}
use Rattle.format.proofs.Stream.{counted}
use Rattle.tally.proofs.Effects.{ranks_written}
use Rattle.container.specs.Start.{HasFront, VersionsFit, after, answers_to}
use Rattle.container.specs.Format.{stream_said, total_said}
use Rattle.container.specs.WrittenBack.{contents_of}
use Rattle.container.proofs.ClosedParts.{closed_as, end_in, image_long, length_said}
use Rattle.container.proofs.Closed.{has_meta1, has_meta2}
use Rattle.container.proofs.Rooms.{room}
use Rattle.container.proofs.WrittenBack.{closable, stream_said_back, total_said_back}
use Rattle.pairs.specs.Ranks.{local_rank}
use Rattle.pairs.specs.Mapping.{mapping_length, mapping}
use Rattle.pairs.specs.Sessions.{Pair, tasks₀, tasks₁, ranks₀, ranks₁, size, second?, pair_close_refusal, pair_closed, pair_close_images}
use Rattle.pairs.specs.Reads.{LoadedPair, pair_from, file_there, task_there, pair_chunk}
use Rattle.pairs.specs.Load.{pair_loaded}
use Rattle.pairs.proofs.Ranks.{carried}
use Rattle.pairs.proofs.Mapping.{size_back, file_back, task_back}
use Rattle.mapping.proofs.Entries.{length_mapping}
use Rattle.pair_closing.proofs.Closed.{mapping_bytes}
use Rattle.pair.specs.Start.{PairStart, IsPairStart, pair, task, start_of_rank, pair_after}
use Rattle.pair.specs.Room.{file_of, in_file}
use Rattle.pair.specs.Format.{HasMapping, IsPair, PairReadsBack, mapping_at, ranks, file_image, file_says, task_of}
use Rattle.pair.specs.WrittenBack.{HasFronts, AllVersionsFit, PairGivesBack, bytes_of, PairLoadsAgain, PairWrittenBack}
use Rattle.pair.proofs.Names.{start_in, is_start, tasks_in_hold, named}
use Rattle.pair.proofs.Rooms.{after_is, pair_room}
use Rattle.pair.proofs.Accepts.{accepts_pairs}
use Rattle.pair.proofs.ReadsBack.{pair_used, pair_reads_back}
use Rattle.pair.proofs.Closes.{pair_close_number, closed_bytes, pair_close_stores}
use Rattle.pair.proofs.Given.{accepted_there}

-- the closed image of one file, followed by anything: a container that says what its session holds, with these bytes of each task
record OwnFile (o : Opening) (f : File) (st : State) (tail : List ℕ) (bytes : ℕ → List ℕ) : Type 0 where
  meta1 : HasMeta1 f (closed_as st tail) (contents_of o st)
  meta2 : HasMeta2 (closed_as st tail) (contents_of o st)
  ends : (close_answer st).length ≡ end_in o st
  inside : end_in o st ≤ length (close_image st)
  streams : (i : ℕ) → i < tasks o → stream_said (closed_as st tail) (contents_of o st) i ≡ bytes i
  totals : (i : ℕ) → i < tasks o → total_said (contents_of o st) i ≡ length (bytes i)

module _ (s : PairStart) (is : IsPairStart s) (qs : List Request) where
  abbrev p : Pair
  p = pair_after s qs

  abbrev n : ℕ
  n = tasks₀ (pair s)

  abbrev m : ℕ
  m = tasks₁ (pair s)

  abbrev rank : ℕ → ℕ
  rank = ranks₀ (pair s)

  abbrev rank' : ℕ → ℕ
  rank' = ranks₁ (pair s)

  -- the plan of a file, and the bytes of a task of it, those already there and those accepted from it
  abbrev plan_in : Bool → Opening
  plan_in second = (start_in s second).plan

  abbrev bytes_there : Bool → ℕ → List ℕ
  bytes_there second i =
      (start_in s second).bytes (i + 1) ++ accepted (i + 1) (in_file s second qs) (answers_to (start_in s second) (in_file s second qs))

  -- which of the pair's files it is
  abbrev file_named : Bool → File
  file_named second = cond second Second First

  state_file : (second : Bool) → (start_in s second).state.file ≡ file_named second
  state_file true = is.in_second_file
  state_file false = is.in_first

  plan_file : (second : Bool) → (plan_in second).file ≡ file_named second
  unfolding open_session open_head
  plan_file second =
      let o = plan_in second in
      sym (suits_file o.file (open_head o) (suits_holds o.file (open_head o) refl refl))
      ∙ suits_file (start_in s second).state.file (open_head o) (is_start s is second).follows.file_suits
      ∙ state_file second

  -- ---- each file by itself

  module _ (fronts : HasFronts s) (fit : AllVersionsFit s) where
    front_in : (second : Bool) → HasFront (start_in s second)
    front_in true = fronts.1
    front_in false = fronts.0

    fit_in : (second : Bool) → VersionsFit (plan_in second)
    fit_in true = fit.1
    fit_in false = fit.0

    own_file : (second : Bool) (tail : List ℕ) (cells : List ℤ) → tasks (plan_in second) * maxchunks_used (file_of p second) ≤ length cells
        → OwnFile (plan_in second) (file_named second) (file_of p second) tail (bytes_there second)
    own_file second tail cells =
        subst (λ (st : State).
        tasks (plan_in second) * maxchunks_used st ≤ length cells → OwnFile (plan_in second) (file_named second) st tail (bytes_there second))
        (sym (after_is s is qs second))
        (λ enough.
        let t = start_in s second in
        let own = in_file s second qs in
        let it = is_start s is second in
        let st = after t own in
        let c = closable t it (front_in second) own in
        record {
          meta1 =
              subst (λ (f : File). HasMeta1 f (closed_as st tail) (contents_of t.plan st)) (plan_file second)
              (has_meta1 t.plan st c tail (fit_in second));
          meta2 = has_meta2 t.plan st c tail;
          ends = length_said t.plan st c;
          inside = image_long t.plan st c;
          streams = stream_said_back t it (front_in second) own (fit_in second) tail cells enough;
          totals = total_said_back t it (front_in second) own (fit_in second) tail cells enough;
        })

  -- ---- the mapping, by the start's ranks

  session_in : (second : Bool) → (file_of p second).session ≡ (start_in s second).state.session
  session_in second =
      ap (λ (st : State). st.session) (after_is s is qs second) ∙ (room (start_in s second) (is_start s is second) (in_file s second qs)).kept.session

  ranks_in : (second : Bool) → ranks_of (file_of p second).lists ≡ ranks_of (start_in s second).state.lists
  ranks_in second =
      ap (λ (st : State). ranks_of st.lists) (after_is s is qs second) ∙ ranks_written (in_file s second qs) (start_in s second).state

  abbrev big : Bool
  big = eqb s.first.plan.plan.order 1

  big_is : is_big s.first.state.session.head ≡ big
  unfolding open_session open_head
  big_is = ap (λ (x : Session). is_big x.head) is.first.follows.session_is

  mapping_same : mapping_bytes p ≡ mapping n m rank rank' big
  mapping_same =
      let one = session_in false in
      let two = session_in true in
      (λ i. mapping (one i).head.n (two i).head.n (entry (ranks_in false i)) (entry (ranks_in true i)) (is_big (one i).head))
      ∙ ap (mapping n m rank rank') big_is

  mapping_long : length (mapping_bytes p) ≡ mapping_length n m
  mapping_long = ap length mapping_same ∙ length_mapping n m rank rank' big

  few : n + m < 2 ^ 31
  few =
      omega (
        arith,
        tasks_in_hold s is false,
        tasks_in_hold s is true,
        is.first.good.bounds.tasks_range.1,
        is.second.good.bounds.tasks_range.1,
      )

  abbrev says : Bool → Contents
  says second = contents_of (plan_in second) (file_of p second)

  carried_in : (second : Bool) (i r : ℕ) → (i < cond second m n) × (cond second rank' rank i ≡ r)
      → (i < (cond second (says true) (says false)).n) × ((cond second (says true) (says false)).rank i ≡ r)
  carried_in true i r (l, e) =
      let k : i < tasks s.second.plan = omega (arith, tasks_in_hold s is true) in (k, sym (is.ranks_second i k) ∙ e)
  carried_in false i r (l, e) =
      let k : i < tasks s.first.plan = omega (arith, tasks_in_hold s is false) in (k, sym (is.ranks_first i k) ∙ e)

  module _ (tail : List ℕ) (ends : (close_answer p.first).length ≡ mapping_at (says false))
      (inside : mapping_at (says false) ≤ length (close_image p.first)) where
    abbrev image : List ℕ
    image = closed_as p.first (mapping_bytes p ++ tail)

    abbrev front : List ℕ
    front = take (close_answer p.first).length (close_image p.first)

    front_long : length front ≡ mapping_at (says false)
    front_long = length-take-le (close_answer p.first).length (close_image p.first) (omega arith) ∙ ends

    there : take (mapping_length n m) (drop (mapping_at (says false)) image) ≡ mapping n m rank rank' big
    there =
        ap (take (mapping_length n m)) (drop_at front (mapping_bytes p ++ tail) (mapping_at (says false)) front_long)
        ∙ take_at (mapping_bytes p) tail (mapping_length n m) mapping_long
        ∙ mapping_same

    has_mapping : HasMapping (says false) (says true) image
    unfolding mapping_length
    has_mapping =
        let at = mapping_at (says false) in
        record {
          fits = simp length-append (omega (arith, front_long, mapping_long, tasks_in_hold s is false, tasks_in_hold s is true));
          size_is = size_back n m rank rank' is.there few big image at there ∙ ap pos (ap₂ ◌+◌ (tasks_in_hold s is false) (tasks_in_hold s is true));
          entries = λ r l.
              let k : r < n + m = omega (arith, tasks_in_hold s is false, tasks_in_hold s is true) in
              let where-is = carried_in (second? (pair s) r) _ r (carried n m rank rank' is.there r k) in
              record {
                second = second? (pair s) r;
                i = local_rank n m rank rank' r;
                file_is = file_back n m rank rank' is.there few big image at there r k;
                task_is = task_back n m rank rank' is.there few big image at there r k;
                exists = where-is.0;
                carries = where-is.1;
              };
        }

  -- ---- what a rank was given

  module _ (r : ℕ) (l : r < size (pair s)) where
    abbrev second : Bool
    second = second? (pair s) r

    abbrev local : ℕ
    local = local_rank n m rank rank' r

    local_below : local < tasks (plan_in second)
    local_below = omega (arith, ((named s is).carries r l).1)

    given : bytes_there second local ≡ bytes_of s qs r
    given =
        let own = in_file s second qs in
        ap (λ (bytes : List ℕ). (start_of_rank s r).bytes (task s r) ++ bytes)
        (ap (accepted (task s r) own) (room (start_in s second) (is_start s is second) own).answered.as_tally
        ∙ sym (accepted_there s is r l qs (λ second. (start_in s second).book) (λ r l. refl))
        ∙ ap (accepted r qs) (sym (pair_room s is qs).answered.as_tally))

  -- ---- both files, loaded again

  module _ (fronts : HasFronts s) (fit : AllVersionsFit s) (tail tail' : List ℕ) (cells cells' : List ℤ)
      (enough : tasks s.first.plan * maxchunks_used p.first ≤ length cells)
      (enough' : tasks s.second.plan * maxchunks_used p.second ≤ length cells') where
    abbrev tail_in : Bool → List ℕ
    tail_in second = cond second tail' (mapping_bytes p ++ tail)

    abbrev whole : Bool → List ℕ
    whole second = closed_as (file_of p second) (tail_in second)

    own : (second : Bool) → OwnFile (plan_in second) (file_named second) (file_of p second) (tail_in second) (bytes_there second)
    own true = own_file fronts fit true tail' cells' enough'
    own false = own_file fronts fit false (mapping_bytes p ++ tail) cells enough

    mapped : HasMapping (says false) (says true) (whole false)
    mapped = has_mapping tail (own false).ends (own false).inside

    abbrev is_pair : IsPair (whole false) (whole true)
    is_pair = record {
      first = record { says = says false; first = (own false).meta1; second = (own false).meta2 };
      second = record { says = says true; first = (own true).meta1; second = (own true).meta2 };
      mapped = mapped;
    }

    accepts : (pair_loaded (whole false) (whole true) cells cells').refusal ≡ 0
    accepts = (accepts_pairs (whole false) (whole true) cells cells').every is_pair (enough, enough')

    abbrev loaded : LoadedPair
    loaded = pair_from (whole false) (whole true) cells cells'

    back : PairReadsBack is_pair loaded
    back = (pair_reads_back (whole false) (whole true) cells cells' is_pair accepts).0

    streams_in : (second : Bool) (i : ℕ) → i < tasks (plan_in second)
        → (stream_said (cond second (whole true) (whole false)) (cond second (says true) (says false)) i ≡ bytes_there second i)
        × (total_said (cond second (says true) (says false)) i ≡ length (bytes_there second i))
    streams_in true i l = ((own true).streams i l, (own true).totals i l)
    streams_in false i l = ((own false).streams i l, (own false).totals i l)

    module _ (r : ℕ) (l : r < size (pair s)) where
      below : r < ranks is_pair
      below = omega (arith, tasks_in_hold s is false, tasks_in_hold s is true)

      said : stream_said (file_image is_pair r below) (file_says is_pair r below) (task_of is_pair r below) ≡ bytes_of s qs r
      unfolding mapped has_mapping
      said = (streams_in (second r l) (local r l) (local_below r l)).0 ∙ given r l

      total_is : total_said (file_says is_pair r below) (task_of is_pair r below) ≡ length (bytes_of s qs r)
      unfolding mapped has_mapping
      total_is = (streams_in (second r l) (local r l) (local_below r l)).1 ∙ ap length (given r l)

      used_is : chunks_used (file_there loaded r) (task_there loaded r) ≡ (file_says is_pair r below).count (task_of is_pair r below)
      used_is = pair_used (whole false) (whole true) cells cells' is_pair accepts r below

    gives_back : PairGivesBack loaded (size (pair s)) (bytes_of s qs)
    unfolding stream_said
    gives_back = record {
      allowed = λ r k l u. back.chunks r k (below r l) (subst (λ (used : ℕ). k < used) (used_is r l) u);
      parts = λ r l.
          ap (λ (used : ℕ). join_below used (λ k. pair_chunk loaded r (k + 1))) (used_is r l)
          ∙ join_cong _ _ _ (λ k u. back.parts r k (below r l) u)
          ∙ said r l;
      totals = λ r l. back.totals r (below r l) ∙ ap (counted 0) (total_is r l);
      copied = λ r at out l h.
          back.copied r at out (below r l) (subst (λ (t : ℕ). at ≤ t) (sym (total_is r l)) h)
          ∙ ap (λ (t : ℕ). counted 0 (min (length out) (t - at))) (total_is r l);
      streams = λ r at out l h.
          back.streams r at out (below r l) (subst (λ (t : ℕ). at ≤ t) (sym (total_is r l)) h)
          ∙ ap (λ (bytes : List ℕ). splice out 0 (take (length out) (drop at bytes))) (said r l);
    }

    loads_again : PairLoadsAgain s qs (whole false) (whole true) cells cells'
    loads_again =
        let (one, two) = (accepts_pairs (whole false) (whole true) cells cells').says is_pair accepts in
        record { accepts = accepts; recorded = (one.recorded, two.recorded); mapped = mapped; gives_back = gives_back }

  -- ---- the sessions close

  closes : pair_close_refusal p ≡ 0
  unfolding pair_close_refusal
  closes = (pair_room s is qs).alive

  -- what is taken of the closed images is that
  first_whole : (tail : List ℕ) → take (pair_closed p).length0 (pair_close_images p).0 ++ tail ≡ closed_as p.first (mapping_bytes p ++ tail)
  first_whole tail =
      ap (λ (bytes : List ℕ). bytes ++ tail) (closed_bytes p closes)
      ∙ append_assoc (take (close_answer p.first).length (close_image p.first)) (mapping_bytes p) tail

  second_whole : (tail : List ℕ) → take (pair_closed p).length1 (pair_close_images p).1 ++ tail ≡ closed_as p.second tail
  second_whole tail =
      let stores = pair_close_stores p (pair_close_number p ∙ closes) in
      ap₂ (λ (k : ℕ) (bytes : List ℕ). take k bytes ++ tail) stores.length_1 stores.image_1

pub pair_written_back : (s : PairStart) → IsPairStart s → HasFronts s → AllVersionsFit s → (qs : List Request) → PairWrittenBack s qs
pair_written_back s is fronts fit qs = record {
  closes = pair_close_number (pair_after s qs) ∙ closes s is qs;
  loads = λ tail tail' cells cells' enough enough'.
      rw (first_whole s is qs tail, second_whole s is qs tail') (loads_again s is qs fronts fit tail tail' cells cells' enough enough');
}
