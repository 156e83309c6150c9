-- What a session accepted is read back, from every start: its closed image, followed by anything, is loaded again, and each task gives back the bytes accepted from
-- it, in order.
use mathlib.Core.Path.{◌≡◌, sym, ap, ap₂, ◌∙◌}
use mathlib.Core.List.{List, ◌++◌}
use Prim.Native.Nat.{ℕ, ◌+◌, ◌-◌, ◌*◌, ◌≤◌, ◌<◌, min}
use native.Mathlib.Omega.{arith}
use lib.IntN.{ℤ}
use lib.ListN.{length, take, drop}
use lib.Seq.{take-take}
use Rattle.lists.specs.Below.{join_below}
use Rattle.endian.specs.Signed.{natural}
use Rattle.lists.specs.Splice.{splice}
use Rattle.lists.proofs.Below.{length_joined, join_cong, part_cong}
use Rattle.format.specs.Layout.{meta1_end, data_start, chunk_start, meta2_start, meta2_end}
use Rattle.format.proofs.Chunks.{meta1_before_data, chunk_after_data, chunk_before_meta2}
use Rattle.format.proofs.Power.{blocksize_facts}
use Rattle.format.specs.declared.head.Head.{Head}
use Rattle.format.specs.Meta1.{prefix_at, prefix_length, padded, last_at, meta1_front}
use Rattle.format.specs.Meta2.{value_index}
use Rattle.format.specs.Record.{entry, cell, count_of, start_of}
use Rattle.format.proofs.Stripes.{count_at_place}
use Rattle.format.specs.declared.session.Session.{Session}
use Rattle.format.specs.Session.{State}
use Rattle.format.specs.Open.{Opening, tasks, open_head, open_session}
use Rattle.format.specs.Write.{Request, accepted}
use Rattle.format.specs.Close
use Rattle.format.specs.Close.{close_refusal, close_image}
use Rattle.format.proofs.Opening.{PlanHolds, plan_holds}
use Rattle.tally.specs.Simulates.{bytes_in, stream_in}
use Rattle.tally.proofs.Simulating.{layout_of, RunSimulates}
use Rattle.tally.proofs.Steps.{passes, run_simulates}
use Rattle.tally.proofs.Streams.{stream_all, front_kept}
use Rattle.format.specs.Container.{Contents, HasMeta1, HasMeta2, Says}
use Rattle.format.specs.Load.{load_refusal, load_answer, load_table}
use Rattle.format.specs.Reads.{Container, chunk_part, loaded_from}
use Rattle.container.specs.Format.{bytes_said, stream_said, total_said, ReadsBack}
use Rattle.container.specs.Start.{VersionsFit, Start, IsStart, HasFront, after, answers_to}
use Rattle.container.specs.WrittenBack.{contents_of, GivesBack, LoadsAgain, WrittenBack}
use Rattle.container.proofs.Refusing.{load_number, close_number}
use Rattle.format.proofs.Every.{every, says}
use Rattle.container.proofs.ReadsBack.{reads_back}
use Rattle.format.proofs.Stream.{counted}
use Rattle.format.proofs.Stored.{prefix_back}
use Rattle.format.proofs.About.{prefix_found, prefix_bytes}
use Rattle.container.proofs.ClosedParts.{Closable, closed_as, length_said, closed_front, closed_as_long, image_long, between_kept, closed_most, in_range, same_part}
use Rattle.container.proofs.Closed.{has_meta1, has_meta2}
use Rattle.format.proofs.Opens.{plan_passes}

-- ---- the chunks of a session are those of its closed image

module _ (o : Opening) (st : State) (c : Closable o st) (tail : List ℕ) (i k : ℕ) (l : i < tasks o)
    (u : k < count_of st.lists i) where
  abbrev size : ℕ
  size = natural (cell st.table (value_index (tasks o) k i))

  abbrev start : ℕ
  start = chunk_start o.plan.blocksize (tasks o) (entry o.sizes) (i + 1) (k + 1)

  in_state : bytes_in st i k ≡ take size (drop start st.image)
  unfolding bytes_in open_head start_of
  in_state =
      ap₂ (λ (h : Head) (sizes : ℕ → ℕ).
      take (natural (cell st.table (value_index h.n k i))) (drop (start_of h sizes (i + 1) (k + 1)) st.image))
      c.head_is c.sizes_are

  -- they lie between META1 and META2
  low : meta1_end (tasks o) ≤ start
  low =
      let f = blocksize_facts o.plan.blocksize c.plan.block in
      omega (
        arith,
        meta1_before_data o.plan.blocksize (tasks o) (omega arith),
        chunk_after_data o.plan.blocksize (tasks o) (entry o.sizes) (i + 1) (k + 1),
      )

  top : start + size ≤ meta2_start o.plan.blocksize (tasks o) (entry o.sizes) (Close.maxchunks_used st)
  top =
      let z : i + 1 - 1 ≡ i = omega arith in
      let there : k + 1 ≤ Close.maxchunks_used st = omega (arith, closed_most o st c i l) in
      let inside =
      chunk_before_meta2 o.plan.blocksize (tasks o) (entry o.sizes) (i + 1) (k + 1) (Close.maxchunks_used st)
      (omega arith) (omega arith) (omega arith) there in
      omega (arith, (in_range o st c i k l u).2, rw z at inside)

  pub bytes_same : bytes_said (closed_as st tail) (contents_of o st) i k ≡ bytes_in st i k
  unfolding bytes_said meta2_end
  bytes_same =
      let fits : start + size ≤ length (close_image st) = omega (arith, top, image_long o st c) in
      same_part o st c tail start size (omega (arith, top))
      ∙ part_cong size start (close_image st) st.image 0 fits (rw (← closed_as_long o st c) fits)
      (λ j h. between_kept o st c (start + j) (omega (arith, low)) (omega (arith, top)))
      ∙ sym in_state

-- ---- any list of writes from a start

module _ (s : Start) (is : IsStart s) (front : HasFront s) (qs : List Request) where
  abbrev o : Opening
  o = s.plan

  abbrev st : State
  st = after s qs

  last : RunSimulates (open_session o) (entry o.sizes) s.book s.state qs
  last = run_simulates is.follows qs

  plan : PlanHolds o
  plan = plan_holds o (plan_passes o is.good)

  front_there : take (last_at (tasks o)) st.image ≡ meta1_front (open_head o) (entry o.ranks) (entry o.sizes) o.prefix
  unfolding open_session open_head meta1_end
  front_there =
      let n : ℕ = tasks o in
      let d : ℕ = data_start o.plan.blocksize n in
      let f = blocksize_facts o.plan.blocksize plan.block in
      let less : last_at n ≤ d = omega (arith, meta1_before_data o.plan.blocksize n (omega arith)) in
      sym (take-take (last_at n) d st.image less)
      ∙ ap (take (last_at n)) (front_kept is.follows qs)
      ∙ take-take (last_at n) d s.state.image less
      ∙ front

  pub closable : Closable o st
  unfolding close_refusal open_session
  closable = record {
    plan = plan;
    head_is = ap (λ (s : Session). s.head) last.follows.session_is;
    sizes_are = last.follows.sizes_are;
    passes = passes last.follows;
    front = front_there;
  }

  abbrev bytes : ℕ → List ℕ
  bytes i = s.bytes (i + 1) ++ accepted (i + 1) qs (answers_to s qs)

  stream_accepted : (i : ℕ) → i < tasks o → stream_in st i ≡ bytes i
  unfolding open_session open_head
  stream_accepted i l =
      stream_all (open_session o) (entry o.sizes) _ (layout_of (open_session o) (entry o.sizes) plan.block) is.follows
      is.follows.image_long qs i l
      ∙ ap (λ (x : List ℕ). x ++ accepted (i + 1) qs (answers_to s qs)) (is.streams i l)

  module _ (fit : VersionsFit o) (tail : List ℕ) (cells : List ℤ) (room : tasks o * Close.maxchunks_used st ≤ length cells) where
    abbrev whole : List ℕ
    whole = closed_as st tail

    abbrev contents : Contents
    contents = contents_of o st

    abbrev loaded : Container
    loaded = loaded_from o.file whole cells

    one : HasMeta1 o.file whole contents
    one = has_meta1 o st closable tail fit

    two : HasMeta2 whole contents
    two = has_meta2 o st closable tail

    loads : load_refusal o.file whole (length cells) ≡ 0
    loads = every o.file whole contents one two (length cells) room

    said : Says o.file contents (load_answer o.file whole cells).loaded (load_answer o.file whole cells).lists cells (load_table o.file whole cells)
    said = says o.file whole contents one two cells loads

    back : ReadsBack whole contents loaded
    back = reads_back o.file whole contents one two cells loads

    pub stream_said_back : (i : ℕ) → i < tasks o → stream_said whole contents i ≡ bytes i
    unfolding stream_said stream_in
    stream_said_back i l = join_cong _ _ _ (λ k u. bytes_same o st closable tail i k l u) ∙ stream_accepted i l

    pub total_said_back : (i : ℕ) → i < tasks o → total_said contents i ≡ length (bytes i)
    unfolding total_said stream_said
    total_said_back i l =
        sym (length_joined (bytes_said whole contents i) (λ k. contents.written k i) (contents.count i) (λ k u. back.whole i k l u))
        ∙ ap length (stream_said_back i l)

    count_is : (i : ℕ) → i < tasks o → count_of loaded.lists i ≡ count_of st.lists i
    count_is i l =
        let few = plan.few_tasks in
        sym (count_at_place loaded.lists i (omega arith)) ∙ said.recorded.listed.counts i l

    gives_back : GivesBack loaded (tasks o) bytes
    unfolding stream_said
    gives_back = record {
      allowed = λ i k l u. back.chunks i k l (rw (count_is i l) at u);
      parts = λ i l.
          ap (λ (n : ℕ). join_below n (λ k. chunk_part loaded (i + 1) (k + 1))) (count_is i l)
          ∙ join_cong _ _ _ (λ k u. back.parts i k l u) ∙ stream_said_back i l;
      totals = λ i l. back.totals i l ∙ ap (counted 0) (total_said_back i l);
      copied = λ i p out l h.
          back.copied i p out l (rw (total_said_back i l) h) ∙ ap (λ (t : ℕ). counted 0 (min (length out) (t - p))) (total_said_back i l);
      streams = λ i p out l h.
          back.streams i p out l (rw (total_said_back i l) h)
          ∙ ap (λ (s : List ℕ). splice out 0 (take (length out) (drop p s))) (stream_said_back i l);
    }

    prefix_there : take prefix_length (drop prefix_at whole) ≡ padded o.prefix
    unfolding open_head
    prefix_there =
        prefix_back (open_head o) (entry o.ranks) (entry o.sizes) o.prefix whole plan.prefix_short (closed_front o st closable tail)

    loads_again : LoadsAgain o st bytes whole cells
    loads_again = record {
      accepts = load_number o.file whole cells ∙ loads;
      recorded = said.recorded;
      gives_back = gives_back;
      ends = back.ends ∙ ap (counted 0) (sym (length_said o st closable));
      prefixed =
          back.prefixed
          ∙ ap (λ (n : ℕ). record { refusal = 0; start = prefix_at; length = n }) (prefix_found whole o.prefix plan.prefix_short prefix_there);
      prefix_bytes = prefix_bytes whole o.prefix plan.prefix_short prefix_there;
    }

pub written_back : (s : Start) → IsStart s → HasFront s → VersionsFit s.plan → (qs : List Request) → WrittenBack s qs
written_back s is front fit qs = record {
  closes = close_number (after s qs) ∙ (closable s is front qs).passes;
  loads = λ tail cells room. loads_again s is front qs fit tail cells room;
}
