-- Demand 1 of a pair (W-204): every entry answers 0 or one of its own numbers, a refused call changes nothing of either file, and 17, 18 and 19 are given
-- exactly where a record breaks a fact, is lent too little, or has a cell that breaks its rule.
use Rattle.std.specs.Prelude.{◌≡◌, cond, List, [], ◌∷◌, ◌++◌, ◌⊎◌, ℕ, ◌+◌, ◌*◌, ◌≤◌, ◌<◌, eqb, ℤ, length, take, drop, replicate}
use Rattle.lists.specs.Logic.{Exactly, Not}
use Rattle.format.specs.declared.session.Session.{Session}
use Rattle.format.specs.declared.loaded.Loaded.{Loaded}
use Rattle.format.specs.Record.{rank_of, size_of, no_lists}
use Rattle.format.specs.Session.{state_of, no_session}
use Rattle.format.specs.Loaded.{no_loaded}
use Rattle.format.specs.Open.{Opening}
use Rattle.format.specs.Write.{Request}
use Rattle.format.specs.Accepted.{LongEnough, GoodSession, GoodLoaded, GoodCells, bytes_for}
use Rattle.pairs.specs.Open.{pair_needs, pair_opened, pair_found, pair_images, pair_tables}
use Rattle.pairs.specs.Sessions.{Pair, pair_of, pair_write_refusal, pair_after_write, pair_write_found, pair_writes, pair_refusals, pair_closed, pair_close_images, pair_close_found}
use Rattle.pairs.specs.Load.{pair_loaded, pair_load_tables}
use Rattle.pairs.specs.Reads.{LoadedPair, pair_chunk_refusal, pair_chunk, pair_part, pair_total, pair_read_answer, pair_read_output}
use Rattle.container.specs.Refusing.{Refuses, load_numbers, chunk_numbers, read_numbers, total_numbers, open_numbers, needs_numbers, write_numbers, record_numbers}

-- ---- each entry: both records of zeros marked closed, lengths and counts of 0, file 0's empty part, and all lent memory as it came. Its numbers are those
-- of a single file's entry, and 25 when loading

abbrev pub PairLoadRefuses : List ℕ → List ℕ → List ℤ → List ℤ → Type 0
PairLoadRefuses image image' table table' =
    let a = pair_loaded image image' table table' in
    Refuses {A = Loaded × List ℕ × Loaded × List ℕ × (List ℤ × List ℤ)} (load_numbers ++ (25 ∷ [])) a.refusal
    (a.loaded0, a.lists0, a.loaded1, a.lists1, pair_load_tables image image' table table') (no_loaded, no_lists, no_loaded, no_lists, (table, table'))

abbrev pub PairChunkRefuses : LoadedPair → ℕ → ℕ → Type 0
PairChunkRefuses p rank chunk = Refuses chunk_numbers (pair_chunk_refusal p rank chunk) (pair_chunk p rank chunk) []

abbrev pub PairPartRefuses : LoadedPair → ℕ → ℕ → Type 0
PairPartRefuses p rank chunk =
    let a = pair_part p rank chunk in Refuses {A = ℕ × ℕ × ℕ} chunk_numbers a.refusal (a.file, a.start, a.length) (0, 0, 0)

abbrev pub PairTotalRefuses : LoadedPair → ℕ → Type 0
PairTotalRefuses p rank = Refuses total_numbers (pair_total p rank).refusal (pair_total p rank).bytes 0

abbrev pub PairReadRefuses : LoadedPair → ℕ → ℕ → List ℕ → Type 0
PairReadRefuses p rank place out =
    let a = pair_read_answer p rank place out in
    Refuses {A = ℕ × List ℕ} read_numbers a.refusal (a.bytes, pair_read_output p rank place out) (0, out)

abbrev pub PairNeedsRefuses : Opening → Opening → Type 0
PairNeedsRefuses o o' =
    let a = pair_needs o o' in
    Refuses {A = ℕ × ℕ × ℕ × ℕ} needs_numbers a.refusal (a.image0, a.cells0, a.image1, a.cells1) (0, 0, 0, 0)

-- of the calls that store into the images, with the images or the sessions that they leave: once of the call itself, and once within a budget for each
-- image (W-212)
abbrev pub PairOpenRefuses : Opening → Opening → List ℕ → List ℤ → List ℕ → List ℤ → List ℕ × List ℕ → Type 0
PairOpenRefuses o o' image table image' table' left =
    let a = pair_opened o o' image table image' table' in
    Refuses {A = Session × List ℕ × Session × List ℕ × (List ℕ × List ℕ) × (List ℤ × List ℤ)} open_numbers a.refusal
    (a.session0, a.lists0, a.session1, a.lists1, left, pair_tables o o' image table image' table')
    (no_session, no_lists, no_session, no_lists, (image, image'), (table, table'))

abbrev pub PairWriteRefuses : Pair → Request → Pair → Type 0
PairWriteRefuses p q left = Refuses write_numbers (pair_write_refusal p q) left p

abbrev pub PairCloseRefuses : Pair → List ℕ × List ℕ → Type 0
PairCloseRefuses p left =
    let a = pair_closed p in
    Refuses {A = Session × Session × ℕ × ℕ × (List ℕ × List ℕ)} record_numbers a.refusal
    (a.session0, a.session1, a.length0, a.length1, left) (p.first.session, p.second.session, 0, 0, (p.first.image, p.second.image))

-- ---- what 17, 18 and 19 mean: "17 for file 0, then for file 1, then 18, 19 for file 0, then for file 1"

-- an answer of write, close or the reads, whatever came in: sound are both records together, lent enough and agreed is each file by itself
pub record PairJudged (sound long agreed long' agreed' : Type 0) (r : ℕ) : Type 0 where
  pub number_17 : Exactly (r ≡ 17) (Not sound)
  pub number_18 : Exactly (r ≡ 18) (sound × (Not long ⊎ (long × agreed × Not long')))
  pub number_19 : Exactly (r ≡ 19) (sound × long × (Not agreed ⊎ (agreed × long' × Not agreed')))

-- no rank below mapping_size is lacking: a task of either file carries it
abbrev pub AllThere : ℕ → List ℕ → ℕ → List ℕ → Type 0
AllThere n lists m lists' =
    (r : ℕ) → r < n + m → ((i : ℕ) × (i < n) × (rank_of lists i ≡ r)) ⊎ ((i : ℕ) × (i < m) × (rank_of lists' i ≡ r))

abbrev pub PairSessionJudged : Pair → ℕ → Type 0
PairSessionJudged p =
    let st = p.first in
    let st' = p.second in
    let h = st.session.head in
    let h' = st'.session.head in
    PairJudged
    (GoodSession st.file st.session st.lists
    × GoodSession st'.file st'.session st'.lists
    × AllThere h.n st.lists h'.n st'.lists)
    (LongEnough h.blocksize h.n (size_of st.lists) st.session.planned st.image st.table
    × (bytes_for h.blocksize h.n (size_of st.lists) st.session.planned + (4 + 8 * (h.n + h'.n)) ≤ length st.image))
    (GoodCells h st.lists st.session.planned st.table)
    (LongEnough h'.blocksize h'.n (size_of st'.lists) st'.session.planned st'.image st'.table)
    (GoodCells h' st'.lists st'.session.planned st'.table)

-- a loaded record's 18 does not count the mapping
abbrev pub PairLoadedJudged : LoadedPair → ℕ → Type 0
PairLoadedJudged p =
    let c = p.first in
    let c' = p.second in
    let h = c.loaded.head in
    let h' = c'.loaded.head in
    PairJudged
    (GoodLoaded c.file c.loaded c.lists
    × GoodLoaded c'.file c'.loaded c'.lists
    × AllThere h.n c.lists h'.n c'.lists)
    (LongEnough h.blocksize h.n (size_of c.lists) c.loaded.maxchunks c.image c.table)
    (GoodCells h c.lists c.loaded.maxchunks c.table)
    (LongEnough h'.blocksize h'.n (size_of c'.lists) c'.loaded.maxchunks c'.image c'.table)
    (GoodCells h' c'.lists c'.loaded.maxchunks c'.table)

-- ---- what ties one answer to another

-- what an opening needs says just how the opening is answered, whatever that is lent
pub record PairNeedsSays (o o' : Opening) (image : List ℕ) (table : List ℤ) (image' : List ℕ) (table' : List ℤ) : Type 0 where
  pub refused : 0 < (pair_needs o o').refusal → (pair_opened o o' image table image' table').refusal ≡ (pair_needs o o').refusal
  pub short : (pair_needs o o').refusal ≡ 0
      → ((length image < (pair_needs o o').image0) ⊎ (length table < (pair_needs o o').cells0))
      ⊎ ((length image' < (pair_needs o o').image1) ⊎ (length table' < (pair_needs o o').cells1))
      → (pair_opened o o' image table image' table').refusal ≡ 18
  pub enough : (pair_needs o o').refusal ≡ 0 → (pair_needs o o').image0 ≤ length image → (pair_needs o o').cells0 ≤ length table
      → (pair_needs o o').image1 ≤ length image' → (pair_needs o o').cells1 ≤ length table'
      → (pair_opened o o' image table image' table').refusal ≡ 0

-- a part's place in the image that it names: the bytes there are the part, whatever records, images and tables came in
abbrev pub PairPartThere : LoadedPair → ℕ → ℕ → Type 0
PairPartThere p rank chunk =
    let a = pair_part p rank chunk in
    take a.length (drop a.start (cond (eqb a.file 0) p.first.image p.second.image)) ≡ pair_chunk p rank chunk

-- the end of a pair's sessions: every write and every close answers 17, and both stay as they are
pub record PairEnded (p : Pair) : Type 0 where
  pub no_write : (qs : List Request) → pair_refusals p qs ≡ replicate (length qs) 17
  pub stays : (qs : List Request) → pair_writes p qs ≡ p
  pub no_close : (pair_closed p).refusal ≡ 17

-- a pair of sessions as a close leaves it
abbrev pub after_pair_close : Pair → Pair
after_pair_close p =
    pair_of (state_of p.first.file (pair_closed p).session0 p.first.lists (pair_close_images p).0 p.first.table)
    (state_of p.second.file (pair_closed p).session1 p.second.lists (pair_close_images p).1 p.second.table)

pub record PairRefusals : Type 0 where
  pub load_refuses : (image image' : List ℕ) → (table table' : List ℤ) → PairLoadRefuses image image' table table'
  pub chunk_refuses : (p : LoadedPair) → (rank chunk : ℕ) → PairChunkRefuses p rank chunk
  pub part_refuses : (p : LoadedPair) → (rank chunk : ℕ) → PairPartRefuses p rank chunk
  pub total_refuses : (p : LoadedPair) → (rank : ℕ) → PairTotalRefuses p rank
  pub read_refuses : (p : LoadedPair) → (rank place : ℕ) → (out : List ℕ) → PairReadRefuses p rank place out
  pub needs_refuses : (o o' : Opening) → PairNeedsRefuses o o'
  pub open_refuses : (o o' : Opening) → (image : List ℕ) → (table : List ℤ) → (image' : List ℕ) → (table' : List ℤ)
      → PairOpenRefuses o o' image table image' table' (pair_images o o' image table image' table')
  pub open_within_refuses : (o o' : Opening) → (image : List ℕ) → (table : List ℤ) → (image' : List ℕ) → (table' : List ℤ) → (b b' : ℕ)
      → PairOpenRefuses o o' image table image' table' (pair_found o o' image table image' table' b b')
  pub write_refuses : (p : Pair) → (q : Request) → PairWriteRefuses p q (pair_after_write p q)
  pub write_within_refuses : (p : Pair) → (q : Request) → (b b' : ℕ) → PairWriteRefuses p q (pair_write_found p q b b')
  pub close_refuses : (p : Pair) → PairCloseRefuses p (pair_close_images p)
  pub close_within_refuses : (p : Pair) → (b b' : ℕ) → PairCloseRefuses p (pair_close_found p b b')
  -- 17, 18 and 19
  pub chunk_judged : (p : LoadedPair) → (rank chunk : ℕ) → PairLoadedJudged p (pair_chunk_refusal p rank chunk)
  pub total_judged : (p : LoadedPair) → (rank : ℕ) → PairLoadedJudged p (pair_total p rank).refusal
  pub read_judged : (p : LoadedPair) → (rank place : ℕ) → (out : List ℕ) → PairLoadedJudged p (pair_read_answer p rank place out).refusal
  pub write_judged : (p : Pair) → (q : Request) → PairSessionJudged p (pair_write_refusal p q)
  pub close_judged : (p : Pair) → PairSessionJudged p (pair_closed p).refusal
  -- what ties one answer to another
  pub part_number : (p : LoadedPair) → (rank chunk : ℕ) → (pair_part p rank chunk).refusal ≡ pair_chunk_refusal p rank chunk
  pub needs_says : (o o' : Opening) → (image : List ℕ) → (table : List ℤ) → (image' : List ℕ) → (table' : List ℤ)
      → PairNeedsSays o o' image table image' table'
  pub empty_write : (p : Pair) → (q : Request) → length q.bytes ≡ 0 → pair_after_write p q ≡ p
  pub flag_ends : (p : Pair) → Not (p.first.session.closed ≡ 0) ⊎ Not (p.second.session.closed ≡ 0) → PairEnded p
  pub closed_ends : (p : Pair) → (pair_closed p).refusal ≡ 0 → PairEnded (after_pair_close p)
