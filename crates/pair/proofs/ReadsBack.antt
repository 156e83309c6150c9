-- What is read of a pair by global rank, with the records and the tables that loading handed back, is what the two files say, and what is refused
-- gets its own number.
use mathlib.Core.Path.{◌≡◌, refl, sym, ap, ap₂, subst, ◌∙◌}
use mathlib.Core.Bool.{Bool, true, false, cond}
use mathlib.Core.List.{List, []}
use Prim.Native.Nat.{ℕ, ◌+◌, ◌-◌, ◌≤◌, ◌<◌, min}
use native.Mathlib.Omega.{arith}
use lib.Dec.{eqb}
use lib.IntN.{ℤ}
use lib.ListN.{length, take, drop}
use borrow.Author.Tests.{lt-ltb, le-ltb}
use Rattle.lists.specs.Splice.{splice}
use Rattle.lists.proofs.Below.{all_of}
use Rattle.format.specs.declared.head.File.{File}
use Rattle.format.specs.declared.head.File.TheVariants.{First, Second}
use Rattle.format.specs.declared.loaded.ByteCount.{ByteCount}
use Rattle.format.specs.declared.loaded.Loaded.{Loaded}
use Rattle.format.specs.declared.loaded.LoadAnswer.{LoadAnswer}
use Rattle.format.specs.declared.loaded.Part.{Part}
use Rattle.format.specs.Refusals.{first_failing}
use Rattle.format.specs.Record.{rank_of}
use Rattle.format.specs.Container.{Contents, IsContainer}
use Rattle.format.specs.Load.{load_refusal, load_table}
use Rattle.format.specs.Reads.{Container, container_of, loaded_from, loaded_tests, read_tests, chunks_used, chunk_bytes, chunk_refusal, chunk_part}
use Rattle.format.specs.Reads.{chunk_place, part_answer, stream_of, total_of, total_answer, read_refusal, read_answer, read_output}
use Rattle.format.proofs.Refusals.{first_passes, first_fails, both_pass, when_accepted, number_is}
use Rattle.format.proofs.Stripes.{rank_made, count_made}
use Rattle.format.proofs.Every.{few, loaded_is, lists_are}
use Rattle.format.proofs.LoadedRecords.{loaded_numbered}
use Rattle.format.proofs.Readable.{read_numbered}
use Rattle.container.specs.Format.{ReadsBack, RefusesBack}
use Rattle.container.proofs.Refusing.{total_number, part_there}
use Rattle.container.proofs.ReadsBack.{reads_back, refuses_back}
use Rattle.pairs.specs.declared.PairLoaded.{PairLoaded}
use Rattle.pairs.specs.declared.PairPart.{PairPart}
use Rattle.pairs.specs.Ranks.{none_lacking}
use Rattle.pairs.specs.Mapping.{file_of_rank}
use Rattle.pairs.specs.Load.{pair_loaded}
use Rattle.pairs.specs.Reads.{LoadedPair, loaded_pair, pair_from, tasks₀, tasks₁, ranks₀, ranks₁, second?, file_there, task_there, loaded_pair_tests}
use Rattle.pairs.specs.Reads.{pair_read_tests, pair_chunk_refusal, pair_chunk, pair_part, pair_total, pair_read_refusal, pair_read_answer, pair_read_output}
use Rattle.pairs.proofs.Ranks.{found_there, comes_there}
use Rattle.pairs.proofs.Records.{loaded_pair_numbered, loaded_pair_passes}
use Rattle.pair_reads.proofs.Finding.{pair_read_numbered, chunk_asked}
use Rattle.pair.specs.Format.{IsPair, PairReadsBack, PairRefusesBack, ranks, file_says, task_of}
use Rattle.pair.proofs.Accepts.{number, load_number, parts_pass, answer_is, tables_are, own_answer}

-- ---- a read by rank, and the file's own read of its task

-- what a rank is answered is what a task of one file is
record SameAs (l : LoadedPair) (r : ℕ) (c : Container) (task : ℕ) : Type 0 where
  chunks : (k : ℕ) → pair_chunk_refusal l r k ≡ chunk_refusal c task k
  parts : (k : ℕ) → pair_chunk l r k ≡ chunk_part c task k
  places : (k : ℕ) → chunk_refusal c task k ≡ 0
      → pair_part l r k
      ≡ record { refusal = 0; file = file_of_rank (second? l r); start = (part_answer c task k).start; length = (part_answer c task k).length }
  totals : pair_total l r ≡ total_answer c task
  answers : (at : ℕ) (out : List ℕ) → pair_read_answer l r at out ≡ read_answer c task at out
  outputs : (at : ℕ) (out : List ℕ) → pair_read_output l r at out ≡ read_output c task at out

module _ (l : LoadedPair) (r : ℕ) (passes : first_failing (loaded_pair_tests l) ≡ 0) where
  below_passes : r < tasks₀ l + tasks₁ l → first_failing (pair_read_tests l r) ≡ 0
  unfolding pair_read_tests first_failing
  below_passes b =
      first_passes (loaded_pair_tests l) _ (loaded_pair_numbered l) passes ∙ rw (lt-ltb r (tasks₀ l + tasks₁ l) b)

  above_fails : tasks₀ l + tasks₁ l ≤ r → first_failing (pair_read_tests l r) ≡ 14
  unfolding pair_read_tests first_failing
  above_fails b =
      first_passes (loaded_pair_tests l) _ (loaded_pair_numbered l) passes ∙ rw (le-ltb r (tasks₀ l + tasks₁ l) b)

  module _ (b : r < tasks₀ l + tasks₁ l) (own : first_failing (read_tests (file_there l r) (task_there l r)) ≡ 0) where
    chunk_same : (k : ℕ) → pair_chunk_refusal l r k ≡ chunk_refusal (file_there l r) (task_there l r) k
    unfolding chunk_refusal
    chunk_same k =
        chunk_asked l r k (below_passes b)
        ∙ sym (first_passes (read_tests (file_there l r) (task_there l r)) _ (read_numbered _ _) own)

    place_same : (at : ℕ) → pair_read_refusal l r at ≡ read_refusal (file_there l r) (task_there l r) at
    unfolding pair_read_refusal read_refusal
    place_same at =
        first_passes (pair_read_tests l r) _ (pair_read_numbered l r) (below_passes b)
        ∙ sym (first_passes (read_tests (file_there l r) (task_there l r)) _ (read_numbered _ _) own)

    same_there : SameAs l r (file_there l r) (task_there l r)
    unfolding pair_chunk chunk_part pair_part part_answer pair_total total_answer pair_read_answer read_answer pair_read_output read_output
    same_there =
        let c = file_there l r in
        let task = task_there l r in
        record {
          chunks = chunk_same;
          parts = λ k. ap (λ (x : ℕ). cond (eqb x 0) (chunk_bytes c task k) []) (chunk_same k);
          places = λ k e.
              when_accepted _ _ _ (chunk_same k ∙ e)
              ∙ ap (λ (x : Part). record { refusal = 0; file = file_of_rank (second? l r); start = x.start; length = x.length })
              (sym (when_accepted (chunk_refusal c task k) (chunk_place c task k) _ e));
          totals = when_accepted _ _ _ (below_passes b) ∙ sym (when_accepted _ _ _ own);
          answers = λ at out.
              ap (λ (x : ℕ).
              cond (eqb x 0) (record { refusal = 0; bytes = min (length out) (total_of c task - at) }) (record { refusal = x; bytes = 0 }))
              (place_same at);
          outputs = λ at out.
              ap (λ (x : ℕ). cond (eqb x 0) (splice out 0 (take (length out) (drop at (stream_of c task)))) out) (place_same at);
        }

-- ---- what loading hands back of one file

module _ (f : File) (image : List ℕ) (table : List ℤ) (c : IsContainer f image) (e : load_refusal f image (length table) ≡ 0) where
  own_tasks : (loaded_from f image table).loaded.head.n ≡ c.says.n
  own_tasks = ap (λ (l : Loaded). l.head.n) (loaded_is f image c.says c.first c.second table e)

  own_ranks : (i : ℕ) → i < c.says.n → rank_of (loaded_from f image table).lists i ≡ c.says.rank i
  own_ranks i l =
      let s = c.says in
      rw (lists_are f image s c.first c.second table e)
      (rank_made s.n s.rank s.size s.count (few f image s c.first c.second) i l)

  own_counts : (i : ℕ) → i < c.says.n → chunks_used (loaded_from f image table) (i + 1) ≡ c.says.count i
  unfolding chunks_used
  own_counts i l =
      let s = c.says in
      let back : i + 1 - 1 ≡ i = omega arith in
      rw (back, lists_are f image s c.first c.second table e)
      (count_made s.n s.rank s.size s.count (few f image s c.first c.second) i l)

-- ---- and of both

module _ (image image' : List ℕ) (table table' : List ℤ) (p : IsPair image image') (one : load_refusal First image (length table) ≡ 0)
    (two : load_refusal Second image' (length table') ≡ 0) where
  abbrev loaded : LoadedPair
  loaded = loaded_pair (loaded_from First image table) (loaded_from Second image' table')

  abbrev file_in : Bool → Container
  file_in second = cond second loaded.second loaded.first

  abbrev says_in : Bool → Contents
  says_in second = cond second p.second.says p.first.says

  abbrev image_in : Bool → List ℕ
  image_in second = cond second image' image

  image_is : (second : Bool) → (file_in second).image ≡ image_in second
  image_is true = refl
  image_is false = refl

  reads : (second : Bool) → ReadsBack (image_in second) (says_in second) (file_in second)
  reads true = reads_back Second image' p.second.says p.second.first p.second.second table' two
  reads false = reads_back First image p.first.says p.first.first p.first.second table one

  refuses : (second : Bool) → RefusesBack (says_in second) (file_in second)
  refuses true = refuses_back Second image' p.second.says p.second.first p.second.second table' two
  refuses false = refuses_back First image p.first.says p.first.first p.first.second table one

  counts_in : (second : Bool) (i : ℕ) → i < (says_in second).n → chunks_used (file_in second) (i + 1) ≡ (says_in second).count i
  counts_in true i l = own_counts Second image' table' p.second two i l
  counts_in false i l = own_counts First image table p.first one i l

  -- ---- its tests pass

  some_task : (second : Bool) → 0 < (says_in second).n
  some_task true = p.second.first.bounds.tasks_range.0
  some_task false = p.first.first.bounds.tasks_range.0

  task_passes : (second : Bool) (i : ℕ) → i < (says_in second).n → first_failing (read_tests (file_in second) (i + 1)) ≡ 0
  task_passes second i l = sym (total_number (file_in second) (i + 1)) ∙ ap (λ (a : ByteCount). a.refusal) ((reads second).totals i l)

  file_passes : (second : Bool) → first_failing (loaded_tests (file_in second)) ≡ 0
  unfolding read_tests
  file_passes second =
      (both_pass (loaded_tests (file_in second)) _ (loaded_numbered (file_in second)) (task_passes second 0 (some_task second))).0

  carried_there : (second : Bool) (r i : ℕ) → i < (says_in second).n → (says_in second).rank i ≡ r
      → (i < cond second (tasks₁ loaded) (tasks₀ loaded)) × (cond second (ranks₁ loaded) (ranks₀ loaded) i ≡ r)
  carried_there true r i l e =
      (omega (arith, own_tasks Second image' table' p.second two), own_ranks Second image' table' p.second two i l ∙ e)
  carried_there false r i l e =
      (omega (arith, own_tasks First image table p.first one), own_ranks First image table p.first one i l ∙ e)

  size_is : tasks₀ loaded + tasks₁ loaded ≡ ranks p
  size_is = ap₂ (λ (x y : ℕ). x + y) (own_tasks First image table p.first one) (own_tasks Second image' table' p.second two)

  none_lacks : none_lacking (tasks₀ loaded) (tasks₁ loaded) (ranks₀ loaded) (ranks₁ loaded) ≡ true
  unfolding none_lacking
  none_lacks =
      all_of _ (tasks₀ loaded + tasks₁ loaded)
      (λ r b.
      let x = p.mapped.entries r (omega (arith, size_is)) in
      let (l, e) = carried_there x.second r x.i x.exists x.carries in
      comes_there _ _ (ranks₀ loaded) (ranks₁ loaded) x.second r x.i l e)

  passes : first_failing (loaded_pair_tests loaded) ≡ 0
  passes = loaded_pair_passes loaded (file_passes false) (file_passes true) none_lacks

  -- ---- by rank

  module _ (r : ℕ) (b : r < ranks p) where
    abbrev second : Bool
    second = (p.mapped.entries r b).second

    abbrev i : ℕ
    i = (p.mapped.entries r b).i

    abbrev exists : i < (says_in second).n
    exists = (p.mapped.entries r b).exists

    found : (second? loaded r ≡ second) × (task_there loaded r ≡ i + 1)
    found =
        let (l, e) = carried_there second r i exists (p.mapped.entries r b).carries in
        let (which, task) = found_there _ _ _ _ none_lacks second r i l e in
        (which, ap (λ (i : ℕ). i + 1) task)

    file_is : file_there loaded r ≡ file_in second
    file_is = ap file_in found.0

    used : chunks_used (file_there loaded r) (task_there loaded r) ≡ (says_in second).count i
    used = ap₂ chunks_used file_is found.1 ∙ counts_in second i exists

    same : SameAs loaded r (file_in second) (i + 1)
    same =
        let own = subst (λ (c : Container). first_failing (read_tests c (task_there loaded r)) ≡ 0) (sym file_is)
        (subst (λ (t : ℕ). first_failing (read_tests (file_in second) t) ≡ 0) (sym found.1) (task_passes second i exists)) in
        subst (λ (c : Container). SameAs loaded r c (i + 1)) file_is
        (subst (λ (t : ℕ). SameAs loaded r (file_there loaded r) t) found.1 (same_there loaded r passes (omega (arith, size_is)) own))

    place_is : (k : ℕ) → chunk_refusal (file_in second) (i + 1) k ≡ 0
        → ((pair_part loaded r k).file ≡ cond second 1 0)
        × (take (pair_part loaded r k).length (drop (pair_part loaded r k).start (image_in second)) ≡ pair_chunk loaded r k)
    place_is k e =
        let at = same.places k e in (
          ap (λ (x : PairPart). x.file) at ∙ ap file_of_rank found.0,
          ap (λ (x : PairPart). take x.length (drop x.start (image_in second))) at
              ∙ ap (λ (xs : List ℕ). take (part_answer (file_in second) (i + 1) k).length (drop (part_answer (file_in second) (i + 1) k).start xs))
              (sym (image_is second))
              ∙ part_there (file_in second) (i + 1) k
              ∙ sym (same.parts k),
        )

  loaded_reads : PairReadsBack p loaded
  loaded_reads = record {
    chunks = λ r k b u. (same r b).chunks (k + 1) ∙ (reads (second r b)).chunks (i r b) k (exists r b) u;
    parts = λ r k b u. (same r b).parts (k + 1) ∙ (reads (second r b)).parts (i r b) k (exists r b) u;
    places = λ r k b u. place_is r b (k + 1) ((reads (second r b)).chunks (i r b) k (exists r b) u);
    totals = λ r b. (same r b).totals ∙ (reads (second r b)).totals (i r b) (exists r b);
    copied = λ r at out b h. (same r b).answers at out ∙ (reads (second r b)).copied (i r b) at out (exists r b) h;
    streams = λ r at out b h. (same r b).outputs at out ∙ (reads (second r b)).streams (i r b) at out (exists r b) h;
  }

  -- a rank that there is not
  none_there : (r chunk at : ℕ) (out : List ℕ) → ranks p ≤ r
      → (pair_chunk_refusal loaded r chunk ≡ 14) × ((pair_total loaded r).refusal ≡ 14) × ((pair_read_answer loaded r at out).refusal ≡ 14)
  unfolding pair_chunk_refusal pair_total pair_read_refusal pair_read_answer
  none_there r chunk at out past =
      let e = above_fails loaded r passes (omega (arith, size_is)) in
      let some : 0 < first_failing (pair_read_tests loaded r) = omega arith in (
        first_fails (pair_read_tests loaded r) _ some ∙ e,
        number_is (first_failing (pair_read_tests loaded r)) _ _ (λ (a : ByteCount). a.refusal) refl refl ∙ e,
        number_is (pair_read_refusal loaded r at) _ _ (λ (a : ByteCount). a.refusal) refl refl
            ∙ first_fails (pair_read_tests loaded r) _ some
            ∙ e,
      )

  loaded_refuses : PairRefusesBack p loaded
  loaded_refuses = record {
    no_rank = none_there;
    no_chunk = λ r chunk b none. (same r b).chunks chunk ∙ (refuses (second r b)).no_chunk (i r b) chunk (exists r b) none;
    past_total = λ r at out b past.
        ap (λ (a : ByteCount). a.refusal) ((same r b).answers at out) ∙ (refuses (second r b)).past_total (i r b) at out (exists r b) past;
  }

-- ---- what a load of the pair hands back is that

module _ (image image' : List ℕ) (table table' : List ℤ) where
  pair_is : number image image' table table' ≡ 0
      → pair_from image image' table table' ≡ loaded_pair (loaded_from First image table) (loaded_from Second image' table')
  pair_is e =
      let (one, two, mapped) = parts_pass image image' (length table) (length table') e in
      ap₂ (λ (a : PairLoaded) (t : List ℤ × List ℤ).
      loaded_pair (container_of First a.loaded0 a.lists0 image t.0) (container_of Second a.loaded1 a.lists1 image' t.1))
      (answer_is image image' table table' e) (tables_are image image' table table' e)
      ∙ sym (ap₂ (λ (a a' : LoadAnswer).
      loaded_pair (container_of First a.loaded a.lists image (load_table First image table))
      (container_of Second a'.loaded a'.lists image' (load_table Second image' table')))
      (own_answer First image table one) (own_answer Second image' table' two))

  -- the chunks that a rank has in use
  pub pair_used : (p : IsPair image image') → (pair_loaded image image' table table').refusal ≡ 0 → (r : ℕ) (b : r < ranks p)
      → chunks_used (file_there (pair_from image image' table table') r) (task_there (pair_from image image' table table') r)
      ≡ (file_says p r b).count (task_of p r b)
  pair_used p accepted r b =
      let e = sym (load_number image image' table table') ∙ accepted in
      let (one, two, mapped) = parts_pass image image' (length table) (length table') e in
      subst (λ (l : LoadedPair). chunks_used (file_there l r) (task_there l r) ≡ (file_says p r b).count (task_of p r b)) (sym (pair_is e))
      (used image image' table table' p one two r b)

  pub pair_reads_back : (p : IsPair image image') → (pair_loaded image image' table table').refusal ≡ 0
      → PairReadsBack p (pair_from image image' table table') × PairRefusesBack p (pair_from image image' table table')
  pair_reads_back p accepted =
      let e = sym (load_number image image' table table') ∙ accepted in
      let (one, two, mapped) = parts_pass image image' (length table) (length table') e in
      subst (λ (l : LoadedPair). PairReadsBack p l × PairRefusesBack p l) (sym (pair_is e))
      (loaded_reads image image' table table' p one two, loaded_refuses image image' table table' p one two)
