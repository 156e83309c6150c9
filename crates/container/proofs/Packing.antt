-- What packing a loaded container leaves in the second image is a container with its contents, and what is found of it where power goes.
use mathlib.Core.Path.{◌≡◌, refl, sym, ap, ◌∙◌}
use mathlib.Core.Bool.{Bool, true, false, cond}
use mathlib.Core.List.{List, [], ◌∷◌}
use mathlib.Core.Logic.{inl, inr}
use Prim.Native.Nat.{ℕ, zero, suc, ◌+◌, ◌*◌, ◌^◌, ◌≤◌, ◌<◌}
use native.Mathlib.Nat.{le_refl}
use native.Mathlib.Omega.{arith}
use lib.Dec.{eqb}
use lib.IntN.{ℤ, pos}
use lib.ListN.{length}
use lib.Signed.{mag}
use borrow.Author.Tests.{ne_eqb, eq-eqb, eqb-true}
use Rattle.lists.specs.Below.{sum_below, join_below, list_below}
use Rattle.lists.proofs.Below.{greatest_ge, greatest_at, length_list, get_or_list}
use Rattle.format.specs.Limits.{Sound}
use Rattle.format.specs.Layout.{meta1_end, meta2_start, meta2_end}
use Rattle.format.specs.declared.head.Head.{Head}
use Rattle.format.specs.declared.head.File.TheVariants.{Single}
use Rattle.format.specs.Meta1
use Rattle.format.specs.Meta2.{unused, value_index, least_count}
use Rattle.format.specs.Refusals.{first_failing}
use Rattle.format.specs.Record.{rank_of, order_of, is_big, record_tests}
use Rattle.format.specs.Accepted.{IsOrder, GoodLoaded}
use Rattle.format.specs.Container.{InBounds, HasMeta1, HasMeta2, value_of}
use Rattle.format.specs.declared.loaded.Loaded.{Loaded}
use Rattle.format.specs.Load.{load_refusal}
use Rattle.format.specs.Reads.{Container, loaded_tests, stream_of, total_of, loaded_from}
use Rattle.format.proofs.Refusals.{none_fails}
use Rattle.format.proofs.Chunks.{meta1_before_data, meta2_end_small, meta2_end_agree}
use Rattle.format.proofs.Rules.{value_index_lt}
use Rattle.format.proofs.Formats.{format_small, least_idle, least_one}
use Rattle.format.proofs.InBounds.{block_kept, sizes_kept}
use Rattle.format.proofs.LoadedRecords.{loaded_numbered}
use Rattle.format.proofs.Judging.{loaded_exactly}
use Rattle.format.proofs.Stripes.{rank_made}
use Rattle.format.proofs.Every.{head_said, every, loaded_is, lists_are, says}
use Rattle.format.proofs.Stored
use Rattle.format.proofs.Unclosed.{refused_1}
use Rattle.packs.specs.Pack
use Rattle.packs.proofs.Packed.{packed_passes, positive, total_small, total_fits, stream_long, count_one, most_one, packed_long}
use Rattle.packs.proofs.Packed.{tests_pass, image_is, nothing_yet, first_zero, found_whole}
use Rattle.packs.proofs.Standing.{plain, image_long, plain_part, plain_field, plain_front, plain_last, own_there, meta2_there, stream_there}
use Rattle.packs.proofs.Agreeing.{total_agrees, read_agrees, output_agrees, bytes_agree}
use Rattle.container.specs.Format.{bytes_said, stream_said, total_said}
use Rattle.container.specs.Packing.{packed_contents, VersionsHeld, LoadsPacked, Packs, PackCuts}
use Rattle.container.proofs.Refusing.{load_number}
use Rattle.container.proofs.ReadsBack.{reads_back, tests_back, stream_back, total_back}

module _ (c : Container) (second : List ℕ) (single : c.file ≡ Single) (e : Pack.pack_refusal c second ≡ 0) where
  abbrev h : Head
  h = c.loaded.head

  abbrev n : ℕ
  n = h.n

  abbrev most : ℕ
  most = Pack.packed_most c

  abbrev image : List ℕ
  image = Pack.pack_image c second

  pass : first_failing (Pack.pack_tests c) ≡ 0
  pass = tests_pass c second e

  good : GoodLoaded Single c.loaded c.lists
  unfolding loaded_tests record_tests
  good =
      rw single at
      ((loaded_exactly c.file c.loaded c.lists).0 (none_fails (loaded_tests c) (loaded_numbered c) (packed_passes c pass)).0)

  -- ---- META1

  bounds : InBounds h.blocksize n (rank_of c.lists) (Pack.packed_size c)
  bounds =
      let old = good.head.bounds in record {
        blocksize_power = old.blocksize_power;
        blocksize_range = old.blocksize_range;
        tasks_range = old.tasks_range;
        ranks_range = old.ranks_range;
        ranks_differ = old.ranks_differ;
        sizes_range = λ i l. (omega arith, omega (arith, total_small c pass i l));
      }

  sound : Sound h.blocksize n (list_below n (Pack.packed_size c))
  sound = record {
    block = block_kept bounds;
    tasks = bounds.tasks_range.1;
    listed = omega (arith, length_list (Pack.packed_size c) n);
    sized = sizes_kept bounds _ (λ i l. ap pos (get_or_list (Pack.packed_size c) n i 0 l));
  }

  end_small : Pack.packed_length c < 2 ^ 62
  unfolding Pack.packed_length
  end_small =
      rw (meta2_end_agree h.blocksize n _ (Pack.packed_size c) (λ i l. get_or_list (Pack.packed_size c) n i 0 l) most) at
      (meta2_end_small sound most (omega (arith, most_one c pass)))

  long : meta1_end n ≤ length image
  unfolding Pack.packed_length meta2_end meta2_start
  long = omega (arith, image_long c second e, meta1_before_data h.blocksize n (positive c pass))

  pub packed_meta1_is : VersionsHeld c → HasMeta1 Single image (packed_contents c)
  unfolding meta1_end Pack.packed_length meta2_end
  packed_meta1_is held =
      let big = is_big h in
      let field = plain_field c second e big in
      let front = plain_front c second e in
      let ends = plain_last c second e in
      let known = good.head.format in
      let few = bounds.tasks_range in
      let block = bounds.blocksize_range in
      record {
        bounds = bounds;
        long = long;
        magic_is = plain_part c second e 0 4 (omega arith) (inl (omega arith)) ∙ Stored.magic_back _ _ _ [] (plain c second e) (omega arith) front;
        order_is = field 4 4 (omega arith) (inl (omega arith)) ∙ Stored.order_back _ _ _ _ _ (omega arith) front;
        version_is = field 4 8 (omega arith) (inl (omega arith)) ∙ Stored.version_back _ _ _ _ _ (omega arith) front held.0;
        patch_is = field 4 12 (omega arith) (inl (omega arith)) ∙ Stored.patch_back _ _ _ _ _ (omega arith) front held.1;
        format_is = field 4 16 (omega arith) (inl (omega arith)) ∙ Stored.format_back _ _ _ _ _ (omega arith) front (format_small known);
        format_known = known;
        blocksize_is = field 4 20 (omega arith) (inl (omega arith)) ∙ Stored.blocksize_back _ _ _ _ _ (omega arith) front (omega arith);
        tasks_are = field 4 24 (omega arith) (inl (omega arith)) ∙ Stored.tasks_back _ _ _ _ _ (omega arith) front (omega arith);
        files_are =
            field 4 28 (omega arith) (inl (omega arith)) ∙ Stored.files_back _ _ _ _ _ (omega arith) front (omega (arith, good.head.files))
            ∙ ap pos good.head.files;
        file_number_is =
            field 4 32 (omega arith) (inl (omega arith)) ∙ Stored.file_number_back _ _ _ _ _ (omega arith) front (omega (arith, good.head.file))
            ∙ ap pos good.head.file;
        ranks_are = λ i l.
            field 8 (Meta1.rank_at i) (omega arith) (inr (omega arith))
            ∙ Stored.rank_back _ _ _ _ _ (omega arith) front i l (omega (arith, bounds.ranks_range i l));
        sizes_are = λ i l.
            field 8 (Meta1.size_at n i) (omega arith) (inr (omega arith))
            ∙ Stored.size_back _ _ _ _ _ (omega arith) front i l (omega (arith, bounds.sizes_range i l));
        maxchunks_is =
            field 4 (Meta1.last_at n) (omega arith) (inr (omega arith))
            ∙ Stored.maxchunks_back _ _ _ n (plain c second e) ends (omega (arith, most_one c pass));
        maxchunks_range = omega (arith, most_one c pass);
        start_is =
            field 8 (Meta1.start_at n) (omega arith) (inr (omega arith))
            ∙ Stored.start_back _ _ _ n (plain c second e) ends (omega (arith, end_small));
      }

  -- ---- META2

  least : (i : ℕ) → least_count h.format ≤ Pack.packed_count c i
  least i = go (eqb (Pack.total c i) 0)
    where
      go : (t : Bool) → least_count h.format ≤ cond t (least_count h.format) 1
      go true = le_refl _
      go false = least_one _

  value_there : (i k : ℕ) → i < n → k < most → mag (Pack.packed_cell c i) < 2 ^ 63
      → value_of image (packed_contents c) k i ≡ Pack.packed_cell c i
  value_there i k l u small =
      let first : value_index n k i ≡ i = let z : k ≡ 0 = omega (arith, most_one c pass) in rw z (omega arith) in
      rw (meta2_there c second e)
      (Stored.value_back (is_big h) n most (Pack.packed_count c) (Pack.packed_cell c) (value_index n k i) (value_index_lt n most k i l u) (rw first small)
      ∙ ap (Pack.packed_cell c) first)

  cell_used : (i : ℕ) → 0 < Pack.packed_count c i → Pack.packed_cell c i ≡ pos (Pack.total c i)
  cell_used i u = rw (ne_eqb (Pack.packed_count c i) 0 (λ z. omega arith))

  cell_unused : (i : ℕ) → Pack.packed_count c i ≡ 0 → Pack.packed_cell c i ≡ unused
  cell_unused i z = rw (eq-eqb (Pack.packed_count c i) 0 z)

  pub packed_meta2 : HasMeta2 image (packed_contents c)
  unfolding Pack.packed_length
  packed_meta2 =
      let range = greatest_ge (Pack.packed_count c) n in
      record {
        fits = image_long c second e;
        counts_are = λ i l.
            rw (meta2_there c second e)
            (Stored.count_back (is_big h) n most (Pack.packed_count c) (Pack.packed_cell c) i l (omega (arith, count_one c pass i)));
        counts_range = range;
        counts_idle = λ four i l. least_idle (least i) four;
        greatest = greatest_at (Pack.packed_count c) n bounds.tasks_range.0;
        used_first = λ i k l u.
            let same = cell_used i (omega arith) in
            value_there i k l (omega (arith, range i l)) (rw same (omega (arith, total_small c pass i l))) ∙ same;
        used_fit = λ i k l u. total_fits c pass i;
        others_unused = λ i k l u h.
            let same = cell_unused i (omega (arith, most_one c pass)) in
            value_there i k l h (rw same (omega arith)) ∙ same;
      }

  -- ---- the streams

  none_counted : (i : ℕ) → Pack.packed_count c i ≡ 0 → Pack.total c i ≡ 0
  none_counted i = go (eqb (Pack.total c i) 0) refl
    where
      go : (t : Bool) → eqb (Pack.total c i) 0 ≡ t → cond t (least_count h.format) 1 ≡ 0 → Pack.total c i ≡ 0
      go true none z = eqb-true _ _ none
      go false some z = absurd (omega arith)

  total_said_back : (i : ℕ) → total_said (packed_contents c) i ≡ Pack.total c i
  unfolding total_said sum_below
  total_said_back i = go (Pack.packed_count c i) refl
    where
      go : (k : ℕ) → Pack.packed_count c i ≡ k → sum_below k (λ j. Pack.total c i) ≡ Pack.total c i
      go zero z = sym (none_counted i z)
      go (suc zero) z = omega arith
      go (suc (suc k)) z = absurd (omega (arith, count_one c pass i))

  stream_said_back : (i : ℕ) → i < n → stream_said image (packed_contents c) i ≡ stream_of c (i + 1)
  unfolding stream_said join_below bytes_said
  stream_said_back i l = go (Pack.packed_count c i) refl
    where
      empty : (xs : List ℕ) → length xs ≡ 0 → xs ≡ []
      empty [] z = refl
      empty (x ∷ xs) z = absurd (omega arith)

      go : (k : ℕ) → Pack.packed_count c i ≡ k → join_below k (bytes_said image (packed_contents c) i) ≡ stream_of c (i + 1)
      go zero z = sym (empty (stream_of c (i + 1)) (stream_long c pass i l ∙ none_counted i z))
      go (suc zero) z = stream_there c second e (omega (arith, most_one c pass, greatest_ge (Pack.packed_count c) n i l)) i l
      go (suc (suc k)) z = absurd (omega (arith, count_one c pass i))

  -- ---- loaded again

  order_same : order_of (is_big h) ≡ h.order
  order_same = go h.order good.head.order
    where
      go : (order : ℕ) → IsOrder order → order_of (eqb order 1) ≡ order
      go order (inl z) = rw z
      go order (inr z) = rw z

  head_same : head_said Single (packed_contents c) ≡ h
  head_same = λ i. record {
    order = order_same i;
    version = h.version;
    patch = h.patch;
    format = h.format;
    blocksize = h.blocksize;
    n = h.n;
    files = sym good.head.files i;
    file = sym good.head.file i;
  }

  module _ (held : VersionsHeld c) (cells : List ℤ) (room : n * most ≤ length cells) where
    abbrev loaded : Container
    loaded = loaded_from Single image cells

    one : HasMeta1 Single image (packed_contents c)
    one = packed_meta1_is held

    two : HasMeta2 image (packed_contents c)
    two = packed_meta2

    loads : load_refusal Single image (length cells) ≡ 0
    loads = every Single image (packed_contents c) one two (length cells) room

    streams : (i : ℕ) → i < n → stream_of loaded (i + 1) ≡ stream_of c (i + 1)
    streams i l = stream_back Single image (packed_contents c) one two cells loads i l ∙ stream_said_back i l

    totals : (i : ℕ) → i < n → total_of loaded (i + 1) ≡ total_of c (i + 1)
    totals i l = total_back Single image (packed_contents c) one two cells loads i l ∙ total_said_back i

    heads : loaded.loaded.head ≡ h
    heads = ap (λ (l : Loaded). l.head) (loaded_is Single image (packed_contents c) one two cells loads) ∙ head_same

    ranks : (i : ℕ) → i < n → rank_of loaded.lists i ≡ rank_of c.lists i
    ranks i l =
        ap (λ (l : List ℕ). rank_of l i) (lists_are Single image (packed_contents c) one two cells loads)
        ∙ rank_made n (rank_of c.lists) (Pack.packed_size c) (Pack.packed_count c) bounds.tasks_range.1 i l

    loads_packed : LoadsPacked c image cells
    unfolding Pack.packed_length
    loads_packed =
        let before = packed_passes c pass in
        let behind = tests_back Single image (packed_contents c) one two cells loads in
        let tasks = ap (λ (h : Head). h.n) heads in
        record {
          accepts = load_number Single image cells ∙ loads;
          recorded = (says Single image (packed_contents c) one two cells loads).recorded;
          streams = streams;
          totals = total_agrees c loaded before behind tasks streams totals;
          answers = read_agrees c loaded before behind tasks streams totals;
          outputs = output_agrees c loaded before behind tasks streams totals;
          ends = (reads_back Single image (packed_contents c) one two cells loads).ends;
          again = bytes_agree c loaded heads ranks totals streams (own_there c second e) (most_one c pass);
        }

pub packs : (c : Container) (second : List ℕ) → c.file ≡ Single → VersionsHeld c → Pack.pack_refusal c second ≡ 0 → Packs c second
packs c second single held e = record {
  bytes = image_is c second e;
  as_many = packed_long c (tests_pass c second e);
  own_fields_hold = own_there c second e;
  meta1 = packed_meta1_is c second single e held;
  meta2 = packed_meta2 c second single e;
  loads = loads_packed c second single e held;
}

pub pack_cuts : (c : Container) (second : List ℕ) → Pack.pack_refusal c second ≡ 0 → PackCuts c second
pack_cuts c second e = record {
  before = nothing_yet c second e;
  during = λ b some last cells.
      load_number Single (Pack.pack_found c second b) cells
      ∙ refused_1 Single (Pack.pack_found c second b) (first_zero c second e b some last) (length cells);
  after = found_whole c second e;
}
