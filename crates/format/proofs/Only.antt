-- What the loader accepts is a container: of an image whose tests pass, what its fields say keeps each rule.
use mathlib.Core.Path.{◌≡◌, refl, sym, ap, ◌∙◌, subst}
use mathlib.Core.Bool.{Bool, true}
use mathlib.Core.List.{List}
use Prim.Native.Nat.{ℕ, ◌*◌, ◌≤◌, ◌<◌}
use native.Mathlib.Omega.{arith}
use lib.IntN.{pos}
use lib.ListN.{length}
use Rattle.endian.specs.Signed.{natural}
use Rattle.endian.proofs.Signed.{InRange, within_natural}
use Rattle.format.specs.Limits.{blocksize_rule}
use Rattle.format.specs.Layout.{meta1_end, meta2_end}
use Rattle.format.proofs.Power.{blocksize_facts, power_of_two_holds}
use Rattle.format.specs.Meta1
use Rattle.format.specs.Meta2
use Rattle.format.specs.declared.head.File.{File}
use Rattle.format.specs.Record.{is_big, holds, meta2_at, end_at}
use Rattle.format.specs.Judge.{big_in, tasks_in, maxchunks_in, head_in, rank_in, size_in, meta2_in, count_in}
use Rattle.format.proofs.Rules.{ranks_differ, counts_within, counts_greatest, values_used, values_unused}
use Rattle.format.proofs.Formats.{format_known, least_idle}
use Rattle.format.proofs.Record.{is_big_order}
use Rattle.format.proofs.Accepting.{FrontHolds, Meta1Holds, magic_there, Meta2Holds, format_in, block_in, tasks_in_hold, rank_in_holds, size_in_holds, maxchunks_in_holds}
use Rattle.format.specs.Container.{Contents, InBounds, HasMeta1, HasMeta2, IsContainer, meta2_said}
use Rattle.format.specs.Load.{meta2_bytes, load_refusal}
use Rattle.format.proofs.LoadTests.{load_holds}

-- what the fields of an image say
abbrev contents_in : List ℕ → Contents
contents_in image = record {
  big = big_in image;
  version = Meta1.version_field (big_in image) image;
  patch = Meta1.patch_field (big_in image) image;
  format = natural (Meta1.format_field (big_in image) image);
  blocksize = natural (Meta1.blocksize_field (big_in image) image);
  n = tasks_in image;
  rank = rank_in image;
  size = size_in image;
  maxchunks = maxchunks_in image;
  count = λ i. natural (Meta2.count_field (big_in image) (meta2_bytes image) i);
  written =
      λ k i. natural (Meta2.value_field (big_in image) (meta2_bytes image) (tasks_in image) (Meta2.value_index (tasks_in image) k i));
}

module _ {f : File} (image : List ℕ) (first : Meta1Holds f image (length image)) where
  abbrev front : FrontHolds f image (length image)
  front = first.front

  bounds_in : InBounds (contents_in image).blocksize (tasks_in image) (rank_in image) (size_in image)
  unfolding tasks_in rank_in size_in
  bounds_in =
      let rule : blocksize_rule (pos (contents_in image).blocksize) ≡ true = rw (block_in front).0 at front.blocksize in
      record {
        blocksize_power = power_of_two_holds _ (blocksize_facts _ rule).2;
        blocksize_range = ((block_in front).1, (block_in front).2);
        tasks_range = ((tasks_in_hold front).1, (tasks_in_hold front).2);
        ranks_range = λ i l. (rank_in_holds front i l).2;
        ranks_differ =
            λ i j l h same.
            ranks_differ (tasks_in image) (Meta1.rank_field (big_in image) image) front.ranks i j l h
            ((rank_in_holds front i l).0 ∙ ap pos same ∙ sym (rank_in_holds front j h).0);
        sizes_range = λ i l. ((size_in_holds front i l).1, (size_in_holds front i l).2);
      }

  has_meta1 : HasMeta1 f image (contents_in image)
  unfolding meta1_end tasks_in maxchunks_in rank_in size_in head_in meta2_in meta2_at
  has_meta1 =
      record {
        bounds = bounds_in;
        long = front.long;
        magic_is = magic_there image (omega (arith, front.long)) front.magic_is;
        order_is = front.order_is;
        version_is = refl;
        patch_is = refl;
        format_is = (format_in front).0;
        format_known = format_known (rw (format_in front).0 at front.format);
        blocksize_is = (block_in front).0;
        tasks_are = (tasks_in_hold front).0;
        files_are = front.files_are;
        file_number_is = front.file_number_is;
        ranks_are = λ i l. (rank_in_holds front i l).0;
        sizes_are = λ i l. (size_in_holds front i l).0;
        maxchunks_is = (maxchunks_in_holds first).0;
        maxchunks_range = (maxchunks_in_holds first).2;
        start_is = first.start_is;
      }

  module _ (second : Meta2Holds (head_in image) (size_in image) (maxchunks_in image) (meta2_bytes image)) where
    end_in_holds : end_at (head_in image) (size_in image) (maxchunks_in image)
        ≡ meta2_end (contents_in image).blocksize (tasks_in image) (contents_in image).size (maxchunks_in image)
    unfolding head_in end_at
    end_in_holds = refl

    part_in : meta2_said image (contents_in image) ≡ meta2_bytes image
    unfolding meta2_bytes meta2_in meta2_at head_in
    part_in = refl

    counts_in : Meta2.counts_rule (contents_in image).format (tasks_in image) (maxchunks_in image) (Meta2.count_field (big_in image) (meta2_bytes image)) ≡ true
    unfolding head_in
    counts_in = rw (is_big_order (big_in image)) at second.counts

    count_in_holds : (i : ℕ) → i < tasks_in image
        → InRange (Meta2.least_count (contents_in image).format) (maxchunks_in image) (Meta2.count_field (big_in image) (meta2_bytes image) i)
    count_in_holds i l = within_natural _ _ _ (counts_within _ _ _ (Meta2.count_field (big_in image) (meta2_bytes image)) counts_in i l)

    big_in_holds : is_big (head_in image) ≡ big_in image
    unfolding head_in
    big_in_holds = is_big_order (big_in image)

    values_in_hold : Meta2.values_rule (tasks_in image) (maxchunks_in image) (holds (head_in image) (size_in image)) (contents_in image).count
        (Meta2.value_field (big_in image) (meta2_bytes image) (tasks_in image)) ≡ true
    unfolding head_in count_in
    values_in_hold =
        subst
        (λ (big : Bool).
        Meta2.values_rule (tasks_in image) (maxchunks_in image) (holds (head_in image) (size_in image))
        (λ i. natural (Meta2.count_field big (meta2_bytes image) i))
        (Meta2.value_field big (meta2_bytes image) (tasks_in image))
        ≡ true)
        big_in_holds second.values

    used_in : (i k : ℕ) → i < tasks_in image → k < (contents_in image).count i
        → InRange 0 (holds (head_in image) (size_in image) i)
        (Meta2.value_field (big_in image) (meta2_bytes image) (tasks_in image) (Meta2.value_index (tasks_in image) k i))
    used_in i k l u = within_natural 0 _ _ (values_used _ _ _ _ _ values_in_hold i k l (omega (arith, (count_in_holds i l).2)) u)

    has_meta2 : HasMeta2 image (contents_in image)
    unfolding tasks_in head_in holds
    has_meta2 = record {
      fits = rw end_in_holds at first.fits;
      counts_are = λ i l. rw part_in (count_in_holds i l).0;
      counts_range = λ i l. (count_in_holds i l).2;
      counts_idle = λ four i l. least_idle (count_in_holds i l).1 four;
      greatest = counts_greatest _ _ _ (Meta2.count_field (big_in image) (meta2_bytes image)) counts_in (tasks_in_hold front).1;
      used_first = λ i k l u. rw part_in (used_in i k l u).0;
      used_fit = λ i k l u. (used_in i k l u).2;
      others_unused = λ i k l u h. rw part_in (values_unused _ _ _ _ _ values_in_hold i k l h u);
    }

pub only : (f : File) (image : List ℕ) (cells : ℕ) → load_refusal f image cells ≡ 0 → (c : IsContainer f image) × (c.says.n * c.says.maxchunks ≤ cells)
only f image cells e =
    let h = load_holds f image cells e in
    (record { says = contents_in image; first = has_meta1 image h.first; second = has_meta2 image h.first h.second }, h.table_long)
