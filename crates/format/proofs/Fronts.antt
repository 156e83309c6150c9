-- META1 up to its last two fields: what these fields say where an image has them, what is read of it then, and that their tests pass.
use mathlib.Core.Path.{◌≡◌, ap}
use mathlib.Core.Bool.{Bool}
use mathlib.Core.List.{List}
use Prim.Native.Nat.{ℕ, ◌≤◌, ◌<◌}
use native.Mathlib.Omega.{arith}
use lib.IntN.{pos}
use lib.ListN.{length, take}
use Rattle.endian.specs.Signed.{natural}
use Rattle.format.specs.Layout.{meta1_end, meta2_start}
use Rattle.format.proofs.Chunks.{meta2_start_agree}
use Rattle.format.proofs.Power.{blocksize_facts}
use Rattle.format.specs.Meta1
use Rattle.format.specs.declared.head.File.{File}
use Rattle.format.specs.Record.{entry, is_big, files_of, file_of, meta2_at}
use Rattle.format.specs.Judge.{big_in, tasks_in, maxchunks_in, head_in, size_in, meta2_in}
use Rattle.format.specs.Open.{Opening, tasks, open_head}
use Rattle.format.specs.Container.{InBounds, IsFormat}
use Rattle.format.proofs.Fields.{files_small, file_small}
use Rattle.format.proofs.Formats.{format_known, format_kept, format_small}
use Rattle.format.proofs.InBounds.{in_bounds, block_kept, tasks_kept, ranks_kept, sizes_kept}
use Rattle.format.proofs.Accepting.{FrontHolds, magic_holds, order_forced}
use Rattle.format.proofs.Stored
use Rattle.format.proofs.Opening.{PlanHolds}

-- these fields of an image hold these numbers, and they keep their rules
pub record FrontSays (f : File) (image : List ℕ) (big : Bool) (format blocksize n : ℕ) (rank size : ℕ → ℕ) : Type 0 where
  pub bounds : InBounds blocksize n rank size
  pub long : meta1_end n ≤ length image
  pub magic_is : take (length Meta1.magic) image ≡ Meta1.magic
  pub order_is : Meta1.order_field big image ≡ pos Meta1.order_number
  pub format_is : Meta1.format_field big image ≡ pos format
  pub format_known : IsFormat format
  pub blocksize_is : Meta1.blocksize_field big image ≡ pos blocksize
  pub tasks_are : Meta1.tasks_field big image ≡ pos n
  pub files_are : Meta1.files_field big image ≡ pos (files_of f)
  pub file_number_is : Meta1.file_number_field big image ≡ pos (file_of f)
  pub ranks_are : (i : ℕ) → i < n → Meta1.rank_field big image i ≡ pos (rank i)
  pub sizes_are : (i : ℕ) → i < n → Meta1.size_field big image n i ≡ pos (size i)

-- they do so where the image starts with META1 of an opening, up to its last two fields
pub front_says : (o : Opening) → PlanHolds o → (image : List ℕ) → meta1_end (tasks o) ≤ length image
    → take (Meta1.last_at (tasks o)) image ≡ Meta1.meta1_front (open_head o) (entry o.ranks) (entry o.sizes) o.prefix
    → FrontSays o.file image (is_big (open_head o)) o.plan.format o.plan.blocksize (tasks o) (entry o.ranks) (entry o.sizes)
unfolding open_head
front_says o p image long front =
    let short = p.prefix_short in
    let known = format_known p.format in
    let block = blocksize_facts o.plan.blocksize p.block in
    let bounds : InBounds o.plan.blocksize (tasks o) (entry o.ranks) (entry o.sizes) = in_bounds p.block p.task_rule p.ranked p.sized in
    record {
      bounds = bounds;
      long = long;
      magic_is = Stored.magic_back _ _ _ _ _ short front;
      order_is = Stored.order_back _ _ _ _ _ short front;
      format_is = Stored.format_back _ _ _ _ _ short front (format_small known);
      format_known = known;
      blocksize_is = Stored.blocksize_back _ _ _ _ _ short front (omega arith);
      tasks_are = Stored.tasks_back _ _ _ _ _ short front (omega (arith, p.few_tasks));
      files_are = Stored.files_back _ _ _ _ _ short front (files_small o.file);
      file_number_is = Stored.file_number_back _ _ _ _ _ short front (file_small o.file);
      ranks_are = λ i l. Stored.rank_back _ _ _ _ _ short front i l (omega (arith, bounds.ranks_range i l));
      sizes_are = λ i l. Stored.size_back _ _ _ _ _ short front i l (omega (arith, bounds.sizes_range i l));
    }

-- what is read of such an image is what its fields hold, and their tests pass
module _ {f : File} {image : List ℕ} {big : Bool} {format blocksize n : ℕ} {rank size : ℕ → ℕ}
    (says : FrontSays f image big format blocksize n rank size) where
  pub big_is : big_in image ≡ big
  unfolding meta1_end
  big_is = order_forced image big (omega (arith, says.long)) says.order_is

  pub tasks_is : tasks_in image ≡ n
  unfolding tasks_in
  tasks_is = rw big_is (ap natural says.tasks_are)

  pub size_is : (i : ℕ) → i < n → size_in image i ≡ size i
  unfolding size_in
  size_is i l = rw (big_is, tasks_is) (ap natural (says.sizes_are i l))

  -- what is read of maxchunks, and where META2 starts by it
  module _ {m : ℕ} (is : Meta1.maxchunks_field big image n ≡ pos m) where
    pub maxchunks_said : maxchunks_in image ≡ m
    unfolding maxchunks_in
    maxchunks_said = rw (big_is, tasks_is) (ap natural is)

    pub start_said : meta2_in image ≡ meta2_start blocksize n size m
    unfolding meta2_in meta2_at head_in
    start_said = rw (big_is, says.blocksize_is, tasks_is, maxchunks_said) (meta2_start_agree blocksize n (size_in image) size size_is m)

  pub front_holds : FrontHolds f image (length image)
  front_holds = record {
    magic_is = magic_holds image says.magic_is;
    order_is = rw big_is says.order_is;
    format = rw (big_is, says.format_is) (format_kept says.format_known);
    blocksize = rw (big_is, says.blocksize_is) (block_kept says.bounds);
    tasks = rw (big_is, says.tasks_are) (tasks_kept says.bounds);
    files_are = rw big_is says.files_are;
    file_number_is = rw big_is says.file_number_is;
    long = rw tasks_is says.long;
    ranks = rw (big_is, tasks_is) (ranks_kept says.bounds _ says.ranks_are);
    sizes = rw (big_is, tasks_is) (sizes_kept says.bounds _ says.sizes_are);
  }
