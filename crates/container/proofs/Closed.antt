-- The closed image of a session is a container that says what the session holds: its META1 and its META2.
use mathlib.Core.Path.{◌≡◌, ◌∙◌}
use mathlib.Core.List.{List}
use Prim.Native.Nat.{ℕ, ◌^◌, ◌≤◌, ◌<◌}
use native.Mathlib.Omega.{arith}
use lib.ListN.{length}
use lib.Signed.{mag}
use Rattle.format.specs.Limits.{max_blocks}
use Rattle.format.specs.Layout.{meta1_end}
use Rattle.format.proofs.Chunks.{meta2_end_small}
use Rattle.format.specs.Meta2.{value_index}
use Rattle.format.specs.Record.{cell, count_of, is_big}
use Rattle.format.proofs.Rules.{value_index_lt}
use Rattle.format.proofs.Stored
use Rattle.format.specs.Session.{State}
use Rattle.format.specs.Open.{Opening, tasks, open_head}
use Rattle.format.specs.Close
use Rattle.format.proofs.Opening.{plan_sound}
use Rattle.format.specs.Container.{HasMeta1, HasMeta2, value_of}
use Rattle.container.specs.Start.{VersionsFit}
use Rattle.container.specs.WrittenBack.{contents_of}
use Rattle.format.proofs.Formats.{least_idle}
use Rattle.format.proofs.Fronts.{front_says}
use Rattle.container.proofs.ClosedParts.{Closable, closed_as, value_in, closing, apart, end_after, closed_most, closed_least, closed_reached, in_range, not_used, used_small, closed_long, closed_front, closed_fields, part_there}

module _ (o : Opening) (st : State) (c : Closable o st) (tail : List ℕ) where
  abbrev m : ℕ
  m = Close.maxchunks_used st

  few : m ≤ max_blocks
  few = (closing o st c).few

  pub has_meta1 : VersionsFit o → HasMeta1 o.file (closed_as st tail) (contents_of o st)
  unfolding open_head
  has_meta1 fit =
      let small = meta2_end_small (plan_sound o c.plan) m few in
      let short = c.plan.prefix_short in
      let long : meta1_end (tasks o) ≤ length (closed_as st tail) = omega (arith, closed_long o st c tail, apart o st c, end_after o st c) in
      let front = closed_front o st c tail in
      let last = closed_fields o st c tail in
      let said = front_says o c.plan (closed_as st tail) long front in
      record {
        bounds = said.bounds;
        long = said.long;
        magic_is = said.magic_is;
        order_is = said.order_is;
        version_is = Stored.version_back _ _ _ _ _ short front fit.0;
        patch_is = Stored.patch_back _ _ _ _ _ short front fit.1;
        format_is = said.format_is;
        format_known = said.format_known;
        blocksize_is = said.blocksize_is;
        tasks_are = said.tasks_are;
        files_are = said.files_are;
        file_number_is = said.file_number_is;
        ranks_are = said.ranks_are;
        sizes_are = said.sizes_are;
        maxchunks_is = Stored.maxchunks_back _ _ _ (tasks o) (closed_as st tail) last (omega (arith, few));
        maxchunks_range = few;
        start_is = Stored.start_back _ _ _ (tasks o) (closed_as st tail) last (omega (arith, small, end_after o st c));
      }

  value_there : (i k : ℕ) → i < tasks o → k < m → mag (value_in o st k i) < 2 ^ 63
      → value_of (closed_as st tail) (contents_of o st) k i ≡ value_in o st k i
  unfolding open_head
  value_there i k l h small =
      let n : ℕ = tasks o in
      rw (part_there o st c tail)
      (Stored.value_back (is_big (open_head o)) n m (count_of st.lists) (cell st.table) (value_index n k i)
      (value_index_lt n m k i l h) small)

  pub has_meta2 : HasMeta2 (closed_as st tail) (contents_of o st)
  unfolding open_head
  has_meta2 = record {
    fits = closed_long o st c tail;
    counts_are = λ i l.
        rw (part_there o st c tail)
        (Stored.count_back (is_big (open_head o)) (tasks o) m (count_of st.lists) (cell st.table) i l
        (omega (arith, closed_most o st c i l, few)));
    counts_range = closed_most o st c;
    counts_idle = λ four i l. least_idle (closed_least o st c i l) four;
    greatest = closed_reached o st c;
    used_first = λ i k l u.
        let e = (in_range o st c i k l u).0 in
        value_there i k l (omega (arith, closed_most o st c i l)) (rw e (omega (arith, used_small o st c i k l u))) ∙ e;
    used_fit = λ i k l u. (in_range o st c i k l u).2;
    others_unused = λ i k l u h.
        let e = not_used o st c i k l u h in
        value_there i k l h (rw e (omega arith)) ∙ e;
  }
