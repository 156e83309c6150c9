-- META2, then the last two fields.
use mathlib.Core.Path.{◌≡◌, refl, ap, ap₂}
use Prim.Native.Nat.{◌+◌, ◌≤◌}
use native.Mathlib.Omega.{arith}
use lib.ListN.{length}
use Rattle.lists.proofs.Stores.{spends_same, found_then, found_last}
use Rattle.format.specs.Layout.{meta1_end, meta2_start, meta2_end}
use Rattle.format.proofs.Power.{blocksize_facts}
use Rattle.format.proofs.Chunks.{meta1_before_data}
use Rattle.format.specs.Meta1.{last_fields}
use Rattle.format.specs.Record.{size_of, is_big, meta2_at, end_at}
use Rattle.format.specs.Close.{closing_stores}
use Rattle.closing.proofs.finish.Goals as goal
use Rattle.closing.proofs.finish.Goals.{After-meta2_start-start}

-- where META2 starts
starts : (c : After-meta2_start-start) → c.meta2_start-start.result ≡ meta2_at c.args.h (size_of c.args.lists.now) c.args.maxchunks
unfolding meta2_at
starts c = let l = c.of.ensures in rw (l.n, l.blocksize, l.sizes) at c.meta2_start-start.ensures

pub meta2-left-requires-clause-maxchunks_in_bounds : goal.meta2-left-requires-clause-maxchunks_in_bounds
unfolding end_at meta2_at meta2_end
meta2-left-requires-clause-maxchunks_in_bounds c =
    omega (arith, starts (goal.at.meta2-left-requires-clause-maxchunks_in_bounds c).After-meta2_start-start, c.requires.image_long)

pub last_fields-requires : goal.last_fields-requires
unfolding end_at meta2_end meta2_start
last_fields-requires c =
    let p = c.requires in
    let h = c.args.h in
    let long : meta1_end h.n ≤ length c.args.image.now =
    omega (arith, p.image_long, meta1_before_data h.blocksize h.n (omega (arith, blocksize_facts _ p.sound.block))) in
    (p.sound.tasks, omega (arith, long, c.meta2-left.auto.image))

pub overflow_add-result : goal.overflow_add-result
unfolding end_at meta2_at meta2_end
overflow_add-result c =
    omega (arith, starts (goal.at.overflow_add-result c).After-meta2_start-start, c.meta2_length.ensures, c.requires.image_long)

pub returns-clause-image_after : goal.returns-clause-image_after
unfolding closing_stores
returns-clause-image_after c =
    let place = starts (goal.at.returns-clause-image_after c).After-meta2_start-start in
    let second = spends_same place refl c.meta2-left.ensures in
    let fields = spends_same refl (ap (last_fields (is_big c.args.h) c.args.maxchunks) place) c.last_fields.ensures in
    found_then _ second (found_last fields)

pub returns-clause-value : goal.returns-clause-value
unfolding end_at meta2_at meta2_end
returns-clause-value c =
    ap₂ ◌+◌ (starts (goal.at.returns-clause-value c).After-meta2_start-start) c.meta2_length.ensures
