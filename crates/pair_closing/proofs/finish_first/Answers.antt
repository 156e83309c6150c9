-- META2, then the mapping, then the last two fields.
use mathlib.Core.Path.{◌≡◌, refl, ap, ap₂, ◌∙◌}
use Prim.Native.Nat.{◌+◌, ◌≤◌, ◌<◌, ◌^◌}
use native.Mathlib.Omega.{arith}
use lib.ListN.{length}
use Rattle.lists.proofs.Stores.{spends_same, found_then, found_last}
use Rattle.format.specs.Layout.{meta1_end, meta2_start, meta2_end}
use Rattle.format.proofs.Power.{blocksize_facts}
use Rattle.format.proofs.Chunks.{meta1_before_data, meta2_end_small}
use Rattle.format.specs.Meta1.{last_fields}
use Rattle.format.specs.Record.{size_of, is_big, meta2_at, end_at}
use Rattle.ranks.proofs.Carrying.{length_first, length_second, none_lacking_listed}
use Rattle.pair_closing.proofs.Listed.{mapping_listed}
use Rattle.pair_closing.proofs.finish_first.Goals as goal
use Rattle.pair_closing.proofs.finish_first.Goals.{After-meta2_start-start, After-meta2_length}

-- where META2 starts, and where it ends
starts : (c : After-meta2_start-start) → c.meta2_start-start.result ≡ meta2_at c.args.h (size_of c.args.lists0.now) c.args.maxchunks
unfolding meta2_at
starts c = let l = c.of.ensures in rw (l.n, l.blocksize, l.sizes) at c.meta2_start-start.ensures

ends : (c : After-meta2_length) → c.meta2_start-start.result + c.meta2_length.result ≡ end_at c.args.h (size_of c.args.lists0.now) c.args.maxchunks
unfolding end_at meta2_end meta2_at
ends c = ap₂ ◌+◌ (starts (goal.at.After-meta2_length c).After-meta2_start-start) c.meta2_length.ensures

small : (c : After-meta2_length) → end_at c.args.h (size_of c.args.lists0.now) c.args.maxchunks < 2 ^ 62
unfolding end_at
small c = meta2_end_small c.requires.meta2fits.0.sound c.args.maxchunks c.requires.meta2fits.0.few

pub overflow_add-end : goal.overflow_add-end
overflow_add-end c =
    let at = (goal.at.overflow_add-end c).After-meta2_length in
    omega (arith, ends at, small at)

pub meta2-left-requires-clause-maxchunks_in_bounds : goal.meta2-left-requires-clause-maxchunks_in_bounds
meta2-left-requires-clause-maxchunks_in_bounds c =
    omega (
      arith,
      ends (goal.at.meta2-left-requires-clause-maxchunks_in_bounds c).After-meta2_length,
      c.meta2_length.ensures,
      c.requires.meta2fits.0.image_long,
    )

pub put-left-requires-clause-second_value : goal.put-left-requires-clause-second_value
put-left-requires-clause-second_value c =
    let a = c.args in
    none_lacking_listed a.lists0.now a.lists1.now c.told-lists0 c.told-lists1 a.h.n a.m c.requires.meta2fits.0.sound.tasks c.requires.meta2fits.1
    ∙ c.requires.lists1_value

pub put-left-requires-clause-in_bounds : goal.put-left-requires-clause-in_bounds
put-left-requires-clause-in_bounds c =
    let a = c.args in
    let few = c.requires.meta2fits.0.sound.tasks in
    rw (
      length_first a.lists0.now a.lists1.now c.told-lists0 c.told-lists1 a.h.n a.m few c.requires.meta2fits.1,
      length_second a.lists0.now a.lists1.now c.told-lists0 c.told-lists1 a.h.n a.m few c.requires.meta2fits.1,
    )
    (omega (arith, ends (goal.at.put-left-requires-clause-in_bounds c).After-meta2_length, c.requires.m_in_bounds, c.meta2-left.auto.image))

pub last_fields-requires : goal.last_fields-requires
unfolding end_at meta2_end meta2_start
last_fields-requires c =
    let p = c.requires.meta2fits.0 in
    let h = c.args.h in
    let long : meta1_end h.n ≤ length c.args.image0.now =
    omega (arith, p.image_long, meta1_before_data h.blocksize h.n (omega (arith, blocksize_facts _ p.sound.block))) in
    (p.sound.tasks, omega (arith, long, c.put-left.auto.image, c.meta2-left.auto.image))

pub overflow_add-result : goal.overflow_add-result
overflow_add-result c =
    let at = (goal.at.overflow_add-result c).After-meta2_length in
    omega (arith, ends at, small at, c.length_of.ensures, c.requires.m_in_bounds)

pub returns-clause-image0_after : goal.returns-clause-image0_after
returns-clause-image0_after c =
    let at = goal.at.returns-clause-image0_after c in
    let a = c.args in
    let place = starts at.After-meta2_start-start in
    let second = spends_same place refl c.meta2-left.ensures in
    let listed = mapping_listed a.lists0.now a.lists1.now c.told-lists0 c.told-lists1 a.h.n a.m c.requires.meta2fits.0.sound.tasks c.requires.meta2fits.1 (is_big a.h) in
    let map = spends_same (ends at.After-meta2_length) listed c.put-left.ensures in
    let fields = spends_same refl (ap (last_fields (is_big a.h) a.maxchunks) place) c.last_fields.ensures in
    found_then _ second (found_then _ map (found_last fields))

pub returns-clause-value : goal.returns-clause-value
returns-clause-value c = ap₂ ◌+◌ (ends (goal.at.returns-clause-value c).After-meta2_length) c.length_of.ensures
