-- An accepted opening gives a start, with META1's first fields in its image.
use mathlib.Core.Path.{◌≡◌, sym, ap, ◌∙◌}
use mathlib.Core.List.{List, []}
use Prim.Native.Nat.{ℕ, ◌≤◌, ◌<◌}
use native.Mathlib.Omega.{arith}
use lib.IntN.{ℤ}
use lib.ListN.{length, take}
use lib.Seq.{take-take}
use Rattle.container.specs.Start.{opened_start, IsStart, HasFront}
use Rattle.tally.specs.Simulates.{stream_in}
use Rattle.format.specs.Open.{Opening, open_refusal, open_session, tasks, open_head, opened}
use Rattle.lists.specs.Below.{join_below}
use Rattle.format.proofs.Opens.{opens_only}
use Rattle.format.specs.Layout.{meta1_end, data_start}
use Rattle.tally.proofs.Opened.{opened_simulates}
use Rattle.tally.proofs.Share.{reachable_initial}
use Rattle.tally.proofs.Streams.{stream_is}
use Rattle.format.specs.Tally.{terms_of}
use Rattle.format.proofs.Opening.{opening_holds}
use Rattle.format.proofs.Power.{blocksize_facts}
use Rattle.format.specs.Meta1.{last_at}
use Rattle.format.proofs.Chunks.{meta1_before_data}
use Rattle.container.proofs.Stores.{opened_bytes}
use Rattle.format.proofs.Stored.{opening_front}
use Rattle.format.specs.Record.{entry}

module _ (o : Opening) (image : List ℕ) (table : List ℤ) (zero : open_refusal o (length image) (length table) ≡ 0) where
  none_begun : (i : ℕ) → i < tasks o → stream_in (opened o image table) i ≡ []
  unfolding join_below open_session open_head
  none_begun i l = stream_is (opened_simulates o image table zero) i l

  pub is_start : IsStart (opened_start o image table)
  is_start = record {
    good = (opens_only o image table zero).plan;
    follows = opened_simulates o image table zero;
    reachable = λ task. reachable_initial o.plan.planned ((terms_of o).c task);
    streams = none_begun;
  }

  pub has_front : HasFront (opened_start o image table)
  unfolding meta1_end open_head
  has_front =
      let n : ℕ = tasks o in
      let d : ℕ = data_start o.plan.blocksize n in
      let p = (opening_holds o (length image) (length table) zero).plan in
      let f = blocksize_facts o.plan.blocksize p.block in
      let less : last_at n ≤ d = omega (arith, meta1_before_data o.plan.blocksize n (omega arith)) in
      sym (take-take (last_at n) d (opened o image table).image less)
      ∙ ap (take (last_at n)) (opened_bytes o image table zero)
      ∙ opening_front (open_head o) (entry o.ranks) (entry o.sizes) o.prefix p.prefix_short
