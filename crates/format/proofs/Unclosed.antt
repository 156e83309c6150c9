-- What a load answers of an image that is not finished: 1 where its first byte is 0; and where it has META1 up to its last two fields, 10 if start_of_varheader
-- is 0, and 12 if it names another place than META2's.
use mathlib.Core.Path.{◌≡◌, refl, ◌∙◌}
use mathlib.Core.Bool.{Bool, true, false, or-true}
use mathlib.Core.List.{List}
use Prim.Native.Nat.{ℕ, ◌≤◌, ◌<◌, zero-le}
use native.Mathlib.Omega.{arith}
use lib.Dec.{ltb, lit<}
use lib.IntN.{pos}
use lib.ListN.{length, take, get_or}
use borrow.Author.Tests.{eqb-true}
use Rattle.lists.proofs.Below.{all_at}
use Rattle.lists.specs.Logic.{Not}
use Rattle.endian.proofs.Signed.{within_other, within_holds}
use Rattle.format.specs.Limits.{max_blocks, maxchunks_rule}
use Rattle.format.specs.Layout.{meta1_end, meta2_start}
use Rattle.format.specs.Meta1
use Rattle.format.specs.declared.head.File.{File}
use Rattle.format.specs.Record.{entry, is_big}
use Rattle.format.specs.Refusals.{first_failing}
use Rattle.format.specs.Judge.{magic_in, start_tests, fixed_tests, last_tests, meta1_tests}
use Rattle.format.specs.Open.{Opening, tasks, open_head}
use Rattle.format.specs.Load.{load_tests, load_refusal}
use Rattle.format.proofs.Refusals.{first_fails}
use Rattle.format.proofs.Accepting.{front_passes}
use Rattle.format.proofs.Opening.{PlanHolds}
use Rattle.format.proofs.Fronts.{FrontSays, front_says, big_is, tasks_is, start_said, front_holds}

pub refused_1 : (f : File) (image : List ℕ) → get_or image 0 0 ≡ 0 → (cells : ℕ) → load_refusal f image cells ≡ 1
unfolding load_refusal load_tests meta1_tests fixed_tests start_tests first_failing magic_in
refused_1 f image none cells = rw (unmarked (magic_in image) refl, or-true (ltb (length image) 4))
  where
    unmarked : (t : Bool) → magic_in image ≡ t → magic_in image ≡ false
    unmarked true e = let z : get_or image 0 0 ≡ 115 = eqb-true _ _ (all_at _ 4 0 (lit< tt) e) in absurd (omega arith)
    unmarked false e = e

module _ (o : Opening) (p : PlanHolds o) (image : List ℕ) (long : meta1_end (tasks o) ≤ length image)
    (front : take (Meta1.last_at (tasks o)) image ≡ Meta1.meta1_front (open_head o) (entry o.ranks) (entry o.sizes) o.prefix) where
  abbrev says : FrontSays o.file image (is_big (open_head o)) o.plan.format o.plan.blocksize (tasks o) (entry o.ranks) (entry o.sizes)
  says = front_says o p image long front

  -- where one of the last two fields fails its test, its number is the answer
  last_refused : {r : ℕ} → 0 < r → first_failing (last_tests image (length image)) ≡ r → (cells : ℕ) → load_refusal o.file image cells ≡ r
  unfolding load_refusal load_tests
  last_refused some e cells =
      let found = front_passes image o.file (length image) (front_holds says) ∙ e in
      first_fails (meta1_tests image o.file (length image)) _ (omega arith) ∙ found

  pub refused_10 : Meta1.start_field (is_big (open_head o)) image (tasks o) ≡ pos 0 → (cells : ℕ) → load_refusal o.file image cells ≡ 10
  unfolding last_tests first_failing
  refused_10 none = last_refused (omega arith) (rw (big_is says, tasks_is says, none))

  pub refused_12 : (m : ℕ) → m ≤ max_blocks → Meta1.maxchunks_field (is_big (open_head o)) image (tasks o) ≡ pos m
      → Not (Meta1.start_field (is_big (open_head o)) image (tasks o) ≡ pos 0)
      → Not (Meta1.start_field (is_big (open_head o)) image (tasks o) ≡ pos (meta2_start o.plan.blocksize (tasks o) (entry o.sizes) m))
      → (cells : ℕ) → load_refusal o.file image cells ≡ 12
  unfolding last_tests first_failing maxchunks_rule
  refused_12 m few e some other =
      last_refused (omega arith)
      (rw (big_is says, tasks_is says, start_said says e, e, within_other _ _ some, within_holds 0 max_blocks m zero-le few, within_other _ _ other))
