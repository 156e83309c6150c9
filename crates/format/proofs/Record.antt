-- What a head says of an order and of a file, and that what it says with sizes depends on the sizes of its tasks alone.
use mathlib.Core.Path.{◌≡◌, refl, ap}
use mathlib.Core.Bool.{Bool, true, false}
use borrow.Author.Tests.{eqb-true}
use Rattle.lists.proofs.Below.{and_left, and_right}
use Prim.Native.Nat.{ℕ, ◌≤◌, ◌<◌}
use lib.Dec.{eqb}
use Rattle.format.specs.Layout.{capacity}
use Rattle.format.proofs.Chunks.{chunk_start_agree, meta2_start_agree, meta2_end_agree}
use Rattle.format.specs.declared.head.Head.{Head}
use Rattle.format.specs.declared.head.File.{File}
use Rattle.format.specs.declared.head.File.TheVariants.{Single, First, Second}
use Rattle.format.specs.Record.{is_order, order_of, suits, file_in, holds, start_of, meta2_at, end_at}

pub is_big_order : (big : Bool) → eqb (order_of big) 1 ≡ big
is_big_order true = refl
is_big_order false = refl

pub order_sound : (big : Bool) → is_order (order_of big) ≡ true
order_sound true = refl
order_sound false = refl

-- a record that suits a call says that it is the file that the call means
pub suits_file : (f : File) (h : Head) → suits f h ≡ true → file_in h ≡ f
unfolding file_in
suits_file Single h e = rw (and_left (eqb h.files 1) (eqb h.file 0) e)
suits_file First h e =
    let files : h.files ≡ 2 = eqb-true h.files 2 (and_left _ (eqb h.file 0) e) in
    rw (files, and_right (eqb h.files 2) (eqb h.file 0) e)
suits_file Second h e =
    let files : h.files ≡ 2 = eqb-true h.files 2 (and_left _ (eqb h.file 1) e) in
    let file : h.file ≡ 1 = eqb-true h.file 1 (and_right (eqb h.files 2) _ e) in
    rw (files, file)

module _ (h : Head) (size size' : ℕ → ℕ) (same : (i : ℕ) → i < h.n → size i ≡ size' i) where
  pub holds_agree : (i : ℕ) → i < h.n → holds h size i ≡ holds h size' i
  unfolding holds
  holds_agree i l = ap (capacity h.blocksize) (same i l)

  pub start_of_agree : (task chunk : ℕ) → task ≤ h.n → start_of h size task chunk ≡ start_of h size' task chunk
  unfolding start_of
  start_of_agree task chunk l = chunk_start_agree h.blocksize h.n size size' same task chunk l

  pub meta2_at_agree : (maxchunks : ℕ) → meta2_at h size maxchunks ≡ meta2_at h size' maxchunks
  unfolding meta2_at
  meta2_at_agree maxchunks = meta2_start_agree h.blocksize h.n size size' same maxchunks

  pub end_at_agree : (maxchunks : ℕ) → end_at h size maxchunks ≡ end_at h size' maxchunks
  unfolding end_at
  end_at_agree maxchunks = meta2_end_agree h.blocksize h.n size size' same maxchunks
