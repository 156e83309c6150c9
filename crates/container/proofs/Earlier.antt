-- Containers that were written while a chunk held its requested size only.
use mathlib.Core.Path.{refl, ◌∙◌}
use mathlib.Core.List.{List}
use Prim.Native.Nat.{ℕ}
use native.Mathlib.Nat.{le_trans}
use native.Mathlib.Omega.{arith}
use lib.ListN.{length}
use Rattle.format.specs.declared.head.File.TheVariants.{Single}
use Rattle.format.specs.Layout.{requested}
use Rattle.format.specs.Container.{HasMeta2, ContainerWith, WasContainer}
use Rattle.format.proofs.Chunks.{capacity_enough}
use Rattle.format.proofs.Every.{every, says}
use Rattle.container.specs.Earlier.{StaysAcceptable}
use Rattle.container.proofs.Refusing.{load_number}
use Rattle.container.proofs.ReadsBack.{reads_back, refuses_back}

module _ (image : List ℕ) (c : WasContainer image) where
  abbrev was : ContainerWith requested Single image
  was = c.was

  -- a value that is at most the requested size is at most what a chunk holds
  has_meta2 : HasMeta2 image was.says
  has_meta2 =
      let w = was.second in
      let b = was.first.bounds.blocksize_range.0 in
      record {
        fits = w.fits;
        counts_are = w.counts_are;
        counts_range = w.counts_range;
        counts_idle = w.counts_idle;
        greatest = w.greatest;
        used_first = w.used_first;
        used_fit = λ i k l u. le_trans (w.used_fit i k l u) (capacity_enough was.says.blocksize (was.says.size i) (omega (arith, b)));
        others_unused = w.others_unused;
      }

  pub stays_acceptable : StaysAcceptable image c
  stays_acceptable = record {
    is_container = record { says = was.says; first = was.first; second = has_meta2 };
    says_same = refl;
    loads = λ table room.
        let zero = every Single image was.says was.first has_meta2 (length table) room in
        record {
          accepts = load_number Single image table ∙ zero;
          says = says Single image was.says was.first has_meta2 table zero;
          reads = reads_back Single image was.says was.first has_meta2 table zero;
          refuses = refuses_back Single image was.says was.first has_meta2 table zero;
        };
  }
