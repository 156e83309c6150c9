-- "Containers already written stay acceptable" (W-202): what was a container while a chunk held its requested size only is one now, says the
-- same and is read the same.
use Rattle.std.specs.Prelude.{◌≡◌, List, ℕ, ◌*◌, ◌≤◌, ℤ, length}
use Rattle.format.specs.declared.head.File.TheVariants.{Single}
use Rattle.format.specs.Container.{Contents, IsContainer, WasContainer, Says}
use Rattle.format.specs.Load.{load_answer, load_table}
use Rattle.format.specs.Reads.{loaded_from}
use Rattle.container.specs.Format.{ReadsBack, RefusesBack}

-- it loads with every table that has a cell for each of its values; record and table then say what it said, and so do chunks, totals and streams
pub record LoadsAsBefore (image : List ℕ) (said : Contents) (table : List ℤ) : Type 0 where
  pub accepts : (load_answer Single image table).refusal ≡ 0
  pub says : Says Single said (load_answer Single image table).loaded (load_answer Single image table).lists table (load_table Single image table)
  pub reads : ReadsBack image said (loaded_from Single image table)
  pub refuses : RefusesBack said (loaded_from Single image table)

pub record StaysAcceptable (image : List ℕ) (c : WasContainer image) : Type 0 where
  pub is_container : IsContainer Single image
  pub says_same : is_container.says ≡ c.was.says
  pub loads : (table : List ℤ) → c.was.says.n * c.was.says.maxchunks ≤ length table → LoadsAsBefore image c.was.says table
