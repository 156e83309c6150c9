-- W-209, "no acceptance of a write depends on it": starts that differ in fileformat_version only, as two openings do, and the same list of writes.
use Rattle.std.specs.Prelude.{◌≡◌, List, ℕ, get_or}
use Rattle.lists.specs.Logic.{Exactly}
use Rattle.format.specs.Open.{Opening}
use Rattle.format.specs.Write.{Request}
use Rattle.container.specs.Start.{Start, after, answers_to, Puts}

-- an opening with another fileformat_version, and the same in all else
abbrev pub in_format : ℕ → Opening → Opening
in_format format o =
    record {
      file = o.file;
      plan =
          record {
            order = o.plan.order;
            version = o.plan.version;
            patch = o.plan.patch;
            format = format;
            blocksize = o.plan.blocksize;
            planned = o.plan.planned;
          };
      ranks = o.ranks;
      sizes = o.sizes;
      prefix = o.prefix;
    }

-- the same answers; each accepted byte is put at the same offset; and a byte of the image that was the same in both is the same afterwards
pub record SameWrites (s t : Start) (qs : List Request) : Type 0 where
  pub answers : answers_to s qs ≡ answers_to t qs
  pub offsets : (task at value : ℕ) → Exactly (Puts s qs task at value) (Puts t qs task at value)
  pub bytes : (at : ℕ) → get_or s.state.image at 0 ≡ get_or t.state.image at 0
      → get_or (after s qs).image at 0 ≡ get_or (after t qs).image at 0
