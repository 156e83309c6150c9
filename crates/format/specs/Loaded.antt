-- Document 01, "A session": the record of a load, its numbers and its lists; when it is sound, and how it is made.
use Rattle.std.specs.Prelude.{Bool, ◌&&◌, List, ℕ, pos}
use Rattle.format.specs.Limits.{maxchunks_rule}
use Rattle.format.specs.declared.head.Head.{Head}
use Rattle.format.specs.declared.head.File.{File}
use Rattle.format.specs.Meta2.{counts_rule}
use Rattle.format.specs.Record.{count_of, suits, head_sound, no_head}
use Rattle.format.specs.declared.loaded.Loaded.{Loaded}

-- "A record is unsound if its fields break the rules above (..; a loaded record's greatest count is its maxchunks)"; "17 also where they do not suit
-- the call" (W-204)
unfoldable pub loaded_sound : File → Loaded → List ℕ → Bool
loaded_sound f l lists =
    head_sound l.head lists
    && maxchunks_rule (pos l.maxchunks)
    && counts_rule l.head.format l.head.n l.maxchunks (λ i. pos (count_of lists i))
    && suits f l.head

-- ---- the place where it is made

abbrev pub loaded_of : Head → ℕ → ℕ → Loaded
loaded_of head maxchunks closed = record { head = head; maxchunks = maxchunks; closed = closed }

-- the numbers of "a record of zeros marked closed"
abbrev pub no_loaded : Loaded
no_loaded = loaded_of no_head 0 1
