-- W-210, "Packing before the copy": what packing a loaded container leaves in the second image, that it loads again with the same streams, that packing
-- it once more gives the same bytes, and what is found of it where power goes. Tasks are counted from 0: i for task i + 1.
use Rattle.std.specs.Prelude.{◌≡◌, List, ℕ, ◌+◌, ◌-◌, ◌*◌, ◌^◌, ◌≤◌, ◌<◌, ℤ, length, take, drop}
use Rattle.std.specs.Int.Signed.{mag}
use Rattle.lists.specs.Splice.{splice}
use Rattle.format.specs.declared.head.File.TheVariants.{Single}
use Rattle.format.specs.Meta1.{fixed_length}
use Rattle.format.specs.Record.{rank_of, is_big}
use Rattle.format.specs.Container.{Contents, HasMeta1, HasMeta2, Recorded}
use Rattle.format.specs.Load.{load_answer}
use Rattle.format.specs.Reads.{Container, loaded_from, stream_of, total_answer, read_answer, read_output}
use Rattle.format.specs.About.{length_answer}
use Rattle.packs.specs.Pack

-- what the packed container says: one chunk of each task that wrote something, with all its bytes
abbrev pub packed_contents : Container → Contents
packed_contents c =
    let h = c.loaded.head in
    record {
      big = is_big h;
      version = h.version;
      patch = h.patch;
      format = h.format;
      blocksize = h.blocksize;
      n = h.n;
      rank = rank_of c.lists;
      size = Pack.packed_size c;
      maxchunks = Pack.packed_most c;
      count = Pack.packed_count c;
      written = λ k i. Pack.total c i;
    }

-- library version and patch level are ones that 32 bits hold, as a record's are
abbrev pub VersionsHeld : Container → Type 0
VersionsHeld c = (mag c.loaded.head.version < 2 ^ 31) × (mag c.loaded.head.patch < 2 ^ 31)

-- an image that begins with the packed container, loaded with a table that is long enough: "Each task's stream is the same before and after", for every
-- place and output, and "Packing a packed container gives identical bytes up to its length"
pub record LoadsPacked (c : Container) (image : List ℕ) (cells : List ℤ) : Type 0 where
  pub accepts : (load_answer Single image cells).refusal ≡ 0
  pub recorded : Recorded Single (packed_contents c) (load_answer Single image cells).loaded (load_answer Single image cells).lists
  pub streams : (i : ℕ) → i < c.loaded.head.n → stream_of (loaded_from Single image cells) (i + 1) ≡ stream_of c (i + 1)
  pub totals : (task : ℕ) → total_answer (loaded_from Single image cells) task ≡ total_answer c task
  pub answers : (task p : ℕ) → (out : List ℕ) → read_answer (loaded_from Single image cells) task p out ≡ read_answer c task p out
  pub outputs : (task p : ℕ) → (out : List ℕ) → read_output (loaded_from Single image cells) task p out ≡ read_output c task p out
  pub ends : length_answer (loaded_from Single image cells) ≡ record { refusal = 0; bytes = Pack.packed_length c }
  pub again : Pack.packed_bytes (loaded_from Single image cells) ≡ Pack.packed_bytes c

-- an accepted packing: "the packed image is a container with exactly these contents", and later bytes stay
pub record Packs (c : Container) (second : List ℕ) : Type 0 where
  pub bytes : Pack.pack_image c second ≡ splice second 0 (Pack.packed_bytes c)
  pub as_many : length (Pack.packed_bytes c) ≡ Pack.packed_length c
  pub own_fields_hold : take (fixed_length - Pack.flags_at) (drop Pack.flags_at (Pack.pack_image c second))
      ≡ take (fixed_length - Pack.flags_at) (drop Pack.flags_at c.image)
  pub meta1 : HasMeta1 Single (Pack.pack_image c second) (packed_contents c)
  pub meta2 : HasMeta2 (Pack.pack_image c second) (packed_contents c)
  pub loads : (cells : List ℤ) → c.loaded.head.n * Pack.packed_most c ≤ length cells → LoadsPacked c (Pack.pack_image c second) cells

-- what is found of it within a budget of byte stores (W-212): the earlier image before the first store, then 1, and all of it after the last
pub record PackCuts (c : Container) (second : List ℕ) : Type 0 where
  pub before : Pack.pack_found c second 0 ≡ second
  pub during : (b : ℕ) → 1 ≤ b → b ≤ Pack.packed_length c → (cells : List ℤ) → (load_answer Single (Pack.pack_found c second b) cells).refusal ≡ 1
  pub after : (b : ℕ) → Pack.packed_length c + 1 ≤ b → Pack.pack_found c second b ≡ Pack.pack_image c second
