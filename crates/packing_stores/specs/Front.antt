-- The bytes of a packed image up to D, of a head, ranks and sizes: META1 with the flags and the prefix of the image that is packed, and zeros.
use Rattle.std.specs.Prelude.{List, [], ◌++◌, ℕ, ◌-◌, take, drop, replicate}
use Rattle.lists.specs.Splice.{splice}
use Rattle.format.specs.Layout.{meta1_end, data_start}
use Rattle.format.specs.declared.head.Head.{Head}
use Rattle.format.specs.Meta1.{fixed_length, meta1}
use Rattle.packs.specs.Pack.{flags_at}

-- the flags and the prefix of an image
abbrev pub own_fields : List ℕ → List ℕ
own_fields image = take (fixed_length - flags_at) (drop flags_at image)

unfoldable pub front_bytes : Head → (ℕ → ℕ) → (ℕ → ℕ) → List ℕ → ℕ → ℕ → List ℕ
front_bytes h rank size image maxchunks start =
    splice (meta1 h rank size [] maxchunks start) flags_at (own_fields image)
    ++ replicate (data_start h.blocksize h.n - meta1_end h.n) 0
