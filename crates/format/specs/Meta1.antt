-- Document 01, "The first metadata block, META1": where each field stands, META1 as a list of bytes, and the order in which opening stores them.
use Rattle.std.specs.Prelude.{Bool, ℕ, ◌+◌, ◌-◌, ◌*◌, ℤ, pos, length, take, drop, replicate}
use mathlib.Core.List.{List, [], ◌∷◌, ◌++◌, flatten}
use Rattle.lists.specs.Below.{join_below}
use Rattle.lists.specs.Stores.{Store, store}
use Rattle.endian.specs.Signed.{signed_at, signed_digits}
use Rattle.format.specs.Layout.{meta1_end, data_start}
use Rattle.format.specs.declared.head.Head.{Head}
use Rattle.format.specs.Record.{is_big}

-- "`sion` in ASCII"
abbrev pub magic : List ℕ
magic = 115 ∷ 105 ∷ 111 ∷ 110 ∷ []

-- the order is told by the number 1
abbrev pub order_number : ℕ
order_number = 1

-- where the filename prefix stands, its bytes, and those before the ranks
abbrev pub prefix_at : ℕ
prefix_at = 52

abbrev pub prefix_length : ℕ
prefix_length = 1024

abbrev pub fixed_length : ℕ
fixed_length = 1076

-- ---- the table of fields: where each stands, of n tasks, and i counts them from 0

abbrev pub order_at : ℕ
order_at = 4

abbrev pub version_at : ℕ
version_at = 8

abbrev pub patch_at : ℕ
patch_at = 12

abbrev pub format_at : ℕ
format_at = 16

abbrev pub blocksize_at : ℕ
blocksize_at = 20

abbrev pub tasks_at : ℕ
tasks_at = 24

abbrev pub files_at : ℕ
files_at = 28

abbrev pub file_number_at : ℕ
file_number_at = 32

abbrev pub rank_at : ℕ → ℕ
rank_at i = fixed_length + 8 * i

abbrev pub size_at : ℕ → ℕ → ℕ
size_at n i = fixed_length + 8 * n + 8 * i

-- the last two fields: maxchunks, and start_of_varheader behind it
abbrev pub last_at : ℕ → ℕ
last_at n = fixed_length + 16 * n

abbrev pub start_at : ℕ → ℕ
start_at n = last_at n + 4

-- ---- the same fields, read from an image in a byte order

module _ (big : Bool) (image : List ℕ) where
  abbrev pub order_field : ℤ
  order_field = signed_at big 4 image order_at

  abbrev pub version_field : ℤ
  version_field = signed_at big 4 image version_at

  abbrev pub patch_field : ℤ
  patch_field = signed_at big 4 image patch_at

  abbrev pub format_field : ℤ
  format_field = signed_at big 4 image format_at

  abbrev pub blocksize_field : ℤ
  blocksize_field = signed_at big 4 image blocksize_at

  abbrev pub tasks_field : ℤ
  tasks_field = signed_at big 4 image tasks_at

  abbrev pub files_field : ℤ
  files_field = signed_at big 4 image files_at

  abbrev pub file_number_field : ℤ
  file_number_field = signed_at big 4 image file_number_at

  abbrev pub rank_field : ℕ → ℤ
  rank_field i = signed_at big 8 image (rank_at i)

  abbrev pub size_field : ℕ → ℕ → ℤ
  size_field n i = signed_at big 8 image (size_at n i)

  abbrev pub maxchunks_field : ℕ → ℤ
  maxchunks_field n = signed_at big 4 image (last_at n)

  abbrev pub start_field : ℕ → ℤ
  start_field n = signed_at big 8 image (start_at n)

-- ---- META1 as bytes, of a record

-- the prefix "followed by zeros"
abbrev pub padded : List ℕ → List ℕ
padded prefix = prefix ++ replicate (prefix_length - length prefix) 0

-- the last two fields: "At opening the last two fields are 0; closing fills them"
unfoldable pub last_fields : Bool → ℕ → ℕ → List ℕ
last_fields big maxchunks start = signed_digits big 4 (pos maxchunks) ++ signed_digits big 8 (pos start)

-- all before them, field by field, of a head and the ranks and sizes of its tasks
abbrev pub front_fields : Head → (ℕ → ℕ) → (ℕ → ℕ) → List ℕ → List (List ℕ)
front_fields h rank size prefix =
    let big = is_big h in
    magic
    ∷ signed_digits big 4 (pos order_number)
    ∷ signed_digits big 4 h.version
    ∷ signed_digits big 4 h.patch
    ∷ signed_digits big 4 (pos h.format)
    ∷ signed_digits big 4 (pos h.blocksize)
    ∷ signed_digits big 4 (pos h.n)
    ∷ signed_digits big 4 (pos h.files)
    ∷ signed_digits big 4 (pos h.file)
    ∷ signed_digits big 8 (pos 0)
    ∷ signed_digits big 8 (pos 0)
    ∷ padded prefix
    ∷ join_below h.n (λ i. signed_digits big 8 (pos (rank i)))
    ∷ join_below h.n (λ i. signed_digits big 8 (pos (size i)))
    ∷ []

module _ (h : Head) (rank size : ℕ → ℕ) (prefix : List ℕ) where
  unfoldable pub meta1_front : List ℕ
  meta1_front = flatten (front_fields h rank size prefix)

  unfoldable pub meta1 : ℕ → ℕ → List ℕ
  meta1 maxchunks start = meta1_front ++ last_fields (is_big h) maxchunks start

  -- what opening writes: "META1 and zeros up to D"
  unfoldable pub opening_bytes : List ℕ
  opening_bytes = meta1 0 0 ++ replicate (data_start h.blocksize h.n - meta1_end h.n) 0

  -- in their order (W-212): "Opening shall first put zero in the mark's first byte, then write the rest of META1, and put the `s` back last"; the zeros
  -- up to D follow the rest of META1
  unfoldable pub opening_stores : List Store
  opening_stores = store 0 (0 ∷ []) ∷ store 1 (drop 1 opening_bytes) ∷ store 0 (take 1 magic) ∷ []
