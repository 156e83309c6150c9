-- The two groups of fields before META1's prefix, as the bytes that are made together; META1 itself is `meta1_front` of `format`.
use Rattle.std.specs.Prelude.{Bool, List, ◌++◌, ℕ, ℤ, pos, replicate}
use Rattle.endian.specs.Signed.{signed_digits}
use Rattle.format.specs.declared.head.Head.{Head}
use Rattle.format.specs.Meta1.{magic, order_number}

-- the magic, the order and the versions
unfoldable pub versions : Bool → ℤ → ℤ → ℕ → List ℕ
versions big version patch format =
    (((magic ++ signed_digits big 4 (pos order_number)) ++ signed_digits big 4 version) ++ signed_digits big 4 patch)
    ++ signed_digits big 4 (pos format)

-- the blocksize, the tasks, nfiles, filenumber and the two flags, 8 bytes of zeros each
unfoldable pub shape : Bool → ℕ → ℕ → ℕ → ℕ → List ℕ
shape big blocksize n files file =
    (((signed_digits big 4 (pos blocksize) ++ signed_digits big 4 (pos n)) ++ signed_digits big 4 (pos files))
    ++ signed_digits big 4 (pos file)) ++ replicate 16 0

-- both: the fields before the prefix
abbrev pub first_fields : Bool → Head → List ℕ
first_fields big h = versions big h.version h.patch h.format ++ shape big h.blocksize h.n h.files h.file
