-- Numbers that the papers name but have no entry for, as answers: what a chunk holds, for who cuts a stream into requests; and of a loaded
-- container, by its record, its lists, its image and its table, its length and its filename prefix, for who shows it to a person.
use Rattle.std.specs.Prelude.{cond, not, List, [], ◌∷◌, ℕ, ◌+◌, eqb, pos, take, drop}
use Rattle.endian.specs.Signed.{within}
use Rattle.format.specs.Limits.{max_size, blocksize_rule}
use Rattle.format.specs.Layout.{capacity}
use Rattle.format.specs.declared.loaded.Part.{Part}
use Rattle.format.specs.declared.loaded.ByteCount.{ByteCount}
use Rattle.format.specs.Refusals.{Test, test, first_failing}
use Rattle.format.specs.Meta1.{prefix_at, prefix_length}
use Rattle.format.specs.Record.{size_of, end_at}
use Rattle.format.specs.Reads.{Container, loaded_tests}

-- a task's chunk size, by its requested size and the blocksize: the tests that an opening has for these two, 5 and 9
unfoldable pub size_tests : ℕ → ℕ → List Test
size_tests size blocksize = test 5 (not (blocksize_rule (pos blocksize))) ∷ test 9 (not (within 1 max_size (pos size))) ∷ []

unfoldable pub chunk_size_answer : ℕ → ℕ → ByteCount
chunk_size_answer size blocksize =
    let refusal = first_failing (size_tests size blocksize) in
    cond (eqb refusal 0) (record { refusal = 0; bytes = capacity blocksize size }) (record { refusal = refusal; bytes = 0 })

-- how many bytes come before the first zero; all of them, where none is zero
unfoldable pub before_zero : List ℕ → ℕ
before_zero [] = 0
before_zero (b ∷ bs) = cond (eqb b 0) 0 (1 + before_zero bs)

module _ (c : Container) where
  unfoldable pub whole_refusal : ℕ
  whole_refusal = first_failing (loaded_tests c)

  -- "META2 has 8n(1+maxchunks) bytes" and is the last of a container; what follows in the image is not looked at
  unfoldable pub length_answer : ByteCount
  length_answer =
      cond (eqb whole_refusal 0) (record { refusal = 0; bytes = end_at c.loaded.head (size_of c.lists) c.loaded.maxchunks })
      (record { refusal = whole_refusal; bytes = 0 })

  -- "filename prefix; ours is followed by zeros", handed back as a place in the image
  unfoldable pub prefix_answer : Part
  prefix_answer =
      cond (eqb whole_refusal 0) (record {
        refusal = 0;
        start = prefix_at;
        length = before_zero (take prefix_length (drop prefix_at c.image));
      })
      (record { refusal = whole_refusal; start = 0; length = 0 })
