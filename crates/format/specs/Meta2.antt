-- Document 01, "The second metadata block, META2": where its numbers stand, the rule for them, and META2 as a list of bytes. A value is judged
-- against what a chunk holds (`capacity`), handed over as `holds`, and never against the requested size by name. Tasks and chunks are counted
-- from 0 here: i for task i + 1, k for chunk k + 1.
use Rattle.std.specs.Prelude.{Bool, cond, ◌&&◌, List, ◌++◌, ℕ, ◌+◌, ◌*◌, ltb, eqb, ℤ, pos, negsuc, take, drop}
use Rattle.lists.specs.Below.{all_below, greatest_below, join_below}
use Rattle.endian.specs.Signed.{signed_at, signed_digits, within, same_z, natural}
use Rattle.format.specs.Limits.{idle_format}
use Rattle.format.specs.Layout.{meta2_length}

-- the part of an image that META2 is
abbrev pub meta2_part : List ℕ → ℕ → ℕ → ℕ → List ℕ
meta2_part image start n maxchunks = take (meta2_length n maxchunks) (drop start image)

-- "First n numbers of 8 bytes: chunks used by each task"
abbrev pub count_field : Bool → List ℕ → ℕ → ℤ
count_field big part i = signed_at big 8 part (8 * i)

-- "Then for chunk 1, 2, up to maxchunks, one number of 8 bytes for each task": value j among them, grouped by chunk number
abbrev pub value_field : Bool → List ℕ → ℕ → ℕ → ℤ
value_field big part n j = signed_at big 8 part (8 * n + 8 * j)

abbrev pub value_index : ℕ → ℕ → ℕ → ℕ
value_index n k i = k * n + i

-- "A chunk not used by a task has the value -1"
abbrev pub unused : ℤ
unused = negsuc 0

-- "bytes written there, from 0 to its chunk size", or -1
unfoldable pub value_rule : Bool → ℕ → ℤ → Bool
value_rule used holds value = cond used (within 0 holds value) (same_z value unused)

-- "A task's used chunks are its first ones: values at or below its count are 0 or more, all later ones are -1", for m chunks
unfoldable pub values_rule : ℕ → ℕ → (ℕ → ℕ) → (ℕ → ℕ) → (ℕ → ℤ) → Bool
values_rule n m holds count value =
    all_below m (λ k. all_below n (λ i. value_rule (ltb k (count i)) (holds i) (value (value_index n k i))))

-- the least count of a task: "4 means that a task which wrote nothing still has count 1 with 0 bytes in chunk 1" (W-209)
unfoldable pub least_count : ℕ → ℕ
least_count format = cond (eqb format idle_format) 1 0

-- counts from the least to maxchunks; "maxchunks is the greatest count, and may be 0"
unfoldable pub counts_rule : ℕ → ℕ → ℕ → (ℕ → ℤ) → Bool
counts_rule format n maxchunks count =
    all_below n (λ i. within (least_count format) maxchunks (count i)) && eqb (greatest_below n (λ i. natural (count i))) maxchunks

-- "META2 has 8n(1+maxchunks) bytes"
unfoldable pub meta2 : Bool → ℕ → ℕ → (ℕ → ℕ) → (ℕ → ℤ) → List ℕ
meta2 big n maxchunks count value =
    join_below n (λ i. signed_digits big 8 (pos (count i))) ++ join_below (n * maxchunks) (λ j. signed_digits big 8 (value j))
