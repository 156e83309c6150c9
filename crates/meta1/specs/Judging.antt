-- META1's lists and last two fields as code judges them: what they give, and what is known of the first bytes as they are judged.
use Rattle.std.specs.Prelude.{◌≡◌, List, ℕ, ◌+◌, ◌*◌, ◌<◌}
use Rattle.endian.specs.Number.{number_at}
use Rattle.format.specs.Limits.{Sound}
use Rattle.format.specs.declared.head.Head.{Head}
use Rattle.meta1.specs.declared.Last.{Last}
use Rattle.front.specs.Judging.{HeadRead}
use Rattle.format.specs.Refusals.{first_failing}
use Rattle.format.specs.Meta1
use Rattle.format.specs.Record.{entry, lists_of, is_big}
use Rattle.format.specs.Judge.{maxchunks_in, meta2_in, size_in, rank_tests, requested_tests}

-- what the last two fields are where they pass: maxchunks, and META2's start
abbrev pub last_in : List ℕ → Last
last_in xs = record { maxchunks = maxchunks_in xs; start = meta2_in xs }

-- ranks and sizes as they stand, read without a sign, in lists with no count
unfoldable pub lists_read : List ℕ → Head → List ℕ
lists_read xs h =
    lists_of h.n (λ i. number_at (is_big h) 8 xs (Meta1.fixed_length + 8 * i))
    (λ i. number_at (is_big h) 8 xs (Meta1.fixed_length + 8 * h.n + 8 * i))
    (λ i. 0)

-- the fixed fields passed and gave this head, so did ranks and sizes, and these are the sizes
pub record ListsPassed (xs : List ℕ) (len : ℕ) (h : Head) (sizes : List ℕ) : Type 0 where
  pub head : HeadRead xs len h
  pub ranked : first_failing (rank_tests xs) ≡ 0
  pub sized : first_failing (requested_tests xs) ≡ 0
  pub sound : Sound h.blocksize h.n sizes
  pub sizes_are : (i : ℕ) → i < h.n → entry sizes i ≡ size_in xs i
