-- Document 01, "Numbers that bound the work": each limit once, and the rule that each number follows. A rule judges an integer: a field of a
-- container is signed, and a number of a record is put under `pos`.
use Rattle.std.specs.Prelude.{Bool, true, not, ◌&&◌, ◌≡◌, List, ℕ, ◌^◌, ◌≤◌, eqb, ℤ, pos, length, get_or}
use Rattle.lists.specs.Below.{all_below, any_below}
use Rattle.endian.specs.Signed.{within, same_z, natural}

abbrev pub max_tasks : ℕ
max_tasks = 64

abbrev pub min_blocksize : ℕ
min_blocksize = 512

abbrev pub max_blocksize : ℕ
max_blocksize = 4_194_304

abbrev pub max_size : ℕ
max_size = 1_073_741_824

abbrev pub max_blocks : ℕ
max_blocks = 32

abbrev pub max_rank : ℕ
max_rank = 2_147_483_647

-- the two values of fileformat_version: document 01's, and the one in which "a task which wrote nothing still has count 1" (W-209)
abbrev pub plain_format : ℕ
plain_format = 3

abbrev pub idle_format : ℕ
idle_format = 4

-- "Loading and opening take 3 or 4"
unfoldable pub format_rule : ℤ → Bool
format_rule format = within plain_format idle_format format

-- "Tasks 1 to 64"
unfoldable pub tasks_rule : ℤ → Bool
tasks_rule n = within 1 max_tasks n

-- the binary digits of the widest number
abbrev pub word_bits : ℕ
word_bits = 64

-- 2 ^ j for some j that a word has digits for
unfoldable pub power_of_two : ℕ → Bool
power_of_two b = any_below word_bits (λ j. eqb b (2 ^ j))

-- "blocksize is a power of two from 512 to 4,194,304"
unfoldable pub blocksize_rule : ℤ → Bool
blocksize_rule b = within min_blocksize max_blocksize b && power_of_two (natural b)

-- "Requested size 1 to 1,073,741,824", for each of n tasks
unfoldable pub sizes_rule : ℕ → (ℕ → ℤ) → Bool
sizes_rule n size = all_below n (λ i. within 1 max_size (size i))

-- "Planned blocks K, given at opening, 1 to 32"; maxchunks "may be 0"
unfoldable pub planned_rule : ℤ → Bool
planned_rule k = within 1 max_blocks k

unfoldable pub maxchunks_rule : ℤ → Bool
maxchunks_rule m = within 0 max_blocks m

-- a number is none of those before it
unfoldable pub is_new : (ℕ → ℤ) → ℕ → Bool
is_new rank i = all_below i (λ j. not (same_z (rank j) (rank i)))

-- no two of n numbers are the same
unfoldable pub all_different : ℕ → (ℕ → ℤ) → Bool
all_different n rank = all_below n (is_new rank)

-- "Ranks from 0 to 2,147,483,647, all different, in any order"
unfoldable pub ranks_rule : ℕ → (ℕ → ℤ) → Bool
ranks_rule n rank = all_below n (λ i. within 0 max_rank (rank i)) && all_different n rank

-- the rule of one rank among others: in its range, and none of those before it
unfoldable pub rank_rule : (ℕ → ℤ) → ℕ → Bool
rank_rule rank i = within 0 max_rank (rank i) && is_new rank i

-- what the layout's functions ask of the numbers that they are handed: none over its limit, and a size for each task
pub record Sound (b n : ℕ) (sizes : List ℕ) : Type 0 where
  pub block : blocksize_rule (pos b) ≡ true
  pub tasks : n ≤ max_tasks
  pub listed : n ≤ length sizes
  pub sized : sizes_rule n (λ i. pos (get_or sizes i 0)) ≡ true
