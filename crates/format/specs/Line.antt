-- The one line that is printed for an input (document 01): "the refusal number alone, or 0, n, maxchunks and each task's total, in decimal with
-- single spaces", loaded "with a table of 2,048 cells", or `long`. The line's end is not part of it.
use Rattle.std.specs.Prelude.{cond, List, [], ◌∷◌, ◌++◌, ℕ, zero, suc, ◌+◌, ◌/◌, ◌%◌, ltb, eqb, ℤ, pos, length, replicate}
use Rattle.lists.specs.Below.{list_below}
use Rattle.format.specs.declared.head.File.TheVariants.{Single}
use Rattle.format.specs.declared.loaded.LoadAnswer.{LoadAnswer}
use Rattle.format.specs.Load.{load_answer, load_table}
use Rattle.format.specs.Reads.{Container, container_of, total_answer}

-- how many decimal digits a number has, which needs no more than `most` of them after the first, and its digits
abbrev pub places : ℕ → ℕ → ℕ
places zero n = 1
places (suc most) n = cond (ltb n 10) 1 (suc (places most (n / 10)))

-- the digits that the widest number has
abbrev pub widest : ℕ
widest = 20

-- the last k decimal digits of n in ASCII, the highest first
abbrev pub last_digits : ℕ → ℕ → List ℕ
last_digits zero n = []
last_digits (suc k) n = last_digits k (n / 10) ++ ((48 + n % 10) ∷ [])

abbrev pub decimal : ℕ → List ℕ
decimal n = last_digits (places widest n) n

-- numbers in decimal, each after the first behind one space
abbrev pub space : ℕ
space = 32

abbrev pub spaced : List ℕ → List ℕ
spaced [] = []
spaced (n ∷ ns) = (space ∷ decimal n) ++ spaced ns

abbrev pub cells : ℕ
cells = 2_048

-- the total of each task of a loaded container
unfoldable pub totals_of : Container → List ℕ
totals_of c = list_below c.loaded.head.n (λ i. (total_answer c (i + 1)).bytes)

-- "one container of at most 65,536 bytes"; "A longer input prints `long`"
abbrev pub longest : ℕ
longest = 65_536

abbrev pub long : List ℕ
long = 108 ∷ 111 ∷ 110 ∷ 103 ∷ []

-- line_room for every line and its end
abbrev pub line_room : ℕ
line_room = 1_408

module _ (input : List ℕ) where
  abbrev blank : List ℤ
  blank = replicate cells (pos 0)

  unfoldable pub loaded : LoadAnswer
  loaded = load_answer Single input blank

  -- the numbers after the first
  unfoldable pub rest : List ℕ
  rest =
      cond (eqb loaded.refusal 0)
      (loaded.loaded.head.n
      ∷ loaded.loaded.maxchunks
      ∷ totals_of (container_of Single loaded.loaded loaded.lists input (load_table Single input blank)))
      []

  unfoldable pub container_line : List ℕ
  container_line = decimal loaded.refusal ++ spaced rest

  unfoldable pub line_of : List ℕ
  line_of = cond (ltb longest (length input)) long container_line
