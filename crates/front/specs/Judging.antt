-- META1's fixed fields as code judges them, part by part: what each part gives, and what is known of the first bytes as they are judged.
use Rattle.std.specs.Prelude.{◌≡◌, true, not, ◌||◌, List, ℕ, ◌≤◌, ltb, ℤ, pos, length}
use Rattle.format.specs.Limits.{max_tasks, blocksize_rule}
use Rattle.format.specs.Layout.{meta1_end}
use Rattle.format.specs.declared.head.Head.{Head}
use Rattle.format.specs.Kinds
use Rattle.format.specs.Meta1.{order_at}
use Rattle.format.specs.Refusals.{Test, test_at}
use Rattle.format.specs.Judge.{is, number_fault, ordered_in, head_in}

-- xs has as many of an image's first bytes as META1 can have, or all of the image's
abbrev pub Covers : ℕ → List ℕ → Type 0
Covers len xs = (k : ℕ) → k ≤ len → k ≤ meta1_end max_tasks → k ≤ length xs

-- test 2, of an image of `len` bytes
abbrev pub order_test : List ℕ → ℕ → Test
order_test xs len = test_at 2 (number_fault Kinds.order order_at (pos 0) 0 0) (ltb len 8 || not (ordered_in xs))

-- test 7 of one of its two fields, which has to have this value
abbrev pub value_test : ℕ → ℕ → ℤ → ℕ → Test
value_test kind place says value = test_at 7 (number_fault kind place says value value) (not (is value says))

-- the fixed fields gave this head, whose blocksize and number of tasks keep their rules, and all of META1 is there
pub record HeadRead (xs : List ℕ) (len : ℕ) (h : Head) : Type 0 where
  pub covers : Covers len xs
  pub head_is : h ≡ head_in xs
  pub block : blocksize_rule (pos h.blocksize) ≡ true
  pub few : h.n ≤ max_tasks
  pub long : meta1_end h.n ≤ len
