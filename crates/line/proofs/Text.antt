-- A text of numbers that grows by one more, and what the line says of each task.
use mathlib.Core.Path.{◌≡◌, sym, ap, ◌∙◌}
use mathlib.Core.List.{List, [], ◌∷◌, ◌++◌, append_assoc, append-nil}
use Prim.Native.Nat.{ℕ, ◌+◌, ◌-◌, ◌≤◌}
use native.Mathlib.Omega.{arith}
use Rattle.lists.specs.Below.{list_below}
use Rattle.lists.proofs.Below.{join_more}
use Rattle.format.specs.Reads.{Container, total_answer}
use Rattle.format.specs.Line.{decimal, space, spaced}

spaced_one : (ns : List ℕ) (n : ℕ) → spaced (ns ++ (n ∷ [])) ≡ spaced ns ++ (space ∷ decimal n)
spaced_one [] n = append-nil (space ∷ decimal n)
spaced_one (m ∷ ns) n =
    ap (◌++◌ (space ∷ decimal m)) (spaced_one ns n) ∙ sym (append_assoc (space ∷ decimal m) (spaced ns) (space ∷ decimal n))

pub spaced_more : (f : ℕ → ℕ) (i : ℕ) → spaced (list_below (i + 1) f) ≡ spaced (list_below i f) ++ (space ∷ decimal (f i))
spaced_more f i = ap spaced (join_more (λ j. f j ∷ []) i) ∙ spaced_one (list_below i f) (f i)

-- the total of the task i + 1
abbrev pub totals : Container → ℕ → ℕ
totals c i = (total_answer c (i + 1)).bytes

-- the totals before a task, and its own
pub totals_more : (c : Container) (task : ℕ) → 1 ≤ task
    → spaced (list_below (task - 1) (totals c)) ++ (space ∷ decimal (total_answer c task).bytes) ≡ spaced (list_below task (totals c))
totals_more c task one =
    let e : task - 1 + 1 ≡ task = omega arith in
    let Told : ℕ → List ℕ = λ k. spaced (list_below k (totals c)) in
    ap (λ t. Told (task - 1) ++ (space ∷ decimal (total_answer c t).bytes)) (sym e) ∙ sym (spaced_more (totals c) (task - 1)) ∙ ap Told e
