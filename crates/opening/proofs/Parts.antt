-- Parts of a list that were filled or copied, put back: each is a splice of the list.
use Prim.Native.Nat.{ℕ, ◌+◌, ◌-◌, ◌*◌, ◌≤◌}
use mathlib.Core.Path.{◌≡◌, refl, sym, ap, ap₂, ◌∙◌}
use mathlib.Core.List.{List, ◌++◌}
use native.Mathlib.Omega.{arith}
use lib.IntN.{ℤ, pos}
use lib.ListN.{length, take, drop, replicate, length-drop, length-replicate}
use lib.Seq.{length-take-le}
use Rattle.lists.specs.Splice.{splice}
use Rattle.lists.proofs.Below.{list_replicate}
use Rattle.lists.proofs.Splice.{splice_whole, splice_next, length_splice}
use Rattle.format.specs.Limits.{max_tasks}
use Rattle.format.specs.Meta2.{unused}
use Rattle.format.specs.Open.{blank_cells}
use Rattle.format.specs.Record.{all_lists, with_counts}
use Rattle.format.proofs.Blank.{blank_parts}

-- the list with k elements from `at` on in place of as many
abbrev back : {A : Type 0} → ℕ → ℕ → List A → List A → List A
back at k xs part = take at xs ++ (part ++ drop k (drop at xs))

pub part_filled : {A : Type 0} (xs : List A) (at n k : ℕ) (v : A) {part : List A} → k ≡ n → at + n ≤ length xs
    → part ≡ replicate (length (take k (drop at xs))) v → back at k xs part ≡ splice xs at (replicate n v)
part_filled xs at n k v same fits filled =
    let long : length (take k (drop at xs)) ≡ n = length-take-le k (drop at xs) (simp length-drop (omega arith)) ∙ same in
    splice_whole xs at (replicate n v) k (rw long at filled) (rw (length-replicate n v) (omega arith))

-- ranks, sizes and counts
pub stripes_put : (xs ranks sizes : List ℕ) (count : ℕ) {firsts seconds thirds : List ℕ} → length xs ≡ all_lists → length ranks ≤ max_tasks
    → length sizes ≡ length ranks → firsts ≡ ranks → seconds ≡ sizes
    → let n = length ranks in
    let sized = back max_tasks (max_tasks + n - max_tasks) (firsts ++ drop n xs) seconds in
    thirds ≡ replicate (length (take (2 * max_tasks + n - 2 * max_tasks) (drop (2 * max_tasks) sized))) count
    → back (2 * max_tasks) (2 * max_tasks + n - 2 * max_tasks) sized thirds
    ≡ with_counts (splice (splice xs 0 ranks) max_tasks sizes) n (λ i. count)
unfolding with_counts
stripes_put xs ranks sizes count {firsts} {seconds} {thirds} long few same first second third =
    let n : ℕ = length ranks in
    let ranked : firsts ++ drop n xs ≡ splice xs 0 ranks = splice_whole xs 0 ranks n first refl in
    let sized : back max_tasks (max_tasks + n - max_tasks) (firsts ++ drop n xs) seconds ≡ splice (splice xs 0 ranks) max_tasks sizes =
    splice_whole _ max_tasks sizes (max_tasks + n - max_tasks) second (omega arith) ∙ ap (λ (ys : List ℕ). splice ys max_tasks sizes) ranked in
    let kept : length (splice (splice xs 0 ranks) max_tasks sizes) ≡ all_lists =
    length_splice (splice xs 0 ranks) max_tasks sizes (omega (arith, length_splice xs 0 ranks (omega arith)))
    ∙ length_splice xs 0 ranks (omega arith) ∙ long in
    part_filled _ (2 * max_tasks) n (2 * max_tasks + n - 2 * max_tasks) count (omega arith) (omega (arith, ap length sized, kept)) third
    ∙ ap₂ (λ (ys counts : List ℕ). splice ys (2 * max_tasks) counts) sized (sym (list_replicate n count))

-- cells of begun chunks, then of the others
pub cells_put : (xs : List ℤ) (n begun planned : ℕ) {firsts seconds : List ℤ} → begun ≤ planned → n * planned ≤ length xs
    → firsts ≡ replicate (length (take (n * begun) xs)) (pos 0)
    → let used = n * begun in
    let begun' = firsts ++ drop used xs in
    seconds ≡ replicate (length (take (n * planned - used) (drop used begun'))) unused
    → back used (n * planned - used) begun' seconds ≡ splice xs 0 (blank_cells begun n planned)
unfolding blank_cells
cells_put xs n begun planned {firsts} {seconds} fewer fits first second =
    let used : ℕ = n * begun in
    let others : ℕ = n * (planned - begun) in
    let both : used + others ≡ n * planned = blank_parts begun n planned fewer in
    let zeros : firsts ++ drop used xs ≡ splice xs 0 (replicate used (pos 0)) = part_filled xs 0 used used (pos 0) refl (omega arith) first in
    let long : length (replicate used (pos 0)) ≡ used = length-replicate used (pos 0) in
    let kept : length (firsts ++ drop used xs) ≡ length xs = ap length zeros ∙ length_splice xs 0 (replicate used (pos 0)) (omega arith) in
    part_filled _ used others (n * planned - used) unused (omega arith) (omega arith) second
    ∙ ap₂ (λ (ys : List ℤ) (at : ℕ). splice ys at (replicate others unused)) zeros (omega (arith, long))
    ∙ splice_next xs 0 (replicate used (pos 0)) (replicate others unused) (omega (arith, long, length-replicate others unused))
