-- Ranks, then sizes, then counts put into lists of zeros.
use mathlib.Core.Path.{◌≡◌, refl, sym, ap, ap₂, ◌∙◌}
use mathlib.Core.List.{List}
use Prim.Native.Nat.{ℕ}
use lib.ListN.{length}
use lib.Seq.{ext_get_or}
use Rattle.lists.specs.Below.{list_below}
use Rattle.lists.specs.Splice.{splice}
use Rattle.lists.proofs.Below.{length_list, get_or_list}
use Rattle.format.specs.Limits.{max_tasks}
use Rattle.format.specs.Record.{entry, no_lists, with_counts}
use Rattle.format.proofs.Stripes.{lists_put, counts_put}
use Rattle.opening.proofs.lists_of.Goals as goal

-- a list is that of its entries
list_is : (xs : List ℕ) (n : ℕ) → length xs ≡ n → xs ≡ list_below n (entry xs)
list_is xs n long = sym (ext_get_or 0 _ xs (length_list (entry xs) n ∙ sym long) (λ i l. get_or_list (entry xs) n i 0 (rw length_list at l)))

pub returns : goal.returns
returns c =
    let a = c.args in
    let n : ℕ = length a.ranks.now in
    let rank = entry a.ranks.now in
    let size = entry a.sizes.now in
    let ranks = list_is a.ranks.now n refl in
    let sizes = list_is a.sizes.now n c.requires.1 in
    c.put_lists.ensures
    ∙ ap₂ (λ (ranks sizes : List ℕ). with_counts (splice (splice no_lists 0 ranks) max_tasks sizes) n (λ i. a.begun)) ranks sizes
    ∙ ap (λ (lists : List ℕ). with_counts lists n (λ i. a.begun)) (lists_put n rank size c.requires.0)
    ∙ counts_put n rank size c.requires.0 (λ i. a.begun)
