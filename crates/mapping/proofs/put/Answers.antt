-- The mapping made, and copied in as one run.
use mathlib.Core.Path.{refl, ap, ◌∙◌}
use Prim.Native.Nat.{ℕ, ◌+◌, ◌-◌}
use mathlib.Core.List.{List}
use native.Mathlib.Omega.{arith}
use lib.Dec.{ltb}
use lib.ListN.{length, take, replicate, length-take, length-drop}
use Rattle.lists.specs.Below.{join_below}
use Rattle.lists.specs.Splice.{splice}
use Rattle.lists.proofs.Stores.{spends_part, spends_same}
use Rattle.format.specs.Record.{entry}
use Rattle.pairs.specs.Mapping.{mapping_length}
use Rattle.mapping.specs.Entries.{task_in, entry_bytes}
use Rattle.mapping.proofs.Entries.{all_held, length_row, entries_are, length_mapping, mapping_made}
use Rattle.mapping.proofs.put.Goals as goal

pub put_entries-requires : goal.put_entries-requires
put_entries-requires c =
    let few = c.requires.few in
    let rank = entry c.args.first.now in
    let rank' = entry c.args.second.now in
    rw c.all_holders-holders.ensures
    (all_held _ _ _ _ few.0 few.1 c.requires.second_value, omega (arith, few, length_row _ _ rank rank' few.0 few.1, c.put.auto.s))

pub copy_within-requires : goal.copy_within-requires
unfolding mapping_length
copy_within-requires c = simp (length-take, length-drop) (omega (arith, c.requires))

pub returns : goal.returns
unfolding mapping_length
returns c =
    let a = c.args in
    let few = c.requires.few in
    let n = length a.first.now in
    let m = length a.second.now in
    let rank = entry a.first.now in
    let rank' = entry a.second.now in
    let xs = a.image.now in
    let row = ap (λ (held : List ℕ). splice c.put.new.s 4
    (join_below (length (take (n + m) held)) (λ r. entry_bytes a.big (ltb n (entry (take (n + m) held) r)) (task_in n (entry (take (n + m) held) r)))))
    c.all_holders-holders.ensures in
    let made = mapping_made n m rank rank' a.big (replicate {A = ℕ} 1028 0) (omega arith) c.put.ensures
    (c.put_entries.ensures ∙ row ∙ ap (splice c.put.new.s 4) (entries_are n m rank rank' a.big few.0 few.1 c.requires.second_value)) in
    let long = length_mapping n m rank rank' a.big in
    spends_part a.budget xs a.at (length xs - a.at) _ (omega (arith, long, c.requires)) (omega (arith, c.requires))
    (spends_same refl made c.copy_within.ensures)
