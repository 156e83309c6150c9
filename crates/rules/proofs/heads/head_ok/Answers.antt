-- The tests one after the other. A head whose numbers keep their rules has an entry of each stripe for each task.
use mathlib.Core.Path.{◌≡◌, sym, ◌∙◌}
use mathlib.Core.Bool.{Bool, true, false, ◌&&◌}
use mathlib.Core.List.{List}
use Prim.Native.Nat.{ℕ, ◌≤◌}
use native.Mathlib.Omega.{arith}
use lib.IntN.{pos}
use lib.ListN.{length}
use lib.Seq.{length-take-le}
use Rattle.lists.proofs.Below.{and_right}
use Rattle.format.specs.declared.head.Head.{Head}
use Rattle.format.specs.Limits.{tasks_rule, format_rule, blocksize_rule, ranks_rule}
use Rattle.format.specs.Record.{is_order, all_lists, head_sound, ranks_of, sizes_of, rank_of}
use Rattle.format.proofs.Fields.{tasks_facts}
use Rattle.format.proofs.Stripes.{length_ranks, length_sizes}
use Rattle.rules.proofs.First.{ranks_taken, sizes_taken}
use Rattle.rules.proofs.heads.head_ok.Goals as goal
use Rattle.rules.proofs.heads.head_ok.Goals.{then-numbers_ok, else-numbers_ok}

abbrev numbers : Head → Bool
numbers h = is_order h.order && format_rule (pos h.format) && blocksize_rule (pos h.blocksize) && tasks_rule (pos h.n)

module _ (h : Head) (lists : List ℕ) (long : length lists ≡ all_lists) (sound : numbers h ≡ true) where
  few : h.n ≤ 64
  few = (tasks_facts h.n (and_right _ (tasks_rule (pos h.n)) sound)).1

  ranked : h.n ≤ length (ranks_of lists)
  ranked = omega (arith, few, length_ranks lists long)

  sized : h.n ≤ length (sizes_of lists)
  sized = omega (arith, few, length_sizes lists long)

pub slice_bounds-ranks_ok-end : goal.slice_bounds-ranks_ok-end
slice_bounds-ranks_ok-end c =
    sym (length-take-le _ _ (ranked c.args.h c.args.lists.now c.told-lists (sym c.numbers_ok.ensures ∙ c.if-numbers_ok.true)))

pub slice_bounds-sizes_ok-end : goal.slice_bounds-sizes_ok-end
slice_bounds-sizes_ok-end c = elim c.if-numbers_ok.branch [
  | then-numbers_ok w ↦ sym (length-take-le _ _ (sized c.args.h c.args.lists.now c.told-lists (sym c.numbers_ok.ensures ∙ w.if-numbers_ok.true)))
  | else-numbers_ok w ↦ absurd (cc (w.value-is, w.if-numbers_ok.false, c.if-ranks_ok.true))
]

pub returns-then-ranks_ok : goal.returns-then-ranks_ok
unfolding head_sound
returns-then-ranks_ok c =
    let h = c.args.h in
    let lists = c.args.lists.now in
    elim c.if-numbers_ok.branch [
      | then-numbers_ok w ↦
          let sound : numbers h ≡ true = sym c.numbers_ok.ensures ∙ w.if-numbers_ok.true in
          let held : ranks_rule h.n (λ i. pos (rank_of lists i)) ≡ true =
          sym (ranks_taken h.n (ranks_of lists) (ranked h lists c.told-lists sound)) ∙ sym w.ranks_ok.ensures ∙ sym w.value-is ∙ c.if-ranks_ok.true in
          rw (sound, held) (c.sizes_ok.ensures ∙ sizes_taken h.n (sizes_of lists) (sized h lists c.told-lists sound))
      | else-numbers_ok w ↦ absurd (cc (w.value-is, w.if-numbers_ok.false, c.if-ranks_ok.true))
    ]

pub returns-else-ranks_ok : goal.returns-else-ranks_ok
unfolding head_sound
returns-else-ranks_ok c =
    let h = c.args.h in
    let lists = c.args.lists.now in
    elim c.if-numbers_ok.branch [
      | then-numbers_ok w ↦
          let sound : numbers h ≡ true = sym c.numbers_ok.ensures ∙ w.if-numbers_ok.true in
          let failed : ranks_rule h.n (λ i. pos (rank_of lists i)) ≡ false =
          sym (ranks_taken h.n (ranks_of lists) (ranked h lists c.told-lists sound)) ∙ sym w.ranks_ok.ensures ∙ sym w.value-is ∙ c.if-ranks_ok.false in
          rw (sound, failed) c.if-ranks_ok.false
      | else-numbers_ok w ↦
          let unsound : numbers h ≡ false = sym c.numbers_ok.ensures ∙ w.if-numbers_ok.false in
          rw unsound c.if-ranks_ok.false
    ]
