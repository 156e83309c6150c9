-- The copy into the part of out from `done` on is a splice of the whole.
use mathlib.Core.Path.{◌≡◌, ap, ◌∙◌}
use mathlib.Core.List.{List}
use Prim.Native.Nat.{ℕ, ◌-◌, ◌≤◌, min}
use Rattle.std.proofs.lemmas.List.{take_min}
use native.Mathlib.Nat.{add-zero}
use native.Mathlib.Omega.{arith}
use lib.ListN.{length, take, drop, length-drop, take-append-drop, drop_of_length-le}
use lib.Seq.{take_all, take-nil}
use Rattle.lists.specs.Splice.{splice}
use Rattle.lists.proofs.Splice.{splice_part}
use Rattle.lists.proofs.Copies.{take_short}
use Rattle.reads.proofs.copy_chunk.Goals as goal

-- a part that is skipped whole
nothing_left : (out part : List ℕ) (done n skip : ℕ) → length part ≤ skip → out ≡ splice out done (take n (drop skip part))
unfolding splice
nothing_left out part done n skip h =
    rw (drop_of_length-le part h, take-nil, add-zero, take-append-drop)

pub returns-then-part-skip-clause-out_after : goal.returns-then-part-skip-clause-out_after
returns-then-part-skip-clause-out_after c =
    let a = c.args in
    nothing_left a.out.now a.part.now a.done (length a.out.now - a.done) a.skip c.if-part-skip.true

-- what fits of the rest
fits : (part : List ℕ) (n skip : ℕ) {k : ℕ}
    → k ≡ min n (length (take (length part - skip) (drop skip part)))
    → take k (take (length part - skip) (drop skip part)) ≡ take n (drop skip part)
fits part n skip e =
    rw e (take_min n (take (length part - skip) (drop skip part)) ∙ ap (take n) (take_all (length part - skip) (drop skip part) (simp length-drop (omega arith))))

pub returns-clause-out_after : goal.returns-clause-out_after
returns-clause-out_after c =
    let a = c.args in
    let n = length a.out.now - a.done in
    let copied = c.copy_in in
    splice_part a.out.now a.done n _ copied.new.part (take_short n (drop a.skip a.part.now)) (omega (arith, c.requires))
    (copied.ensures ∙ ap (splice (take n (drop a.done a.out.now)) 0) (fits a.part.now n a.skip c.min-copied.ensures))
