-- Zeros into the part from `from` up to `to`.
use Prim.Native.Nat.{ℕ, ◌-◌}
use mathlib.Core.Path.{◌≡◌}
use native.Mathlib.Omega.{arith}
use lib.ListN.{length, take, drop, replicate, length-drop, length-replicate}
use lib.Seq.{length-take-le}
use Rattle.lists.proofs.Stores.{spends_part}
use Rattle.runs.proofs.put_zeros.Goals as goal

pub returns : goal.returns
returns c =
    let a = c.args in
    let xs = a.image.now in
    let n = a.to - a.from in
    let whole : length (take n (drop a.from xs)) ≡ n = length-take-le n (drop a.from xs) (simp length-drop (omega arith)) in
    let zeros = length-replicate {A = ℕ} n 0 in
    spends_part a.budget xs a.from n (replicate n 0) (omega (arith, zeros)) (omega arith) (rw whole at c.clear_within.ensures)
