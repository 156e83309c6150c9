use Rattle.std.proofs.Common.{◌≡◌, ℕ, ◌+◌, ◌≤◌, List, ◌++◌, rules, length, take, sym, ap, ◌∙◌, subst, length-take-le}
use Rattle.std.proofs.lemmas.List.{take-append-le}
use Rattle.std.proofs.Math.Seq.{take-append-add}
use Rattle.std.specs.Io.KnownBytes.{Consumes}
use Rattle.std.proofs.KnownBytes.{Consumes-trans}
use Rattle.streams.proofs.input.read_input.Goals as goal

-- what was read into the part stands behind the front
front_more : (front part rest : List ℕ) (at n : ℕ) → length front ≡ at → n ≤ length part
    → take (at + n) (front ++ (part ++ rest)) ≡ front ++ take n part
front_more front part rest at n long fits =
    ap (λ k. take (k + n) (front ++ (part ++ rest))) (sym long) ∙ take-append-add front (part ++ rest) n ∙ ap (λ l. front ++ l) (take-append-le n part rest fits)

pub loop-done-preserved : goal.loop-done-preserved
loop-done-preserved g c =
    let buf = c.loop-done.buf in
    let done = c.loop-done.done in
    let read = c.in_ok-n.ensures in
    let more = front_more (take done buf) c.read_some.new.part _ done c.in_ok-n.n (length-take-le done buf c.loop-done.invariant.0) read.fits in
    (search rules, search rules, subst (Consumes _ _) (sym more) (Consumes-trans _ _ _ _ _ c.loop-done.invariant.2 read.bytes))
