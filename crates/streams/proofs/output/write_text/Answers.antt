use Rattle.std.proofs.Common.{◌++◌, take, append_assoc}
use Rattle.std.proofs.lemmas.List.{take_rest, take-append-drop}
use Rattle.std.proofs.KnownBytes.{Appends-trans}
use Rattle.streams.proofs.output.write_text.Goals as goal

-- the bytes that the write took stand in the text behind those before
pub loop-rest-preserved : goal.loop-rest-preserved
loop-rest-preserved g c =
    let i = c.loop-rest.invariant in
    let n = c.in_ok-n.n in
    (i.0 ++ take n c.loop-rest.rest.now, simp (append_assoc, take_rest, take-append-drop) i.1, Appends-trans _ _ _ _ _ i.2 c.in_ok-n.ensures.bytes)
