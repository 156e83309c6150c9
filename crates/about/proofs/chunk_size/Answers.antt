-- Each return is the answer that the tests before it lead to.
use mathlib.Core.Path.{◌≡◌, sym, ap, ◌∙◌}
use mathlib.Core.Bool.{true}
use lib.IntN.{pos}
use Rattle.endian.specs.Signed.{within}
use Rattle.format.specs.Limits.{max_size, blocksize_rule}
use Rattle.format.proofs.About.{size_given, size_refused_5, size_refused_9}
use Rattle.format.proofs.Stream.{counted}
use Rattle.about.proofs.chunk_size.Goals as goal

pub returns-then-not-blocksize_ok : goal.returns-then-not-blocksize_ok
returns-then-not-blocksize_ok c = sym (size_refused_5 _ _ (sym c.blocksize_ok.ensures ∙ c.if-not-blocksize_ok.true))

pub returns-then-not-size_ok : goal.returns-then-not-size_ok
returns-then-not-size_ok c =
    let block : blocksize_rule (pos c.args.blocksize) ≡ true = sym c.blocksize_ok.ensures ∙ c.if-not-blocksize_ok.false in
    sym (size_refused_9 _ _ block (sym c.size_ok.ensures ∙ c.if-not-size_ok.true))

pub returns : goal.returns
returns c =
    let block : blocksize_rule (pos c.args.blocksize) ≡ true = sym c.blocksize_ok.ensures ∙ c.if-not-blocksize_ok.false in
    let fits : within 1 max_size (pos c.args.size) ≡ true = sym c.size_ok.ensures ∙ c.if-not-size_ok.false in
    ap (counted 0) c.chunk_holds.ensures.holds ∙ sym (size_given _ _ block fits)
