-- Blocksize is 2 to the number of its trailing zeros, so the shifts round by it, and nothing is shifted out.
use native.Mathlib.Omega.{arith}
use lib.Count.{count_trailing_zeros}
use Rattle.format.proofs.Bounds.{round_up_small}
use Rattle.format.proofs.Power.{blocksize_facts, blocksize_power}
use Rattle.format.proofs.Rounding.{round_up_shifts}
use Rattle.layout.proofs.round_up.Goals as goal

pub overflow_sub-last : goal.overflow_sub-last
overflow_sub-last c = omega (arith, blocksize_facts c.args.blocksize c.requires.0)

pub returns : goal.returns
returns c =
    let b = c.args.blocksize in
    round_up_shifts 64 (count_trailing_zeros 32 b) b c.args.x
    (blocksize_power 32 b c.ranges.blocksize.fits c.requires.0)
    (omega (arith, round_up_small b c.args.x c.requires.0 c.requires.1))
