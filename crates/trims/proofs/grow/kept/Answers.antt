-- `kept` joins the two directions, and 0. Assumes nothing.
use native.Mathlib.Omega.{arith}
use Rattle.trims.proofs.Keeping.{kept_both}
use Rattle.trims.proofs.grow.kept.Goals as goal

pub returns : goal.returns
returns c = kept_both c.requires.1 c.ranges.finals.fits _ _ _ c.grow-reached.ensures c.grow-ending.ensures c.with.ensures (omega (arith, c.with.type_inv))
