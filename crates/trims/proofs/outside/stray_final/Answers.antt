-- `stray_final` meets the finals with what is outside. Assumes nothing.
use Rattle.trims.proofs.Strays.{stray_final}
use Rattle.trims.proofs.outside.stray_final.Goals as goal

pub returns : goal.returns
returns c = stray_final _ _ c.requires c.below.ensures c.ranges.finals.fits
