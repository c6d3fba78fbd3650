-- `models::strays` meets its contract. Assumes nothing.
use Rattle.models.proofs.Straying.{stray_test}
use Rattle.models.proofs.records.strays.Goals as goal

pub returns : goal.returns
returns c = stray_test c.args.n c.args.set c.below.result c.ranges.set.fits c.below.type_inv c.below.ensures
