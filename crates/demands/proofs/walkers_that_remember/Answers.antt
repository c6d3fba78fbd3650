-- `demands::walkers_that_remember` meets its contract. Assumes nothing.
use Rattle.demands.proofs.Walkers.{walkers_hold}
use Rattle.demands.proofs.walkers_that_remember.Goals as goal

pub returns : goal.returns
returns c = walkers_hold
