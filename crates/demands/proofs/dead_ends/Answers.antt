-- `demands::dead_ends` meets its contract. Assumes nothing.
use Rattle.demands.proofs.DeadEnds.{dead_ends}
use Rattle.demands.proofs.dead_ends.Goals as goal

pub returns : goal.returns
returns c = dead_ends
