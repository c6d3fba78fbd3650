-- `demands::demand_3` meets its contract. Assumes nothing.
use Rattle.demands.proofs.Demand3.{demand_3}
use Rattle.demands.proofs.demand_3.Goals as goal

pub returns : goal.returns
returns c = demand_3
