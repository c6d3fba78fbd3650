-- `demands::demand_1` meets its contract. Assumes nothing.
use Rattle.demands.proofs.Demand1.{demand_1}
use Rattle.demands.proofs.demand_1.Goals as goal

pub returns : goal.returns
returns c = demand_1
