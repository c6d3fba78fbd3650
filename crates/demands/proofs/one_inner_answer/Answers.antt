-- `demands::one_inner_answer` meets its contract. Assumes nothing.
use Rattle.demands.proofs.Inner.{inner_once}
use Rattle.demands.proofs.one_inner_answer.Goals as goal

pub returns : goal.returns
returns c = inner_once
