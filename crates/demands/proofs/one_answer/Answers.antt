-- `demands::one_answer` meets its contract. Assumes nothing.
use Rattle.demands.proofs.Calls.{calls_once}
use Rattle.demands.proofs.one_answer.Goals as goal

pub returns : goal.returns
returns c = calls_once
