-- `demands::rules_as_text` meets its contract. Assumes nothing.
use Rattle.demands.proofs.Texts.{texts}
use Rattle.demands.proofs.rules_as_text.Goals as goal

pub returns : goal.returns
returns c = texts
