-- `demands::tables_trimmed` meets its contract. Assumes nothing.
use Rattle.demands.proofs.Trimming.{trimming_holds}
use Rattle.demands.proofs.tables_trimmed.Goals as goal

pub returns : goal.returns
returns c = trimming_holds
