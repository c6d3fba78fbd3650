-- `automata::finals::raise` meets its contract. Assumes nothing.
use Rattle.automata.proofs.FinalSets.{shifted}
use Rattle.automata.proofs.finals.raise.Goals as goal

pub returns : goal.returns
returns c = shifted c.args.set c.args.k c.requires
