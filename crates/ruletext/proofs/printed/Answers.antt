-- `printed` gives the line of what was kept. Assumes nothing.
use Rattle.ruletext.proofs.Printing.{printed_for}
use Rattle.ruletext.proofs.printed.Goals as goal

pub returns : goal.returns
returns c = printed_for c.front.ensures c.line.ensures
