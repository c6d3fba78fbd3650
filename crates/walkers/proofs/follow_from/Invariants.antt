-- `follow_from` meets its contract: at each turn what is left to follow tells what the whole does. Assumes nothing.
use Rattle.walkers.proofs.Answers.{Following}
use Rattle.walkers.proofs.follow_from.Given as goal

abbrev pub invariant-loop-i : goal.invariant-loop-i
invariant-loop-i g l = Following (g.L.Layout.table l.layout) l.finals l.letters l.fn.set l.set l.i
