-- `parts::parts` meets its contract: the rows passed are what the test says. Assumes nothing.
use Rattle.judge.proofs.Rows.{RowsTo}
use Rattle.judge.proofs.parts.parts.Given as goal

abbrev pub invariant-loop-i : goal.invariant-loop-i
invariant-loop-i g l = RowsTo (goal.F-post g l.test) l.out l.i-counter
