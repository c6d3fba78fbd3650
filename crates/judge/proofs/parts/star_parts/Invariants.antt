-- `parts::star_parts` meets its contract: from the last row down, the rows passed say what they are to say. Assumes nothing.
use Rattle.judge.proofs.Rows.{StarsFrom}
use Rattle.judge.proofs.parts.star_parts.Given as goal

abbrev pub invariant-loop-i : goal.invariant-loop-i
invariant-loop-i l = StarsFrom l.a l.out l.i-counter
