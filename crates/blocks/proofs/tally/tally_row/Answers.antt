-- `blocks::tally::tally_row` meets its contract. Assumes nothing.
use native.Mathlib.Omega.{arith}
use Rattle.blocks.proofs.Tallies.{both_stored, one_stored}
use Rattle.blocks.proofs.tally.tally_row.Goals as goal

pub returns-then-p-hi : goal.returns-then-p-hi
returns-then-p-hi c = λ lo l. both_stored _ _ _ _ _ _ _ lo l (omega arith) (omega arith) (omega arith) c.put.ensures c.put-then-p-hi.ensures

pub returns-else-p-hi : goal.returns-else-p-hi
returns-else-p-hi c = λ lo l. one_stored _ _ c.args.t.now _ _ _ _ lo l (omega arith) (omega arith) (omega arith) c.put.ensures
