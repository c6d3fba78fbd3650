-- `blocks::tally::tally` meets its contract. Assumes nothing.
use native.Mathlib.Omega.{arith}
use Rattle.blocks.proofs.Tallies.{tally_of}
use Rattle.blocks.proofs.tally.tally.Goals as goal

pub returns : goal.returns
returns c = tally_of _ _ _ _ _ _ (omega arith) c.tally_rows.ensures c.unite_row.ensures
