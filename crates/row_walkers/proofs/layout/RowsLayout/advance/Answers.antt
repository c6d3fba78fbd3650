-- Rows are long enough where the table that they stand for is. Assumes nothing.
use native.Mathlib.Omega.{arith}
use Rattle.letter_rows.proofs.Laying.{table_length}
use Rattle.row_walkers.proofs.layout.RowsLayout.advance.Goals as goal

pub advance_rows-requires : goal.advance_rows-requires
advance_rows-requires c = (omega (arith, table_length c.args.self.now.0.now), omega arith)
