-- Rows are as many as the entries of the table that they stand for. Assumes nothing.
use native.Mathlib.Omega.{arith}
use Rattle.letter_rows.proofs.Laying.{table_length}
use Rattle.row_walkers.proofs.layout.RowsLayout.entries.Goals as goal

pub returns : goal.returns
returns c = omega (arith, table_length c.args.self.now.0.now)
