-- `table_of` meets its contract. Assumes nothing.
use Rattle.letter_rows.proofs.Carrying.{table_right}
use Rattle.letter_rows.proofs.table_of.Goals as goal

pub returns : goal.returns
returns c = table_right c.convert.ensures
