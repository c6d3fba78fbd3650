-- `rows_of` meets its contract. Assumes nothing.
use Rattle.letter_rows.proofs.Carrying.{rows_right}
use Rattle.letter_rows.proofs.rows_of.Goals as goal

pub returns : goal.returns
returns c = rows_right c.convert.ensures
