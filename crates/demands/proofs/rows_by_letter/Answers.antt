-- `demands::rows_by_letter` meets its contract. Assumes nothing.
use Rattle.demands.proofs.LetterRows.{letter_rows_hold}
use Rattle.demands.proofs.rows_by_letter.Goals as goal

pub returns : goal.returns
returns c = letter_rows_hold
