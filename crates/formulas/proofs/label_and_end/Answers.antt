-- `formulas::label_and_end` meets its contract. The table that it lends is computed and compared as a whole. Assumes nothing.
use mathlib.Core.Path.{refl}
use Rattle.bits.specs.Word.{bit, word}
use Rattle.definitions.specs.Definition2.{holds}
use Rattle.formulas.proofs.Labelling.{labels_from, is_table}
use Rattle.formulas.proofs.label_and_end.Goals as goal

pub labelled_at-requires : goal.labelled_at-requires
unfolding labels_from holds word bit
labelled_at-requires c = (c.requires, is_table _ refl)

pub returns : goal.returns
returns c = c.labelled_at.ensures
