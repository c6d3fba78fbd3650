-- `move_labels` writes the rows in rising order: what it reads stands in the row it writes or below. Assumes nothing.
use Rattle.automata.specs.inner.Cells.{Put}
use Rattle.trims.specs.inner.Moves.{moved_label_of}
use Rattle.trims.proofs.moves.move_labels.Given as goal

abbrev pub invariant-loop-i : goal.invariant-loop-i
invariant-loop-i l = Put l.initial.table l.table 0 l.i 0 l.n (moved_label_of l.initial.table l.from)
