-- `move_row` writes the columns in rising order: what it reads stands at or past the column it writes. Assumes nothing.
use Prim.Native.Nat.{◌+◌}
use Rattle.automata.specs.inner.Cells.{Put}
use Rattle.trims.specs.inner.Moves.{moved_label_of}
use Rattle.trims.proofs.moves.move_row.Given as goal

abbrev pub invariant-loop-j : goal.invariant-loop-j
invariant-loop-j l = Put l.initial.table l.table l.i (l.i + 1) 0 l.j (moved_label_of l.initial.table l.from)
