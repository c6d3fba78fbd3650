-- `line` lends the search fresh slices. Assumes nothing.
use native.Mathlib.Omega.{arith}
use mathlib.Core.Path.{refl}
use Rattle.lines.specs.Line.{fresh, short_output}
use borrow.Author.Rules.{rules}
use Rattle.lines.proofs.line.Goals as goal

pub returns-then-out-lt-LINE_ROOM : goal.returns-then-out-lt-LINE_ROOM
returns-then-out-lt-LINE_ROOM c = short_output (omega arith) refl refl

pub line_with-requires : goal.line_with-requires
unfolding fresh
line_with-requires c = search rules
