-- `blocks::row::double` meets its contract. Assumes nothing.
use mathlib.Core.Path.{◌≡◌}
use Prim.Native.Nat.{◌+◌, ◌≤◌}
use lib.ListN.{length}
use Rattle.automata.specs.inner.Cells.{Put, moved}
use Rattle.blocks.proofs.row.double.Given as goal

abbrev pub invariant-loop-i : goal.invariant-loop-i
invariant-loop-i l = (l.i ≤ l.n) × (length l.t ≡ length l.initial.t) × Put l.initial.t l.t (l.from + l.n) (l.from + l.n + l.i) (l.from + l.n) (l.from + l.n + l.n) (moved l.initial.t l.from (l.from + l.n))
