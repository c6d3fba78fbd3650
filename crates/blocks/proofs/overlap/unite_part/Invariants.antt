-- `blocks::overlap::unite_part` meets its contract. Assumes nothing.
use mathlib.Core.Path.{◌≡◌}
use Prim.Native.Nat.{◌+◌, ◌≤◌}
use lib.ListN.{length}
use lib.Bits.{bit_or, bit_and}
use Rattle.automata.specs.Table.{cell}
use Rattle.automata.specs.inner.Cells.{Put}
use Rattle.blocks.proofs.overlap.unite_part.Given as goal

abbrev pub invariant-loop-q : goal.invariant-loop-q
invariant-loop-q l = (l.b.first ≤ l.q) × (l.q ≤ l.b.end) × (length l.t ≡ length l.initial.t) × Put l.initial.t l.t l.p (l.p + 1) l.b.first l.q (λ r s. bit_or (cell l.initial.t r s) (bit_and l.x (cell l.initial.t l.b.first s)))
