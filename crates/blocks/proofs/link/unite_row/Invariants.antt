-- `blocks::or_row`: the columns from src up to q are united. The measure is what is left of the columns.
use mathlib.Core.Path.{◌≡◌}
use Prim.Native.Nat.{◌+◌, ◌≤◌}
use lib.ListN.{length}
use lib.Bits.{bit_or}
use Rattle.automata.specs.Table.{cell}
use Rattle.automata.specs.inner.Cells.{Put}
use Rattle.blocks.proofs.link.unite_row.Given as goal

abbrev pub invariant-loop-q : goal.invariant-loop-q
invariant-loop-q l = (l.b.first ≤ l.q) × (l.q ≤ l.b.end) × (length l.t ≡ length l.initial.t) × Put l.initial.t l.t l.p (l.p + 1) l.b.first l.q (λ r s. bit_or (cell l.initial.t r s) (cell l.initial.t l.b.first s))
