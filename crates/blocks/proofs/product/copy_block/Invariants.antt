-- `blocks::product::copy_block` meets its contract. Assumes nothing.
use mathlib.Core.Path.{◌≡◌}
use Prim.Native.Nat.{◌+◌, ◌≤◌}
use lib.ListN.{length}
use Rattle.automata.specs.inner.Cells.{Put, moved}
use Rattle.blocks.proofs.product.copy_block.Given as goal

abbrev pub invariant-loop-i : goal.invariant-loop-i
invariant-loop-i l = (l.i ≤ l.n) × (length l.copy ≡ length l.initial.copy) × Put l.initial.copy l.copy l.to (l.to + l.i) l.to (l.to + l.n) (moved l.t l.from l.to)
