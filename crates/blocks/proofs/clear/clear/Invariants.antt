-- `blocks::clear::clear` meets its contract. Assumes nothing.
use mathlib.Core.Path.{◌≡◌}
use Prim.Native.Nat.{◌≤◌}
use lib.ListN.{length}
use Rattle.automata.specs.inner.Cells.{Put}
use Rattle.blocks.proofs.clear.clear.Given as goal

abbrev pub invariant-loop-p : goal.invariant-loop-p
invariant-loop-p l = (l.lo ≤ l.p) × (l.p ≤ l.hi) × (length l.t ≡ length l.initial.t) × Put l.initial.t l.t l.lo l.p l.lo l.hi (λ r s. 0)
