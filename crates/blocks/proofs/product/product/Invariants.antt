-- `blocks::product::product` meets its contract. Assumes nothing.
use mathlib.Core.Path.{◌≡◌}
use Prim.Native.Nat.{◌+◌, ◌*◌, ◌≤◌}
use lib.ListN.{length}
use Rattle.automata.specs.inner.Cells.{Put, paired}
use Rattle.blocks.proofs.product.product.Given as goal

abbrev pub invariant-loop-p : goal.invariant-loop-p
invariant-loop-p l = (l.s.base ≤ l.p) × (l.p ≤ l.hi) × (length l.t ≡ length l.initial.t) × Put l.initial.t l.t l.s.base l.p l.s.base (l.s.base + l.s.m * l.s.n) (paired l.copy l.s.base l.s.n l.s.second)
