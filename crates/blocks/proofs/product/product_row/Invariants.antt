-- `blocks::product::product_row` meets its contract. Assumes nothing.
use mathlib.Core.Path.{◌≡◌}
use Prim.Native.Nat.{◌+◌, ◌*◌, ◌≤◌}
use lib.ListN.{length}
use Rattle.automata.specs.inner.Cells.{Put, paired}
use Rattle.blocks.proofs.product.product_row.Given as goal

abbrev pub invariant-loop-j : goal.invariant-loop-j
invariant-loop-j l = (l.j ≤ l.s.m) × (length l.t ≡ length l.initial.t) × Put l.initial.t l.t l.p (l.p + 1) l.s.base (l.s.base + l.j * l.s.n) (paired l.copy l.s.base l.s.n l.s.second)
