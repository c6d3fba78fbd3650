-- `blocks::link::link` meets its contract. Assumes nothing.
use mathlib.Core.Path.{◌≡◌}
use Prim.Native.Nat.{◌≤◌}
use lib.ListN.{length}
use Rattle.automata.specs.inner.Cells.{Put, linked}
use Rattle.blocks.proofs.link.link.Given as goal

abbrev pub invariant-loop-p : goal.invariant-loop-p
invariant-loop-p l = (l.from ≤ l.p) × (l.p ≤ l.to) × (length l.t ≡ length l.initial.t) × Put l.initial.t l.t l.from l.p l.b.first l.b.end (linked l.initial.t l.b.first l.finals)
