-- `blocks::overlap::overlap_row` meets its contract. Assumes nothing.
use mathlib.Core.Path.{◌≡◌}
use Prim.Native.Nat.{◌+◌, ◌-◌, ◌≤◌}
use lib.ListN.{length}
use Rattle.automata.specs.inner.Cells.{Put, overlapped}
use Rattle.blocks.proofs.overlap.overlap_row.Given as goal

abbrev pub invariant-loop-f : goal.invariant-loop-f
invariant-loop-f l = (l.a ≤ l.f) × (l.f ≤ l.b.first) × (length l.t ≡ length l.initial.t) × Put l.initial.t l.t l.p (l.p + 1) l.b.first l.b.end (overlapped l.initial.t l.finals l.a l.b.first (l.f - l.a))
