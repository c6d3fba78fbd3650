-- `blocks::overlap::overlap_rows` meets its contract. Assumes nothing.
use mathlib.Core.Path.{◌≡◌}
use Prim.Native.Nat.{◌-◌, ◌≤◌}
use lib.ListN.{length}
use Rattle.automata.specs.inner.Cells.{Put, overlapped}
use Rattle.blocks.proofs.overlap.overlap_rows.Given as goal

abbrev pub invariant-loop-p : goal.invariant-loop-p
invariant-loop-p l = (l.a ≤ l.p) × (l.p ≤ l.b.first) × (length l.t ≡ length l.initial.t) × Put l.initial.t l.t l.a l.p l.b.first l.b.end (overlapped l.initial.t l.finals l.a l.b.first (l.b.first - l.a))
