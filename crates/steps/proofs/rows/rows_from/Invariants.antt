-- `steps::rows::rows_from` meets its contract. The invariant: the states below q are added, but for those of the label that is owed.
-- Assumes nothing.
use Prim.Native.Nat.{◌-◌, ◌≤◌}
use Rattle.steps.specs.inner.Puts.{Owes, RowPuts, Scatters}
use Rattle.steps.proofs.rows.rows_from.Given as goal

abbrev pub invariant-loop-q : goal.invariant-loop-q
invariant-loop-q l = (l.q ≤ l.weight) × Owes l.initial.rows l.rows (Scatters l.p l.bundle.to l.bundle.label) (RowPuts l.table l.q l.used l.p)

abbrev pub decreases-loop-q : goal.decreases-loop-q
decreases-loop-q l = l.weight - l.q
