-- `steps::rows::fill_rows` meets its contract. The invariant: the rows of the states below p are there.
-- Assumes nothing.
use Prim.Native.Nat.{◌-◌, ◌≤◌}
use Rattle.bits.specs.Sets.{Below}
use Rattle.steps.specs.inner.Puts.{Adds, RowPuts}
use Rattle.steps.proofs.rows.fill_rows.Given as goal

abbrev pub invariant-loop-p : goal.invariant-loop-p
invariant-loop-p l = (l.p ≤ l.weight) × Adds l.initial.rows l.rows (λ i k. Below (λ p i. RowPuts l.table l.weight l.used p i k) l.p i)

abbrev pub decreases-loop-p : goal.decreases-loop-p
decreases-loop-p l = l.weight - l.p
