-- `steps::rows::scatter` meets its contract. The invariant: q is added for the letters taken out so far.
-- Assumes nothing.
use Prim.Native.Nat.{◌+◌, ◌*◌}
use mathlib.Core.Path.{◌≡◌}
use Rattle.bits.specs.Sets.{In, Over}
use Rattle.steps.specs.inner.Puts.{Adds}
use Rattle.bits.proofs.Resting.{Done, Rest}
use Rattle.automata.specs.Table.{table_states}
use Rattle.steps.proofs.rows.scatter.Given as goal

abbrev pub invariant-loop-x : goal.invariant-loop-x
invariant-loop-x l = Rest l.label l.x-iterator.rest × Adds l.initial.rows l.rows (λ i k. Over (Done l.label l.x-iterator.rest) (λ x. (i ≡ table_states * x + l.p) × In l.to k))
