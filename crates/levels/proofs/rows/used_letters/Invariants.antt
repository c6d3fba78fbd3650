-- `search::rows::used_letters` meets its contract. The invariant: the letters of the states below t.
-- Assumes nothing.
use Prim.Native.Nat.{◌-◌, ◌≤◌}
use Rattle.bits.specs.Sets.{Members}
use Rattle.levels.specs.inner.Passes.{Used}
use Rattle.levels.proofs.rows.used_letters.Given as goal

abbrev pub invariant-loop-t : goal.invariant-loop-t
invariant-loop-t l = (l.t ≤ l.states) × Members l.set (Used l.letters l.t)

abbrev pub decreases-loop-t : goal.decreases-loop-t
decreases-loop-t l = l.states - l.t
