-- `search::forward::carry` meets its contract. The invariant: the states taken out so far have their sets.
-- Assumes nothing.
use Rattle.bits.proofs.Resting.{Done, Rest}
use Rattle.levels.specs.inner.Waves.{Carried}
use Rattle.levels.proofs.forward.carry.Given as goal

abbrev pub invariant-loop-s : goal.invariant-loop-s
invariant-loop-s l = Rest l.fresh l.s-iterator.rest × Carried (Done l.fresh l.s-iterator.rest) l.after l.initial.front l.front
