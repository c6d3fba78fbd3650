-- `search::marks::filter` meets its contract. The invariant: of the members taken out so far those with the mark.
-- Assumes nothing.
use mathlib.Core.Path.{◌≡◌}
use Rattle.bits.specs.Sets.{Members}
use Rattle.bits.proofs.Resting.{Done, Rest}
use Rattle.levels.specs.inner.Passes.{view}
use Rattle.levels.proofs.marks.filter.Given as goal

abbrev pub invariant-loop-q : goal.invariant-loop-q
invariant-loop-q l = Rest l.set l.q-iterator.rest × Members l.out (λ q. Done l.set l.q-iterator.rest q × (view l.marks l.t q ≡ l.mark))
