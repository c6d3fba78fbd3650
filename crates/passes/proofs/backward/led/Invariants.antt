-- `search::backward::led` meets its contract. The invariant: no state taken out so far leads on.
-- Assumes nothing.
use Rattle.bits.specs.Sets.{Over}
use Rattle.bits.proofs.Resting.{Done, Rest}
use Rattle.passes.specs.inner.Uses.{Meets}
use Rattle.passes.proofs.backward.led.Given as goal

abbrev pub invariant-loop-t : goal.invariant-loop-t
invariant-loop-t l = Rest l.next l.t-iterator.rest × (Over (Done l.next l.t-iterator.rest) (Meets l.search.rows.now l.search.letters.now l.useful l.base l.q) → ⊥)
