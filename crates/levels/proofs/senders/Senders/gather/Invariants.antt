-- `gather` meets its contract. The invariant: what the states taken out so far hand on.
-- Assumes nothing.
use Rattle.bits.specs.Sets.{Members, Over}
use Rattle.bits.proofs.Resting.{Done, Rest}
use Rattle.levels.specs.inner.Waves.{Sent}
use Rattle.levels.proofs.senders.Senders.gather.Given as goal

abbrev pub invariant-loop-s : goal.invariant-loop-s
invariant-loop-s l = Rest l.self.fresh l.s-iterator.rest × Members l.out (λ q. Over (Done l.self.fresh l.s-iterator.rest) (λ s. Sent l.self.successors.now l.self.front.now l.t s q))
