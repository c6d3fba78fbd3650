-- `lasting::rounds::round` meets its contract. The invariant: of the members taken so far those that go on.
-- Assumes nothing.
use Rattle.bits.specs.Sets.{Members}
use Rattle.bits.proofs.Resting.{Done, Rest}
use Rattle.lasting.specs.inner.Kept.{GoesOn}
use Rattle.lasting.proofs.rounds.round.Given as goal

abbrev pub invariant-loop-k : goal.invariant-loop-k
invariant-loop-k l = Rest l.set l.k-iterator.rest × Members l.kept (λ k. Done l.set l.k-iterator.rest k × GoesOn l.successors l.set k)
