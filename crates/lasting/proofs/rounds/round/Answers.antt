-- `lasting::rounds::round` meets its contract. The invariant: of the members taken so far those that go on.
-- Assumes nothing.
use native.Mathlib.Nat.{lt_of_lt_of_le}
use borrow.Author.Rules.{rules}
use mathlib.Core.Path.{ap, ◌∙◌}
use Rattle.bits.proofs.Resting.{turn_rest, testing_turn, testing_end, meet_says}
use Rattle.bits.proofs.Begun.{rest_begun, testing_begun}
use Rattle.lasting.specs.inner.Kept.{GoesOn}
use Rattle.lasting.proofs.rounds.round.Goals as goal

pub bounds-successors-k : goal.bounds-successors-k
bounds-successors-k c = lt_of_lt_of_le c.in-Some.ensures.steps.0.inside c.requires

pub loop-k-init : goal.loop-k-init
loop-k-init c = let e = ap (λ z. z.rest) c.into_iter-k-iterator.ensures.into_iter_gives ∙ c.members-k-items.ensures in (rest_begun e c.ranges.set.fits, testing_begun e _)

pub loop-k-preserved : goal.loop-k-preserved
loop-k-preserved c =
    let i = c.loop-k.invariant in
    let s = c.in-Some.ensures.steps in (
      turn_rest i.0 s.0 s.1,
      testing_turn {P = GoesOn c.args.successors.now c.args.set} i.0 s.0 s.1 c.with_if-kept.ensures i.1 (meet_says c.args.set (search rules)),
    )

pub returns : goal.returns
returns c = testing_end c.in-None.ensures.steps.0 c.loop-k.invariant.1
