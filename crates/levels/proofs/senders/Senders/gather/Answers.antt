-- `gather` meets its contract. The invariant: what the states taken out so far hand on.
-- Assumes nothing.
use native.Mathlib.Omega.{arith}
use mathlib.Core.Path.{ap, ◌∙◌}
use Rattle.bits.proofs.Begun.{rest_begun, uniting_begun}
use Rattle.bits.proofs.Resting.{turn_rest, turn_was, uniting_turn, uniting_end}
use Rattle.levels.proofs.senders.Senders.gather.Goals as goal

pub loop-s-init : goal.loop-s-init
loop-s-init c = let e = ap (λ z. z.rest) c.into_iter-s-iterator.ensures.into_iter_gives ∙ c.members-s-items.ensures in (rest_begun e (omega (arith, c.type_inv.self)), uniting_begun e _)

pub sent-out-requires : goal.sent-out-requires
sent-out-requires c = (turn_was c.loop-s.invariant.0 c.in-Some.ensures.steps.0 c.in-Some.ensures.steps.1, c.requires)

pub loop-s-preserved : goal.loop-s-preserved
loop-s-preserved c = (turn_rest c.loop-s.invariant.0 c.in-Some.ensures.steps.0 c.in-Some.ensures.steps.1, uniting_turn c.loop-s.invariant.0 c.in-Some.ensures.steps.0 c.in-Some.ensures.steps.1 c.loop-s.invariant.1 c.sent-out.ensures)

pub returns : goal.returns
returns c = uniting_end c.in-None.ensures.steps.0 c.loop-s.invariant.1
