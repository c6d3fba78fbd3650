-- `search::forward::carry` meets its contract. The invariant: the states taken out so far have their sets.
-- Assumes nothing.
use mathlib.Core.Path.{ap, ◌∙◌}
use native.Mathlib.Omega.{arith}
use Rattle.bits.proofs.Begun.{rest_begun}
use Rattle.bits.proofs.Resting.{turn_rest, turn_was}
use Rattle.levels.proofs.Carrying.{carried_begun, carried_turn, carried_end}
use Rattle.levels.proofs.forward.carry.Goals as goal

pub loop-s-init : goal.loop-s-init
loop-s-init c = let e = ap (λ z. z.rest) c.into_iter-s-iterator.ensures.into_iter_gives ∙ c.members-s-items.ensures in (rest_begun e c.ranges.fresh.fits, carried_begun e _ _)

pub offset_bounds-after-s : goal.offset_bounds-after-s
offset_bounds-after-s c = record { fits = omega (arith, c.in-Some.ensures.steps.0.inside) }

pub bounds-after-s : goal.bounds-after-s
bounds-after-s c = (c.requires c.in-Some.s (turn_was c.loop-s.invariant.0 c.in-Some.ensures.steps.0 c.in-Some.ensures.steps.1)).0

pub offset_bounds-front-s : goal.offset_bounds-front-s
offset_bounds-front-s c = record { fits = omega (arith, c.in-Some.ensures.steps.0.inside) }

pub bounds-front-s : goal.bounds-front-s
bounds-front-s c = omega (arith, c.loop-s.invariant.1.size, (c.requires c.in-Some.s (turn_was c.loop-s.invariant.0 c.in-Some.ensures.steps.0 c.in-Some.ensures.steps.1)).1)

pub loop-s-preserved : goal.loop-s-preserved
loop-s-preserved c = let i = c.loop-s.invariant in
    let s = c.in-Some.ensures.steps in
    let room = (c.requires c.in-Some.s (turn_was i.0 s.0 s.1)).1 in
    (turn_rest i.0 s.0 s.1, carried_turn i.0 s.0 s.1 (omega (arith, i.1.size, room)) i.1)

pub shape_of-front : goal.shape_of-front
shape_of-front c = c.loop-s.invariant.1.size

pub returns : goal.returns
returns c = carried_end c.in-None.ensures.steps.0 c.loop-s.invariant.1
