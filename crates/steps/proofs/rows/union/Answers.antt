-- `steps::rows::union` meets its contract. The invariant: the union of those that are taken out so far.
-- Assumes nothing.
use mathlib.Core.Path.{ap, ◌∙◌}
use native.Mathlib.Omega.{arith}
use Rattle.bits.proofs.Members.{members_bits}
use Rattle.bits.proofs.Begun.{rest_begun, uniting_begun}
use Rattle.bits.proofs.Resting.{turn_rest, turn_was, uniting_turn, uniting_end}
use Rattle.steps.proofs.rows.union.Goals as goal

pub loop-k-init : goal.loop-k-init
loop-k-init c = let e = ap (λ z. z.rest) c.into_iter-k-iterator.ensures.into_iter_gives ∙ c.members-k-items.ensures in (rest_begun e c.ranges.set.fits, uniting_begun e _)

pub overflow_add-out : goal.overflow_add-out
overflow_add-out c = let s = c.in-Some.ensures.steps in record { fits = omega (arith, c.requires c.in-Some.k (turn_was c.loop-k.invariant.0 s.0 s.1)) }

pub offset_bounds-words-base : goal.offset_bounds-words-base
offset_bounds-words-base c = let s = c.in-Some.ensures.steps in record { fits = omega (arith, c.well_formed.1.0, c.requires c.in-Some.k (turn_was c.loop-k.invariant.0 s.0 s.1)) }

pub bounds-words-base : goal.bounds-words-base
bounds-words-base c = let s = c.in-Some.ensures.steps in omega (arith, c.requires c.in-Some.k (turn_was c.loop-k.invariant.0 s.0 s.1))

pub loop-k-preserved : goal.loop-k-preserved
loop-k-preserved c = let i = c.loop-k.invariant in
    let s = c.in-Some.ensures.steps in
    (turn_rest i.0 s.0 s.1, uniting_turn i.0 s.0 s.1 i.1 (members_bits _))

pub returns : goal.returns
returns c = uniting_end c.in-None.ensures.steps.0 c.loop-k.invariant.1
