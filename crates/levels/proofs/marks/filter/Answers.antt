-- `search::marks::filter` meets its contract. The invariant: of the members taken out so far those with the mark.
-- Assumes nothing.
use mathlib.Core.Path.{◌≡◌, ap, ◌∙◌}
use native.Mathlib.Omega.{arith}
use Rattle.bits.proofs.Sayings.{says_eq}
use Rattle.bits.proofs.Begun.{rest_begun, testing_begun}
use Rattle.bits.proofs.Resting.{turn_rest, testing_turn, testing_end}
use Rattle.levels.specs.inner.Passes.{view}
use Rattle.levels.proofs.marks.filter.Goals as goal

pub loop-q-init : goal.loop-q-init
loop-q-init c = let e = ap (λ z. z.rest) c.into_iter-q-iterator.ensures.into_iter_gives ∙ c.members-q-items.ensures in (rest_begun e c.ranges.set.fits, testing_begun e _)

pub overflow_mul-there : goal.overflow_mul-there
overflow_mul-there c = record { fits = omega (arith, c.requires.1) }

pub overflow_add-there : goal.overflow_add-there
overflow_add-there c = record { fits = omega (arith, c.in-Some.ensures.steps.0.inside, c.requires.1) }

pub offset_bounds-marks-t : goal.offset_bounds-marks-t
offset_bounds-marks-t c = record { fits = omega (arith, c.in-Some.ensures.steps.0.inside, c.requires.1) }

pub bounds-marks-t : goal.bounds-marks-t
bounds-marks-t c = omega (arith, c.in-Some.ensures.steps.0.inside, c.requires.0, c.requires.1)

pub with_if-out-requires : goal.with_if-out-requires
with_if-out-requires c = c.in-Some.ensures.steps.0.inside

pub loop-q-preserved : goal.loop-q-preserved
loop-q-preserved c = (turn_rest c.loop-q.invariant.0 c.in-Some.ensures.steps.0 c.in-Some.ensures.steps.1, testing_turn {P = λ q. view c.args.marks.now c.args.t q ≡ c.args.mark} c.loop-q.invariant.0 c.in-Some.ensures.steps.0 c.in-Some.ensures.steps.1 c.with_if-out.ensures c.loop-q.invariant.1 (says_eq _ _))

pub returns : goal.returns
returns c = testing_end c.in-None.ensures.steps.0 c.loop-q.invariant.1
