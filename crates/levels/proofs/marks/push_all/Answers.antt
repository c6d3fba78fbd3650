-- `search::marks::push_all` meets its contract. The invariant: the members taken out so far are marked and listed.
-- Assumes nothing.
use mathlib.Core.Path.{◌≡◌, ap, ◌∙◌}
use native.Mathlib.Omega.{arith}
use Rattle.bits.proofs.Begun.{rest_begun}
use Rattle.bits.proofs.Resting.{turn_rest, turn_in}
use Rattle.levels.specs.inner.Passes.{pair_at}
use Rattle.levels.proofs.Tally.{count_le}
use Rattle.levels.proofs.Queueing.{pushing_begun, pushing_turn, pushing_end, push_zero}
use Rattle.levels.proofs.marks.push_all.Goals as goal

pub loop-q-init : goal.loop-q-init
loop-q-init c = let e = ap (λ z. z.rest) c.into_iter-q-iterator.ensures.into_iter_gives ∙ c.members-q-items.ensures in
    (rest_begun e c.ranges.set.fits, pushing_begun e (λ q i. i ≡ pair_at c.args.t q) c.requires.4)

pub overflow_mul-t : goal.overflow_mul-t
overflow_mul-t c = record { fits = omega (arith, c.requires.1) }

pub overflow_add-t : goal.overflow_add-t
overflow_add-t c = record { fits = omega (arith, c.in-Some.ensures.steps.0.inside, c.requires.1) }

pub push-requires : goal.push-requires
push-requires c = let p = c.requires in
    let i = c.loop-q.invariant in
    let s = c.in-Some.ensures.steps in (
      record { marks_long = omega (arith, p.0.marks_long, i.1.step.size); queue_long = omega (arith, p.0.queue_long, i.1.beyond.size) },
      omega (arith, s.0.inside, p.1),
      p.2,
      push_zero c.args.t p.3 i.0 i.1 c.in-Some.q (turn_in i.0 s.0 s.1),
      i.1.queued,
    )

pub overflow_add-total : goal.overflow_add-total
overflow_add-total c = record { fits = omega (arith, count_le c.push.ensures.queued.counted) }

pub loop-q-preserved : goal.loop-q-preserved
loop-q-preserved c = (turn_rest c.loop-q.invariant.0 c.in-Some.ensures.steps.0 c.in-Some.ensures.steps.1, pushing_turn (λ q i. i ≡ pair_at c.args.t q) c.loop-q.invariant.0 c.in-Some.ensures.steps.0 c.in-Some.ensures.steps.1 c.loop-q.invariant.1 c.push.ensures)

pub shape_of-marks : goal.shape_of-marks
shape_of-marks c = c.loop-q.invariant.1.step.size

pub shape_of-queue : goal.shape_of-queue
shape_of-queue c = c.loop-q.invariant.1.beyond.size

pub returns : goal.returns
returns c = pushing_end (λ q i. i ≡ pair_at c.args.t q) c.in-None.ensures.steps.0 c.loop-q.invariant.1
