-- `list` takes the members in rising order. Assumes nothing.
use mathlib.Core.Path.{ap, ◌∙◌}
use native.Mathlib.Omega.{arith}
use Rattle.trims.proofs.Listing.{listing_none, listing_fits, listing_turn, listing_all}
use Rattle.trims.proofs.list.list.Goals as goal

pub bounds-from-n : goal.bounds-from-n
bounds-from-n c = let s = c.in-Some.ensures.steps in omega (arith, s.0.inside, listing_fits c.loop-q.invariant s.0 s.1)

pub offset_bounds-from-n : goal.offset_bounds-from-n
offset_bounds-from-n c = record { fits = let s = c.in-Some.ensures.steps in omega (arith, s.0.inside, listing_fits c.loop-q.invariant s.0 s.1) }

pub overflow_add-n : goal.overflow_add-n
overflow_add-n c = record { fits = let s = c.in-Some.ensures.steps in omega (arith, s.0.inside, listing_fits c.loop-q.invariant s.0 s.1) }

pub loop-q-init : goal.loop-q-init
loop-q-init c = listing_none _ (ap (λ z. z.rest) c.into_iter-q-iterator.ensures.into_iter_gives ∙ c.members-q-items.ensures) c.ranges.set.fits

pub loop-q-preserved : goal.loop-q-preserved
loop-q-preserved c = let s = c.in-Some.ensures.steps in listing_turn c.loop-q.invariant s.0 s.1 (omega (arith, s.0.inside, listing_fits c.loop-q.invariant s.0 s.1))

pub returns : goal.returns
returns c = listing_all c.loop-q.invariant c.in-None.ensures.steps.0
