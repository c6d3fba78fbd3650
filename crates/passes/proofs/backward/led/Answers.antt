-- `search::backward::led` meets its contract. The invariant: no state taken out so far leads on.
-- Assumes nothing.
use mathlib.Core.Path.{ap, ◌∙◌}
use mathlib.Core.Logic.{⊎_elim}
use Rattle.bits.proofs.Sayings.{say_yes, say_no}
use Rattle.bits.proofs.Begun.{rest_begun, over_begun}
use Rattle.bits.proofs.Resting.{turn_rest, turn_was, over_split, over_start}
use Rattle.passes.specs.inner.Uses.{Meets}
use Rattle.passes.proofs.backward.led.Goals as goal

pub loop-t-init : goal.loop-t-init
loop-t-init c = let e = ap (λ z. z.rest) c.into_iter-t-iterator.ensures.into_iter_gives ∙ c.members-t-items.ensures in (rest_begun e c.ranges.next.fits, λ o. over_begun e o)

pub meets-requires : goal.meets-requires
meets-requires c = let h = c.requires.0 c.in-Some.t (turn_was c.loop-t.invariant.0 c.in-Some.ensures.steps.0 c.in-Some.ensures.steps.1) in (h, c.requires.1, c.requires.2, c.requires.3)

pub returns-then-meets : goal.returns-then-meets
returns-then-meets c = say_yes (record { at = c.in-Some.t; inside = turn_was c.loop-t.invariant.0 c.in-Some.ensures.steps.0 c.in-Some.ensures.steps.1; holds = c.meets.ensures.yes_holds c.if-meets.true })

pub loop-t-preserved : goal.loop-t-preserved
loop-t-preserved c = (turn_rest c.loop-t.invariant.0 c.in-Some.ensures.steps.0 c.in-Some.ensures.steps.1, λ o. ⊎_elim c.loop-t.invariant.1 (c.meets.ensures.no_fails c.if-meets.false) (over_split c.loop-t.invariant.0 c.in-Some.ensures.steps.0 c.in-Some.ensures.steps.1 (Meets c.args.search.now.rows.now c.args.search.now.letters.now c.args.useful.now c.args.base c.args.q) o))

pub returns : goal.returns
returns c = say_no (λ o. c.loop-t.invariant.1 (over_start c.in-None.ensures.steps.0 o))
