-- `search::forward::final_any` meets its contract. The invariant: no set taken out so far has a final.
-- Assumes nothing.
use Rattle.bits.specs.Word.{bit}
use Rattle.bits.proofs.Sayings.{say_yes, say_no}
use Rattle.bits.proofs.Begun.{rest_begun, over_begun}
use Rattle.bits.proofs.Resting.{meet_some, meet_none, turn_rest, turn_was, over_split, over_start}
use Prim.Native.Nat.{ℕ}
use mathlib.Core.Path.{ap, ◌∙◌}
use mathlib.Core.Logic.{⊎_elim}
use native.Mathlib.Omega.{arith}
use lib.Dec.{T}
use lib.ListN.{get_or}
use Rattle.levels.proofs.forward.final_any.Goals as goal

pub loop-s-init : goal.loop-s-init
loop-s-init c = let e = ap (λ z. z.rest) c.into_iter-s-iterator.ensures.into_iter_gives ∙ c.members-s-items.ensures in (rest_begun e c.ranges.fresh.fits, λ o. over_begun e o)

pub offset_bounds-front-s : goal.offset_bounds-front-s
offset_bounds-front-s c = record { fits = omega (arith, c.in-Some.ensures.steps.0.inside) }

pub bounds-front-s : goal.bounds-front-s
bounds-front-s c = c.requires c.in-Some.s (turn_was c.loop-s.invariant.0 c.in-Some.ensures.steps.0 c.in-Some.ensures.steps.1)

pub returns-then-front-s-ne0 : goal.returns-then-front-s-ne0
returns-then-front-s-ne0 c = say_yes (record { at = c.in-Some.s; inside = turn_was c.loop-s.invariant.0 c.in-Some.ensures.steps.0 c.in-Some.ensures.steps.1; holds = meet_some _ (c.type_inv.front c.in-Some.s).fits c.if-front-s-ne0.true })

pub loop-s-preserved : goal.loop-s-preserved
loop-s-preserved c = (turn_rest c.loop-s.invariant.0 c.in-Some.ensures.steps.0 c.in-Some.ensures.steps.1, λ o. ⊎_elim c.loop-s.invariant.1 (λ h. meet_none _ _ c.if-front-s-ne0.false h) (over_split c.loop-s.invariant.0 c.in-Some.ensures.steps.0 c.in-Some.ensures.steps.1 (λ s. ((q : ℕ) × T (bit (get_or c.args.front.now s 0) q) × T (bit c.args.finals q))) o))

pub returns : goal.returns
returns c = say_no (λ o. c.loop-s.invariant.1 (over_start c.in-None.ensures.steps.0 o))
