-- `search::choose::choices` meets its contract. The invariant: of the states taken out so far those that hold a table state.
-- Assumes nothing.
use Prim.Native.Nat.{ℕ}
use mathlib.Core.Path.{ap, ◌∙◌}
use native.Mathlib.Omega.{arith}
use Rattle.bits.proofs.Members.{says_any}
use Rattle.bits.proofs.Begun.{rest_begun, testing_begun}
use Rattle.bits.proofs.Resting.{turn_rest, turn_was, testing_turn, testing_end}
use Rattle.passes.specs.inner.Uses.{Holds}
use Rattle.passes.proofs.choose.choices.Goals as goal

pub loop-t-init : goal.loop-t-init
loop-t-init c = let e = ap (λ z. z.rest) c.into_iter-t-iterator.ensures.into_iter_gives ∙ c.members-t-items.ensures in (rest_begun e c.ranges.next.fits, testing_begun e _)

pub onward-there-requires : goal.onward-there-requires
onward-there-requires c = let h = c.requires.0 c.in-Some.t (turn_was c.loop-t.invariant.0 c.in-Some.ensures.steps.0 c.in-Some.ensures.steps.1) in (h, c.requires.1, c.requires.2)

pub with_if-out-requires : goal.with_if-out-requires
with_if-out-requires c = c.in-Some.ensures.steps.0.inside

pub loop-t-preserved : goal.loop-t-preserved
loop-t-preserved c = let a = c.args in
    (turn_rest c.loop-t.invariant.0 c.in-Some.ensures.steps.0 c.in-Some.ensures.steps.1, testing_turn {P = λ t. ((p : ℕ) × Holds a.search.now.rows.now a.search.now.letters.now a.marks.now a.useful.now a.held a.level t p)} c.loop-t.invariant.0 c.in-Some.ensures.steps.0 c.in-Some.ensures.steps.1 c.with_if-out.ensures c.loop-t.invariant.1 (says_any (omega (arith, c.onward-there.type_inv)) c.onward-there.ensures))

pub returns : goal.returns
returns c = testing_end c.in-None.ensures.steps.0 c.loop-t.invariant.1
