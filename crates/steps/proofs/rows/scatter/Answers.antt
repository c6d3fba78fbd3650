-- `steps::rows::scatter` meets its contract. The invariant: q is added for the letters taken out so far.
-- Assumes nothing.
use Prim.Native.Nat.{◌+◌, ◌*◌}
use mathlib.Core.Path.{◌≡◌, ap, ◌∙◌}
use native.Mathlib.Omega.{arith}
use Rattle.bits.specs.Sets.{In}
use Rattle.bits.proofs.Begun.{rest_begun}
use Rattle.bits.proofs.Resting.{turn_rest, over_end, over_start}
use Rattle.steps.proofs.Adding.{adds_one, adds_same, adding_begun, adding_turn}
use Rattle.bits.proofs.Members.{members_bits}
use Rattle.steps.proofs.Owing.{scattered, unscattered}
use Rattle.automata.specs.Table.{table_states}
use Rattle.steps.proofs.rows.scatter.Goals as goal

pub loop-x-init : goal.loop-x-init
loop-x-init c = let a = c.args in
    let e = ap (λ z. z.rest) c.into_iter-x-iterator.ensures.into_iter_gives ∙ c.members-x-items.ensures in
    (rest_begun e c.ranges.label.fits, adding_begun e _ (λ x i k. (i ≡ table_states * x + a.p) × In a.to k))

pub bounds-rows-x : goal.bounds-rows-x
bounds-rows-x c = omega (arith, c.in-Some.ensures.steps.0.inside, c.requires.0, c.requires.1, c.loop-x.invariant.1.size)

pub loop-x-preserved : goal.loop-x-preserved
loop-x-preserved c = let a = c.args in
    let p = c.requires in
    let i = c.loop-x.invariant in
    let s = c.in-Some.ensures.steps in (
      turn_rest i.0 s.0 s.1,
      adding_turn (λ x i k. (i ≡ table_states * x + a.p) × In a.to k) i.0 s.0 s.1 i.1
          (adds_one _ (table_states * c.in-Some.x + a.p) _ (omega (arith, s.0.inside, p.0, p.1, i.1.size)) (members_bits a.to)),
    )

pub shape_of-rows : goal.shape_of-rows
shape_of-rows c = c.loop-x.invariant.1.size

pub returns : goal.returns
returns c = let a = c.args in
    adds_same _ c.loop-x.invariant.1 (λ i k o. scattered a.label a.p a.to i k (over_end o)) (λ i k o. over_start c.in-None.ensures.steps.0 (unscattered a.label a.p a.to i k o))
