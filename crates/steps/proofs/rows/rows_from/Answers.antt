-- `steps::rows::rows_from` meets its contract. The invariant: the states below q are added, but for those of the label that is owed.
-- Assumes nothing.
use mathlib.Core.Path.{ap, ◌∙◌}
use native.Mathlib.Omega.{arith}
use lib.Bits.{bit_and}
use Rattle.steps.specs.inner.Puts.{Puts}
use Rattle.steps.proofs.Rowing.{adds_below_end}
use Rattle.steps.proofs.Owing.{owes_none, owes_paid, extended_turn}
use Rattle.steps.proofs.rows.rows_from.Goals as goal

pub loop-q-init : goal.loop-q-init
loop-q-init c = (omega arith, owes_none _ c.args.table.now c.args.used c.args.p)

pub get-requires : goal.get-requires
get-requires c = let p = c.requires in
    omega (arith, p.0, p.3, p.2, c.loop-q-test.true)

pub extend-bundle-requires : goal.extend-bundle-requires
extend-bundle-requires c = let p = c.requires in
    (omega (arith, p.1, c.loop-q.invariant.1.size), p.3, omega (arith, p.2, c.loop-q-test.true))

pub overflow_step-q : goal.overflow_step-q
overflow_step-q c = record { fits = omega (arith, c.requires.2, c.loop-q-test.true) }

pub loop-q-preserved : goal.loop-q-preserved
loop-q-preserved c = let a = c.args in
    let l = c.loop-q in
    (omega arith, extended_turn a.table.now a.used a.p l.q _ _ _ l.bundle.label l.bundle.to l.invariant.1 (ap (λ w. bit_and w a.used) c.get.ensures) c.extend-bundle.ensures.1)

pub scatter-requires : goal.scatter-requires
scatter-requires c = let p = c.requires in
    (omega (arith, p.1, c.loop-q.invariant.1.size), p.3)

pub shape_of-rows : goal.shape_of-rows
shape_of-rows c = c.scatter.ensures.size ∙ c.loop-q.invariant.1.size

pub returns : goal.returns
returns c = let a = c.args in
    adds_below_end (λ q i k. Puts a.table.now a.used a.p q i k) (owes_paid c.loop-q.invariant.1 c.scatter.ensures) a.weight (omega arith) (omega arith)
