-- `steps::rows::fill_rows` meets its contract. The invariant: the rows of the states below p are there.
-- Assumes nothing.
use native.Mathlib.Omega.{arith}
use Rattle.steps.specs.inner.Puts.{RowPuts}
use Rattle.steps.proofs.Rowing.{adds_below_none, adds_below_next, adds_below_end, rowed_of}
use Rattle.steps.proofs.rows.fill_rows.Goals as goal

pub loop-p-init : goal.loop-p-init
loop-p-init c = (omega arith, adds_below_none _ (λ p i k. RowPuts c.args.table.now c.args.weight c.args.used p i k))

pub rows_from-requires : goal.rows_from-requires
rows_from-requires c = (c.requires.0, omega (arith, c.loop-p.invariant.1.size, c.requires.1), c.requires.2, omega (arith, c.requires.2, c.loop-p-test.true))

pub overflow_step-p : goal.overflow_step-p
overflow_step-p c = record { fits = omega (arith, c.requires.2, c.loop-p-test.true) }

pub loop-p-preserved : goal.loop-p-preserved
loop-p-preserved c = (omega arith, adds_below_next (λ p i k. RowPuts c.args.table.now c.args.weight c.args.used p i k) c.loop-p.p c.loop-p.invariant.1 c.rows_from.ensures)

pub shape_of-rows : goal.shape_of-rows
shape_of-rows c = c.loop-p.invariant.1.size

pub returns : goal.returns
returns c = let x = adds_below_end (λ p i k. RowPuts c.args.table.now c.args.weight c.args.used p i k) c.loop-p.invariant.1 c.args.weight (omega arith) (omega arith) in
    (c.loop-p.invariant.1.size, rowed_of c.args.table.now c.args.weight c.args.used _ _ (omega (arith, c.loop-p.invariant.1.size, c.requires.1)) c.requires.2 c.requires.3 x)
