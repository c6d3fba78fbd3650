-- `blocks::overlap::overlap_rows` meets its contract. Assumes nothing.
use native.Mathlib.Omega.{arith}
use Rattle.blocks.proofs.Overlapping.{overlap_down}
use Rattle.blocks.proofs.overlap.overlap_rows.Goals as goal

pub loop-p-preserved : goal.loop-p-preserved
loop-p-preserved c = (
  omega arith,
  omega arith,
  omega (arith, c.overlap_row.auto.t),
  overlap_down _ _ _ _ _ _ _ _ (omega arith) (omega arith) (omega arith) (omega arith) c.loop-p.invariant.3 c.overlap_row.ensures,
)
