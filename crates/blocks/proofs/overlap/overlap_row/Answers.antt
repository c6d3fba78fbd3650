-- `blocks::overlap::overlap_row` meets its contract. Assumes nothing.
use mathlib.Core.Path.{refl, sym}
use native.Mathlib.Omega.{arith}
use Rattle.automata.proofs.Puts.{put_keep}
use Rattle.blocks.proofs.Overlapping.{overlapped_none, overlap_step}
use Rattle.blocks.proofs.overlap.overlap_row.Goals as goal

pub loop-f-init : goal.loop-f-init
loop-f-init c = (omega arith, omega arith, refl, put_keep _ _ _ _ _ _ (λ p q i. sym (overlapped_none _ _ _ _ p q)))

pub loop-f-preserved : goal.loop-f-preserved
loop-f-preserved c = (
  omega arith,
  omega arith,
  omega (arith, c.overlap_by.auto.t),
  overlap_step _ _ _ _ _ _ _ _ _ (omega arith) (omega arith) (omega arith) (omega arith) c.loop-f.invariant.3 c.overlap_by.ensures,
)
