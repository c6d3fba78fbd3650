-- `blocks::link::link` meets its contract. Assumes nothing.
use native.Mathlib.Omega.{arith}
use Rattle.blocks.proofs.Linking.{link_step}
use Rattle.blocks.proofs.link.link.Goals as goal

pub loop-p-preserved : goal.loop-p-preserved
loop-p-preserved c = (
  omega arith,
  omega arith,
  omega (arith, c.link_row.auto.t),
  link_step _ _ _ _ _ _ _ _ _ (omega arith) (omega arith) c.loop-p.invariant.3 c.link_row.ensures,
)
