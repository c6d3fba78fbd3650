-- `blocks::tally::tally_rows` meets its contract. Assumes nothing.
use native.Mathlib.Omega.{arith}
use Rattle.automata.proofs.Puts.{put_down}
use Rattle.blocks.proofs.Tallies.{tallied_same}
use Rattle.blocks.proofs.tally.tally_rows.Goals as goal

pub loop-p-preserved : goal.loop-p-preserved
loop-p-preserved c = let inv = c.loop-p.invariant.3 in (
  omega arith,
  omega arith,
  omega (arith, c.tally_row.auto.t),
  put_down _ (omega arith) (omega arith) (omega arith) inv (c.tally_row.ensures _ (omega arith)) (λ p q i. tallied_same _ _ _ _ p q (inv.old p q (omega arith) (omega arith))),
)
