-- `blocks::choice::choice` meets its contract. Assumes nothing.
use native.Mathlib.Omega.{arith}
use Rattle.blocks.proofs.Overlapping.{choice_both}
use Rattle.blocks.proofs.choice.choice.Goals as goal

pub returns : goal.returns
returns c = choice_both _ _ _ _ _ _ (omega arith) (omega arith) (omega arith) c.unite_row.ensures c.unite_row-2.ensures
