-- `blocks::link::again` meets its contract. Assumes nothing.
use native.Mathlib.Omega.{arith}
use Rattle.blocks.proofs.Linking.{link_after}
use Rattle.blocks.proofs.Turns.{repeats}
use Rattle.blocks.proofs.link.again.Goals as goal

pub returns : goal.returns
returns c = repeats _ _ _ _ _ (omega arith) c.raise-finals.ensures (link_after _ _ _ _ _ _ _ (omega arith) c.link.ensures)
