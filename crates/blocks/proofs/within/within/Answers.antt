-- `blocks::within::within` meets its contract. Assumes nothing.
use Prim.Native.Nat.{◌*◌}
use Rattle.blocks.proofs.Withins.{within_joins, zeros}
use Rattle.automata.specs.Table.{table_states}
use Rattle.blocks.proofs.within.within.Goals as goal

pub returns : goal.returns
returns c = within_joins _ _ _ _ _ _ _ _ _ _ c.requires (zeros (table_states * 34)) c.copy_padded.ensures c.copy_padded-2.ensures c.product.ensures c.product-2.ensures c.choice.ensures
