-- `blocks::within::copy_padded` meets its contract. Assumes nothing.
use Rattle.blocks.proofs.Withins.{copy_padded}
use Rattle.blocks.proofs.within.copy_padded.Goals as goal

pub returns : goal.returns
returns c = λ x e clean h b.
    copy_padded _ _ _ _ _ _ _ _ x e clean h b c.raise-finals.ensures c.copy_block.ensures c.pad.ensures
