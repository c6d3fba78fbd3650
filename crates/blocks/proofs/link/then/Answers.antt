-- `blocks::link::then` meets its contract. Assumes nothing.
use Rattle.blocks.proofs.Crossings.{then_joins}
use Rattle.blocks.proofs.link.then.Goals as goal

pub returns : goal.returns
returns c = then_joins _ _ _ _ _ _ c.raise-finals.ensures c.requires c.link.ensures
