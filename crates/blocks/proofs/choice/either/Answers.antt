-- `blocks::choice::either` meets its contract. Assumes nothing.
use Rattle.blocks.proofs.Choices.{either_joins}
use Rattle.blocks.proofs.choice.either.Goals as goal

pub returns : goal.returns
returns c = either_joins _ _ _ _ _ c.requires c.choice.ensures
