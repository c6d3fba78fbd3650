-- `automata::shape::occurs_shape` meets its contract. Assumes nothing.
use Rattle.automata.proofs.RowEnds.{occurs_shaped}
use Rattle.automata.proofs.shape.occurs_shape.Goals as goal

pub returns : goal.returns
returns c = occurs_shaped _ _ _ _ _ _ c.requires c.below-counts.ensures c.raise.ensures c.maybe.ensures
