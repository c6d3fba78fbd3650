-- `blocks::row::double_row` meets its contract. Assumes nothing.
use borrow.Author.Rules.{rules}
use Rattle.automata.specs.inner.Cells.{moved}
use Rattle.blocks.proofs.row.double_row.Goals as goal

pub returns : goal.returns
unfolding moved
returns c = search rules
