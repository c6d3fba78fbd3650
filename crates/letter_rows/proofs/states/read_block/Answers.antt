-- `letter_rows::states::read_block` meets its contract: each word is read at its place. Assumes nothing.
use borrow.Author.Rules.{rules}
use Rattle.letter_rows.proofs.Making.{made}
use Rattle.letter_rows.proofs.states.read_block.Goals as goal

pub returns : goal.returns
returns c = record { size = c.from_fn.ensures.items.long; new = made (λ k y q m. search rules) c.from_fn.ensures.items }
