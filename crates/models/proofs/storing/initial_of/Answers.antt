-- `models::initial_of` meets its contract. Assumes nothing.
use borrow.Author.Rules.{rules}
use Rattle.bits.proofs.Chosen.{those_word}
use Rattle.models.proofs.storing.initial_of.Goals as goal

pub returns : goal.returns
returns c = those_word c.those.ensures c.those.type_inv c.requires.few (λ k b l s. search rules)
