-- `side_of` tries the states below n. Assumes nothing.
use borrow.Author.Rules.{rules}
use Rattle.bits.proofs.Chosen.{those_members}
use Rattle.trims.proofs.grow.side_of.Goals as goal

pub returns : goal.returns
returns c = those_members c.those.ensures (λ q b l s. search rules)
