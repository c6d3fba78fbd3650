-- `row` gives the states that p reaches: those whose label has the letter. Assumes nothing.
use borrow.Author.Rules.{rules}
use native.Mathlib.Omega.{arith}
use Rattle.bits.proofs.Chosen.{those_word}
use Rattle.steps.specs.Moves.{row_of}
use Rattle.steps.proofs.row.Goals as goal

pub returns : goal.returns
unfolding row_of
returns c = those_word c.those.ensures c.those.type_inv (omega arith) (λ k b l s. search rules)
