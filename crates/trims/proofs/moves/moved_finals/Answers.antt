-- `moved_finals` looks up which of the new states were final. Assumes nothing.
use borrow.Author.Rules.{rules}
use native.Mathlib.Omega.{arith}
use Rattle.bits.proofs.Chosen.{those_word}
use Rattle.trims.specs.inner.Moves.{moved_final, moved_finals_of}
use Rattle.trims.proofs.moves.moved_finals.Goals as goal

pub returns : goal.returns
unfolding moved_finals_of moved_final
returns c = those_word c.those.ensures c.those.type_inv (omega arith) (λ k b l s. search rules)
