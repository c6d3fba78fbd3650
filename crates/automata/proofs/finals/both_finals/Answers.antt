-- `automata::finals::both_finals` meets its contract. Assumes nothing.
use borrow.Author.Rules.{rules}
use native.Mathlib.Omega.{arith}
use Rattle.bits.proofs.Chosen.{those_word}
use Rattle.automata.proofs.FinalSets.{both_done}
use Rattle.automata.proofs.finals.both_finals.Goals as goal

pub returns : goal.returns
returns c = λ x y en ew u v.
    both_done _ _ _ _ _ x y (those_word c.those.ensures c.those.type_inv (omega arith) (λ k b l s. search rules)) en ew (omega arith) u v
