-- `letter_rows::states::carry_all` meets its contract. The invariant: the words of the states below p are carried over. Assumes nothing.
use Rattle.letter_rows.specs.inner.Blocks.{CarriedTo}
use Rattle.letter_rows.proofs.states.carry_all.Given as goal

abbrev pub invariant-loop-p : goal.invariant-loop-p
invariant-loop-p l = CarriedTo l.given l.initial.to l.to l.far l.near l.p
