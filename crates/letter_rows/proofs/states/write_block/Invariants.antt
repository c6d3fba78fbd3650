-- `letter_rows::states::write_block` meets its contract. The invariant: the first k words are written. Assumes nothing.
use Rattle.letter_rows.specs.inner.Blocks.{WrittenTo}
use Rattle.letter_rows.proofs.states.write_block.Given as goal

abbrev pub invariant-loop-k : goal.invariant-loop-k
invariant-loop-k l = WrittenTo l.initial.words l.words l.block l.base l.step l.k
