-- `letter_rows::states::write_block` meets its contract. The invariant: the first k words are written. Assumes nothing.
use native.Mathlib.Omega.{arith}
use Rattle.letter_rows.proofs.Blocking.{write_none, write_turn}
use Rattle.letter_rows.proofs.states.write_block.Goals as goal

pub loop-k-init : goal.loop-k-init
loop-k-init c = write_none _ _ _ _

pub overflow_mul-words : goal.overflow_mul-words
overflow_mul-words c = record { fits = omega (arith, c.well_formed.0.0, c.requires.1 c.loop-k.k (omega arith)) }

pub overflow_add-words : goal.overflow_add-words
overflow_add-words c = record { fits = omega (arith, c.well_formed.0.0, c.requires.1 c.loop-k.k (omega arith)) }

pub offset_bounds-words-base : goal.offset_bounds-words-base
offset_bounds-words-base c = record { fits = omega (arith, c.well_formed.0.0, c.requires.1 c.loop-k.k (omega arith)) }

pub bounds-words-base : goal.bounds-words-base
bounds-words-base c = omega (arith, c.requires.1 c.loop-k.k (omega arith), c.loop-k.invariant.size)

pub loop-k-preserved : goal.loop-k-preserved
loop-k-preserved c = write_turn _ _ _ _ c.loop-k.k c.requires.2 (omega (arith, c.requires.1 c.loop-k.k (omega arith), c.loop-k.invariant.size)) c.loop-k.invariant

pub returns : goal.returns
returns c = let x = c.loop-k.invariant in
    record { size = x.size; new = λ k l. x.new k (omega arith); old = λ i o. x.old i (λ k l. o k (omega arith)) }
