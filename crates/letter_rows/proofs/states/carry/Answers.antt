-- `letter_rows::states::carry` meets its contract: the state's words are read out, turned over and written. Assumes nothing.
use native.Mathlib.Omega.{arith}
use Rattle.letter_rows.proofs.Carrying.{near_fits, far_some, lies_given, lies_to, carried_of}
use Rattle.letter_rows.proofs.states.carry.Goals as goal

pub read_block-block-requires : goal.read_block-block-requires
read_block-block-requires c = lies_given c.args.p c.args.given.now c.requires.2 c.requires.3 c.requires.0

pub overflow_mul-near : goal.overflow_mul-near
overflow_mul-near c = record { fits = near_fits _ c.requires.2 c.requires.3 }

pub write_block-requires : goal.write_block-requires
write_block-requires c = (omega (arith, c.turn_over.ensures.size, c.read_block-block.ensures.size), lies_to c.args.p c.args.to.now c.requires.2 c.requires.3 c.requires.1, far_some c.requires.2)

pub returns : goal.returns
returns c = carried_of c.read_block-block.ensures c.turn_over.ensures c.write_block.ensures
