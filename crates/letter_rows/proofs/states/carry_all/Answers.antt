-- `letter_rows::states::carry_all` meets its contract. The invariant: the words of the states below p are carried over. Assumes nothing.
use native.Mathlib.Omega.{arith}
use Rattle.letter_rows.proofs.Carrying.{carried_none, carried_next}
use Rattle.letter_rows.proofs.states.carry_all.Goals as goal

pub loop-p-init : goal.loop-p-init
loop-p-init c = carried_none _ _ _ _

pub loop-p-preserved : goal.loop-p-preserved
loop-p-preserved c = carried_next c.loop-p.p c.requires.2 (omega arith) c.loop-p.invariant c.carry.ensures

pub returns : goal.returns
returns c = record { rest = c.loop-p.invariant.rest; new = λ p k l m. c.loop-p.invariant.new p k (omega arith) m }
