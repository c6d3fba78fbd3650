-- `backward::keeps` meets its contract. On the last level the finals, on an earlier one the pairs that are led on.
-- Assumes nothing.
use native.Mathlib.Omega.{arith}
use Rattle.bits.proofs.Sayings.{says_T}
use Rattle.passes.proofs.Keeping.{keeps_last, keeps_early}
use Rattle.passes.proofs.backward.keeps.Goals as goal

pub returns-then-pair-last : goal.returns-then-pair-last
returns-then-pair-last c = keeps_last c.if-pair-last.true (says_T c.has.ensures)

pub led-requires : goal.led-requires
led-requires c = (λ t h. (c.states_of-next.ensures.holds t h).1, omega arith, c.requires.1, c.requires.2)

pub returns : goal.returns
returns c = keeps_early c.if-pair-last.false c.states_of-next.ensures c.led.ensures
