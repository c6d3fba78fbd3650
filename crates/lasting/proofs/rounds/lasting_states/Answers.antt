-- `lasting::rounds::lasting_states` meets its contract. The invariant: what is left, and what the next round leaves of it.
-- Assumes nothing.
use native.Mathlib.Omega.{arith}
use Rattle.lasting.proofs.Shrinking.{shrinking_start, shrinking_turn, shrinking_less, shrinking_last}
use Rattle.lasting.proofs.rounds.lasting_states.Goals as goal

pub round-kept-requires : goal.round-kept-requires
round-kept-requires c = c.requires.1

pub loop-kept-init : goal.loop-kept-init
loop-kept-init c = shrinking_start _ (omega arith) c.below-all.ensures c.round-kept.type_inv c.round-kept.ensures

pub round-kept-requires-in-loop-kept : goal.round-kept-requires-in-loop-kept
round-kept-requires-in-loop-kept c = c.requires.1

pub loop-kept-smaller : goal.loop-kept-smaller
loop-kept-smaller c = shrinking_less c.loop-kept.invariant c.loop-kept-test.true

pub loop-kept-preserved : goal.loop-kept-preserved
loop-kept-preserved c = shrinking_turn c.loop-kept.invariant c.round-kept-in-loop-kept.type_inv c.round-kept-in-loop-kept.ensures

pub returns : goal.returns
returns c = shrinking_last c.loop-kept.invariant c.loop-kept-test.false
