-- `lasting::rounds::lasting_states` meets its contract. The invariant: what is left, and what the next round leaves of it.
-- Assumes nothing.
use Rattle.bits.specs.Word.{bit, many}
use Rattle.lasting.proofs.Shrinking.{Shrinking}
use Rattle.lasting.proofs.rounds.lasting_states.Given as goal

abbrev pub invariant-loop-kept : goal.invariant-loop-kept
invariant-loop-kept l = Shrinking l.states l.successors l.set l.kept

abbrev pub decreases-loop-kept : goal.decreases-loop-kept
decreases-loop-kept l = many 64 (bit l.set)
