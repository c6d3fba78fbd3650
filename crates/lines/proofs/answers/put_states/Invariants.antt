-- `put_states` writes a run state by state. Assumes nothing.
use lib.ListN.{take}
use Rattle.lines.specs.Text.{states_text}
use Rattle.writing.specs.Wrote.{Wrote}
use Rattle.lines.proofs.answers.put_states.Given as goal

abbrev pub invariant-loop-state : goal.invariant-loop-state
invariant-loop-state l = Wrote (states_text (take l.state-index l.run)) l.initial.out l.at l.out l.end
