-- `put_states` writes a run state by state. Assumes nothing.
use Rattle.lines.proofs.States.{states_none, state_room, state_turn, states_whole}
use Rattle.lines.proofs.answers.put_states.Goals as goal

pub loop-state-init : goal.loop-state-init
loop-state-init c = states_none c.args.run.now _ _

pub put_entry-end-requires : goal.put_entry-end-requires
put_entry-end-requires c = state_room c.args.run.now c.args.out.now c.args.at c.loop-state.state-index c.requires c.loop-state.invariant c.loop-state-test.true

pub loop-state-preserved : goal.loop-state-preserved
loop-state-preserved c = state_turn c.args.run.now c.args.out.now c.args.at c.loop-state.state-index c.requires c.loop-state.invariant c.loop-state-test.true c.put_entry-end.ensures

pub returns : goal.returns
returns c = states_whole c.args.run.now c.args.out.now c.args.at c.loop-state.state-index c.loop-state-test.false c.loop-state.invariant
