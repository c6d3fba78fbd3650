-- `put_run` writes a colon and the run. Assumes nothing.
use native.Mathlib.Omega.{arith}
use borrow.Author.Rules.{rules}
use Rattle.lines.specs.Text.{colon, states_text}
use Rattle.lines.proofs.States.{states_part, states_all, states_as}
use Rattle.writing.proofs.Wrotes.{wrote_more, first_room, then_room}
use Rattle.lines.proofs.answers.put_run.Goals as goal

pub put_byte-past-requires : goal.put_byte-past-requires
put_byte-past-requires c = omega (arith, first_room colon (states_text c.args.run.now) c.args.out.now c.args.at c.requires)

pub put_states-requires : goal.put_states-requires
put_states-requires c = let room = then_room colon (states_text c.args.run.now) c.args.out.now c.args.at c.requires c.put_byte-past.ensures in
    search (arith, room, states_part)

pub returns : goal.returns
returns c = wrote_more (omega (arith, c.requires)) c.put_byte-past.ensures (states_as c.args.run.now c.put_states.ensures (search (rules, arith, states_all)))
