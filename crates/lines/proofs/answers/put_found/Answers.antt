-- `put_found` writes the line of a find. Assumes nothing.
use native.Mathlib.Omega.{arith}
use mathlib.Core.List.{◌++◌}
use lib.ListN.{length}
use Rattle.writing.specs.Decimal.{named}
use Rattle.lines.specs.Text.{found_word, pairs_word, colon, states_text, found_text}
use Rattle.writing.proofs.Wrotes.{wrote_more, first_room, then_room}
use Rattle.lines.proofs.answers.put_found.Goals as goal

pub put_named-counted-requires : goal.put_named-counted-requires
unfolding found_text
put_named-counted-requires c = first_room (named found_word (length c.args.run.now)) (named pairs_word c.args.pairs) c.args.out.now 0 (first_room (named found_word (length c.args.run.now) ++ named pairs_word c.args.pairs) (colon ++ states_text c.args.run.now) c.args.out.now 0 (omega (arith, c.requires)))

pub put_named-shown-requires : goal.put_named-shown-requires
unfolding found_text
put_named-shown-requires c = then_room (named found_word (length c.args.run.now)) (named pairs_word c.args.pairs) c.args.out.now 0 (first_room (named found_word (length c.args.run.now) ++ named pairs_word c.args.pairs) (colon ++ states_text c.args.run.now) c.args.out.now 0 (omega (arith, c.requires))) c.put_named-counted.ensures

pub put_run-requires : goal.put_run-requires
unfolding found_text
put_run-requires c = then_room (named found_word (length c.args.run.now) ++ named pairs_word c.args.pairs) (colon ++ states_text c.args.run.now) c.args.out.now 0 (omega (arith, c.requires)) (wrote_more (omega arith) c.put_named-counted.ensures c.put_named-shown.ensures)

pub returns : goal.returns
unfolding found_text
returns c = wrote_more (omega arith) (wrote_more (omega arith) c.put_named-counted.ensures c.put_named-shown.ensures) c.put_run.ensures
