-- `put_member` writes the number of a proposition that is in the set, and nothing for one that is not. Assumes nothing.
use mathlib.Core.Path.{sym, ◌∙◌}
use Rattle.lines.proofs.Uses.{member_in, member_out, entry_fits}
use Rattle.lines.proofs.answers.put_member.Goals as goal

pub put_entry-requires : goal.put_entry-requires
put_entry-requires c = entry_fits c.args.uses c.args.i c.args.at c.args.out.now (sym c.has.ensures ∙ c.if-has.true) c.requires.1

pub returns-then-has : goal.returns-then-has
returns-then-has c = member_in c.args.uses c.args.i c.args.at c.args.out.now (sym c.has.ensures ∙ c.if-has.true) c.put_entry.ensures

pub returns : goal.returns
returns c = member_out c.args.uses c.args.i c.args.at c.args.out.now (sym c.has.ensures ∙ c.if-has.false)
