-- `put_set` writes a set's members, or a dash. Assumes nothing.
use Rattle.lines.proofs.Uses.{set_none, set_some}
use Rattle.lines.proofs.answers.put_set.Goals as goal

pub returns-then-uses-eq0 : goal.returns-then-uses-eq0
returns-then-uses-eq0 c = set_none c.args.uses c.args.at c.args.out.now c.if-uses-eq0.true c.put_word.ensures

pub returns : goal.returns
returns c = set_some c.args.uses c.args.at c.args.out.now c.if-uses-eq0.false c.put_members.ensures
