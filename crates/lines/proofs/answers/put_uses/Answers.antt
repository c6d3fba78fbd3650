-- `put_uses` writes a word and a set. Assumes nothing.
use Rattle.lines.proofs.Uses.{set_room, uses_says}
use Rattle.lines.proofs.answers.put_uses.Goals as goal

pub put_set-requires : goal.put_set-requires
put_set-requires c = set_room c.args.at c.args.out.now c.requires c.put_word-past.ensures

pub returns : goal.returns
returns c = uses_says c.args.uses c.args.at c.args.out.now c.requires c.put_word-past.ensures c.put_set.ensures
