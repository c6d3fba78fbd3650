-- `give` writes if there is room. Assumes nothing.
use Rattle.texts.proofs.Giving.{give_short, front_room, give_front}
use Rattle.texts.proofs.give.Goals as goal

pub returns-then-out-long : goal.returns-then-out-long
returns-then-out-long c = let s = c.args in give_short s.from.now s.long s.rule s.out.now c.requires c.if-out-long.true

pub put_word-requires : goal.put_word-requires
put_word-requires c = front_room _ _ _ c.front.ensures c.requires c.args.out.now c.if-out-long.false

pub returns : goal.returns
returns c = give_front _ _ _ c.front.ensures c.requires _ _ _ _ c.if-out-long.false c.put_word.ensures
