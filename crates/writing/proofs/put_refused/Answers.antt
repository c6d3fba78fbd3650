-- `put_refused` writes a refusal. Assumes nothing.
use native.Mathlib.Omega.{arith}
use Rattle.writing.specs.Decimal.{named}
use Rattle.writing.specs.Refused.{refused_word, at_word, refused_text}
use Rattle.writing.proofs.Wrotes.{wrote_more, first_room, then_room}
use Rattle.writing.proofs.put_refused.Goals as goal

pub put_named-past-requires : goal.put_named-past-requires
unfolding refused_text
put_named-past-requires c = first_room (named refused_word c.args.number) (named at_word c.args.place) c.args.out.now 0 (omega (arith, c.requires))

pub put_named-requires : goal.put_named-requires
unfolding refused_text
put_named-requires c = then_room (named refused_word c.args.number) (named at_word c.args.place) c.args.out.now 0 (omega (arith, c.requires)) c.put_named-past.ensures

pub returns : goal.returns
unfolding refused_text
returns c = wrote_more (omega arith) c.put_named-past.ensures c.put_named.ensures
