-- `put_answer` writes what reading came to, by its cases. Assumes nothing.
use native.Mathlib.Omega.{arith}
use Rattle.text_lines.proofs.Cases.{given_there, given_room, given_says, refused_room, refused_says}
use Rattle.text_lines.proofs.put_answer.Goals as goal

pub front-requires : goal.front-requires
front-requires c = given_there c.args.answer c.args.bytes.now c.args.out.now c.requires _ c.in-Ok.is

pub put_bytes-requires : goal.put_bytes-requires
put_bytes-requires c = let q = c.front.ensures in
    given_room c.args.answer c.args.bytes.now c.args.out.now c.requires c.in-Ok.given.long q

pub put_refused-requires : goal.put_refused-requires
put_refused-requires c = refused_room c.args.answer c.args.bytes.now c.args.out.now c.requires _ _ (omega arith) (omega arith)

pub returns-in-Ok : goal.returns-in-Ok
returns-in-Ok c = given_says c.args.answer c.args.bytes.now c.args.out.now c.requires _ c.in-Ok.is c.front.ensures c.put_bytes.ensures

pub returns-in-Err : goal.returns-in-Err
returns-in-Err c = refused_says c.args.answer c.args.bytes.now _ c.in-Err.is c.number.ensures c.place.ensures (omega arith) (omega arith) c.put_refused.ensures
