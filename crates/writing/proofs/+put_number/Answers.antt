-- `put_number` writes the digits; the number falls at each call. Assumes nothing.
use native.Mathlib.Omega.{arith}
use Rattle.writing.proofs.Numbers.{few_room, few_wrote, tenth_room, last_room, last_wrote}
use Rattle.writing.proofs.+put_number.Goals as goal

pub put_byte-requires : goal.put_byte-requires
put_byte-requires t c = few_room c.args.n c.args.at c.args.out.now (omega arith) c.requires

pub returns-then-n-lt-BASE : goal.returns-then-n-lt-BASE
returns-then-n-lt-BASE t c = few_wrote c.args.n c.args.at c.args.out.now (omega arith) c.requires c.digit.ensures c.put_byte.ensures

pub put_number-end-requires : goal.put_number-end-requires
put_number-end-requires t c = (omega arith, tenth_room c.args.n c.args.at c.args.out.now (omega arith) c.requires)

pub put_byte-requires-2 : goal.put_byte-requires-2
put_byte-requires-2 t c = last_room c.args.n c.args.at c.args.out.now (omega arith) c.requires c.put_number-end.ensures

pub returns : goal.returns
returns t c = last_wrote c.args.n c.args.at c.args.out.now (omega arith) c.requires c.put_number-end.ensures c.digit-2.ensures c.put_byte-2.ensures
