-- `put_proposition` writes two characters. Assumes nothing.
use native.Mathlib.Omega.{arith}
use Rattle.writing.proofs.Wrotes.{wrote_more}
use Rattle.text_writer.proofs.writer.put_proposition.Goals as goal

pub returns : goal.returns
returns c = let p = c.requires in wrote_more (omega arith) c.put_byte-past.ensures c.put_byte.ensures
