-- `put_named` writes a word and then a number. Assumes nothing.
use native.Mathlib.Omega.{arith}
use Rattle.writing.proofs.Wrotes.{wrote_more}
use Rattle.writing.proofs.put_named.Goals as goal

pub returns : goal.returns
returns c = wrote_more (omega (arith, c.requires)) c.put_word-past.ensures c.put_number.ensures
