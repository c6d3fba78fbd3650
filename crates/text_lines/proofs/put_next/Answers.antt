-- `put_next` writes a blank and then the byte. Assumes nothing.
use native.Mathlib.Omega.{arith}
use Rattle.writing.proofs.Wrotes.{wrote_more}
use Rattle.text_lines.proofs.put_next.Goals as goal

pub returns : goal.returns
returns c = wrote_more (omega (arith, c.requires)) c.put_byte-digits.ensures c.put_hex.ensures
