-- `put_hex` writes two digits. Assumes nothing.
use native.Mathlib.Omega.{arith}
use Rattle.text_lines.proofs.Hexes.{hex_both}
use Rattle.text_lines.proofs.put_hex.Goals as goal

pub returns : goal.returns
returns c = hex_both c.args.byte (omega (arith, c.requires)) c.hex_digit.ensures c.hex_digit-2.ensures c.put_byte-low.ensures c.put_byte.ensures
