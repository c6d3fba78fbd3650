-- `put_spaced` writes the bytes one after another. Assumes nothing.
use lib.ListN.{take}
use Rattle.writing.specs.Wrote.{Wrote}
use Rattle.text_lines.specs.Hexadecimal.{spaced}
use Rattle.text_lines.proofs.put_spaced.Given as goal

abbrev pub invariant-loop-byte : goal.invariant-loop-byte
invariant-loop-byte l = Wrote (spaced (take l.byte-index l.bytes)) l.initial.out l.at l.out l.end
