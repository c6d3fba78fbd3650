-- `squeeze` keeps one byte after another. Assumes nothing.
use Rattle.text_reader.proofs.Squeezing.{Squeezed}
use Rattle.text_reader.proofs.reader.squeeze.Given as goal

abbrev pub invariant-loop-i : goal.invariant-loop-i
invariant-loop-i l = Squeezed l.initial.bytes l.bytes l.i l.to
