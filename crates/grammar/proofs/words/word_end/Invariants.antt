-- `word_end` goes over the word character by character. Assumes nothing.
use Prim.Native.Nat.{◌+◌}
use lib.ListN.{take}
use Rattle.grammar.specs.inner.Places.{Part}
use Rattle.grammar.proofs.words.word_end.Given as goal

abbrev pub invariant-loop-i : goal.invariant-loop-i
invariant-loop-i l = Part l.text l.at (take l.i l.word) (l.at + l.i)
