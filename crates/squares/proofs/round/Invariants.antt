-- `squares::round` meets its contract. The invariant: the words below i are mixed. Assumes nothing.
use Rattle.squares.specs.inner.Rounds.{Round}
use Rattle.squares.proofs.round.Given as goal

abbrev pub invariant-loop-i : goal.invariant-loop-i
invariant-loop-i l = Round l.r l.from l.to l.i
