-- `list` takes the members in rising order. Assumes nothing.
use Rattle.trims.proofs.Listing.{Listing}
use Rattle.trims.proofs.list.list.Given as goal

abbrev pub invariant-loop-q : goal.invariant-loop-q
invariant-loop-q l = Listing l.from l.set l.q-iterator.rest l.n
