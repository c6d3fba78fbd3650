-- `bits::those` meets its contract. The invariant: those below k. Assumes nothing.
use Rattle.bits.specs.Those.{ThoseBelow}
use Rattle.bits.proofs.those.those.Given as goal

abbrev pub invariant-loop-k : goal.invariant-loop-k
invariant-loop-k g l = ThoseBelow l.k (goal.F-post g l.fn.test) l.set
