-- `grow` looks at one state of the rest after the other, each once. Assumes nothing.
use Rattle.bits.specs.Word.{many}
use Rattle.trims.proofs.Growing.{Growing, pending}
use Rattle.trims.proofs.grow.grow.Given as goal

abbrev pub invariant-loop-rest : goal.invariant-loop-rest
invariant-loop-rest l = Growing l.table l.n l.back l.start l.set l.rest

abbrev pub decreases-loop-rest : goal.decreases-loop-rest
decreases-loop-rest l = many 64 (pending l.set l.rest)
