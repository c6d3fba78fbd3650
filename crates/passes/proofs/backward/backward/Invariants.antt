-- `backward::backward` meets its contract. The invariant: the pairs listed from i on are settled.
-- Assumes nothing.
use lib.ListN.{length}
use Rattle.levels.specs.inner.Through.{its_model, its_table}
use Rattle.passes.proofs.Keeping.{Backed}
use Rattle.passes.proofs.backward.backward.Given as goal

abbrev pub invariant-loop-i : goal.invariant-loop-i
invariant-loop-i l = Backed (its_model l.search) (its_table l.search) l.last l.marks l.listed (length l.listed) l.i l.useful
