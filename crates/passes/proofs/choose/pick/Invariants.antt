-- `search::choose::pick` meets its contract. The invariant is `Written`: the states so far are the first of a shortest match.
-- Assumes nothing.
use Prim.Native.Nat.{◌<◌, ◌^◌}
use Rattle.tables.specs.Beyond.{Beyond}
use Rattle.levels.specs.inner.Through.{its_model, its_table}
use Rattle.passes.proofs.Picking.{Written}
use Rattle.passes.proofs.choose.pick.Given as goal

abbrev pub invariant-loop-level : goal.invariant-loop-level
invariant-loop-level l = (l.held < 2 ^ 64) × Beyond l.long l.initial.run l.run × Written (its_model l.search) (its_table l.search) l.long l.run l.held l.next l.level
