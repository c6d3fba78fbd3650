-- `lasting::alive::kept_ways` meets its contract. Assumes nothing.
use native.Mathlib.Omega.{arith}
use mathlib.Core.Path.{refl}
use Rattle.models.proofs.Columns.{column_none, column_turn}
use Rattle.lasting.specs.Stored.{kept_ways_of}
use Rattle.lasting.proofs.alive.kept_ways.Goals as goal

pub loop-k-init : goal.loop-k-init
loop-k-init c = column_none _

pub loop-k-preserved : goal.loop-k-preserved
loop-k-preserved c =
    column_turn c.loop-k.k _ (kept_ways_of c.args.set c.args.successors.now) c.loop-k.ways (omega arith) c.loop-k.invariant refl
