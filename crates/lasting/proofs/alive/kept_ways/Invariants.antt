-- `lasting::alive::kept_ways` meets its contract. Assumes nothing.
use mathlib.Core.Path.{◌≡◌}
use Rattle.models.specs.Stored.{column}
use Rattle.lasting.specs.Stored.{kept_ways_of}
use Rattle.lasting.proofs.alive.kept_ways.Given as goal

abbrev pub invariant-loop-k : goal.invariant-loop-k
invariant-loop-k l = l.ways ≡ column l.k (kept_ways_of l.set l.successors)
