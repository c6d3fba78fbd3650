-- `models::successors_of` meets its contract. Assumes nothing.
use mathlib.Core.Path.{◌≡◌}
use Rattle.models.specs.Reading.{successors}
use Rattle.models.specs.Stored.{column}
use Rattle.models.proofs.storing.successors_of.Given as goal

abbrev pub invariant-loop-k : goal.invariant-loop-k
invariant-loop-k l = l.successors ≡ column l.k (successors l.model)
