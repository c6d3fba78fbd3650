-- `models::count_states` meets its contract. Assumes nothing.
use Prim.Native.Nat.{◌-◌}
use mathlib.Core.Path.{◌≡◌}
use Rattle.models.specs.Reading.{records}
use Rattle.models.specs.Model.{model_states}
use Rattle.models.proofs.records.count_states.Given as goal

abbrev pub invariant-loop-k : goal.invariant-loop-k
invariant-loop-k l = records (64 - l.k) l.model l.k ≡ records model_states l.model 0
