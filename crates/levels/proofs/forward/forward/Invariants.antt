-- `search::forward::forward` meets its contract. The invariant is `Flow`. The measure falls as long as a level adds a pair, and there are fewer than 4,096.
-- Assumes nothing.
use mathlib.Core.Path.{◌≡◌}
use Prim.Native.Nat.{◌+◌, ◌-◌, min}
use lib.ListN.{length}
use Rattle.models.specs.Model.{model_states}
use Rattle.levels.specs.Lent.{pair_count}
use Rattle.levels.specs.inner.Through.{its_model, its_table}
use Rattle.levels.proofs.Flowing.{Flow}
use Rattle.levels.proofs.forward.forward.Given as goal

abbrev pub invariant-loop-new : goal.invariant-loop-new
invariant-loop-new l = (length l.after ≡ model_states)
    × Flow (its_model l.search) (its_table l.search) l.search.sizes.states l.initial.marks l.initial.queue l.marks l.queue l.front l.wave.level l.wave.fresh l.wave.count l.new

abbrev pub decreases-loop-new : goal.decreases-loop-new
decreases-loop-new l = min l.new 1 + (pair_count - l.wave.count)
