-- The proof of the cycle of calls {weight_at}. The measure is what is left of the slice from `at` on. Assumes nothing.
use Prim.Native.Nat.{◌-◌}
use lib.ListN.{length}
use Rattle.rules.proofs.weights.+weight_at.Given as goal

abbrev pub decreases-weight_at : goal.decreases-weight_at
decreases-weight_at l = length l.rule.now - l.at
