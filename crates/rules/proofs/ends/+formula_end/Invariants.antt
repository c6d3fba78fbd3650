-- The proof of the cycle of calls {formula_end}. The measure is what is left of the slice from `at` on. Assumes nothing.
use Prim.Native.Nat.{◌-◌}
use lib.ListN.{length}
use Rattle.rules.proofs.ends.+formula_end.Given as goal

abbrev pub decreases-formula_end : goal.decreases-formula_end
decreases-formula_end l = length l.rule.now - l.at
