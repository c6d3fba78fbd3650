-- The proof of the cycle of calls {rule_end}. The measure is what is left of the slice from `at` on. Assumes nothing.
use Prim.Native.Nat.{◌-◌}
use lib.ListN.{length}
use Rattle.rules.proofs.ends.+rule_end.Given as goal

abbrev pub decreases-rule_end : goal.decreases-rule_end
decreases-rule_end l = length l.rule.now - l.at
