-- The proof of the cycle of calls {holds_at}. The measure is what is left of the bytes from `at` on. Assumes nothing.
use Prim.Native.Nat.{◌-◌}
use lib.ListN.{length}
use Rattle.formulas.proofs.+holds_at.Given as goal

abbrev pub decreases-holds_at : goal.decreases-holds_at
decreases-holds_at l = length l.rule.now - l.at
