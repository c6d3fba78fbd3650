-- The proof of the cycle of calls {names_at}. The measure is what is left of the bytes from `at` on. Assumes nothing.
use Prim.Native.Nat.{◌-◌}
use lib.ListN.{length}
use Rattle.rules.proofs.names.+names_at.Given as goal

abbrev pub decreases-names_at : goal.decreases-names_at
decreases-names_at l = length l.rule.now - l.at
