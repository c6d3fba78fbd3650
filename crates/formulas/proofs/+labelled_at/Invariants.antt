-- The proof of the cycle of calls {labelled_at}. The measure is what is left of the bytes from `at` on. Assumes nothing.
use Prim.Native.Nat.{◌-◌}
use lib.ListN.{length}
use Rattle.formulas.proofs.+labelled_at.Given as goal

abbrev pub decreases-labelled_at : goal.decreases-labelled_at
decreases-labelled_at l = length l.rule.now - l.at
