-- The proof of the cycle of calls {rows_at}. The measure is what is left of the slice from `at` on. Assumes nothing.
use Prim.Native.Nat.{◌-◌}
use lib.ListN.{length}
use Rattle.formula_models.proofs.rows.+rows_at.Given as goal

abbrev pub decreases-rows_at : goal.decreases-rows_at
decreases-rows_at l = length l.system.now - l.at
