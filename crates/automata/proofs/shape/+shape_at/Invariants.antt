-- The proof of the cycle of calls {shape_at}. The measure is what is left of the slice from `at` on. Assumes nothing.
use Prim.Native.Nat.{◌-◌}
use lib.ListN.{length}
use Rattle.automata.proofs.shape.+shape_at.Given as goal

abbrev pub decreases-shape_at : goal.decreases-shape_at
decreases-shape_at l = length l.rule.now - l.at
