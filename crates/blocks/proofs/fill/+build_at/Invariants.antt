-- The proof of the builder's walk, which calls itself. The measure is what is left of the bytes from `at` on. Assumes nothing.
use Prim.Native.Nat.{◌-◌}
use lib.ListN.{length}
use Rattle.blocks.proofs.fill.+build_at.Given as goal

abbrev pub decreases-build_at : goal.decreases-build_at
decreases-build_at l = length l.rule.now - l.at
