-- `steps::rows::union` meets its contract. The invariant: the union of those that are taken out so far.
-- Assumes nothing.
use Prim.Native.Nat.{◌+◌}
use lib.Dec.{T}
use lib.ListN.{get_or}
use Rattle.bits.specs.Word.{bit}
use Rattle.bits.specs.Sets.{Members, Over}
use Rattle.bits.proofs.Resting.{Done, Rest}
use Rattle.steps.proofs.rows.union.Given as goal

abbrev pub invariant-loop-k : goal.invariant-loop-k
invariant-loop-k l = Rest l.set l.k-iterator.rest × Members l.out (λ q. Over (Done l.set l.k-iterator.rest) (λ k. T (bit (get_or l.words (l.base + k) 0) q)))
