-- `search::forward::final_any` meets its contract. The invariant: no set taken out so far has a final.
-- Assumes nothing.
use Rattle.bits.specs.Word.{bit}
use Rattle.bits.specs.Sets.{Over}
use Rattle.bits.proofs.Resting.{Done, Rest}
use Prim.Native.Nat.{ℕ}
use lib.Dec.{T}
use lib.ListN.{get_or}
use Rattle.levels.proofs.forward.final_any.Given as goal

abbrev pub invariant-loop-s : goal.invariant-loop-s
invariant-loop-s l = Rest l.fresh l.s-iterator.rest × (Over (Done l.fresh l.s-iterator.rest) (λ s. ((q : ℕ) × T (bit (get_or l.front s 0) q) × T (bit l.finals q))) → ⊥)
