-- `search::sweep::sweep` meets its contract. The invariant: the rows taken out so far are done, and their new pairs are the front of the next level.
-- Assumes nothing.
use Prim.Native.Nat.{ℕ, suc}
use mathlib.Core.Path.{◌≡◌}
use lib.Dec.{T}
use lib.ListN.{length}
use Rattle.bits.specs.Word.{bit}
use Rattle.bits.specs.Sets.{Over}
use Rattle.bits.proofs.Resting.{Done, Rest}
use Rattle.levels.specs.inner.Waves.{Pushed, Fronts, Lands}
use Rattle.levels.proofs.sweep.sweep.Given as goal

abbrev pub invariant-loop-t : goal.invariant-loop-t
invariant-loop-t l = Rest l.live l.t-iterator.rest × (length l.after ≡ length l.initial.after)
    × Pushed l.level l.initial.marks l.marks l.initial.queue l.queue (λ i. Over (Done l.live l.t-iterator.rest) (λ t. Lands l.rows l.letters l.from.successors.now l.from.front.now l.from.fresh t i)) l.initial.total l.total
    × Fronts l.marks l.states (suc l.level) l.next l.after × ((k : ℕ) → T (bit l.next k) → Done l.live l.t-iterator.rest k)
