-- `search::marks::push_all` meets its contract. The invariant: the members taken out so far are marked and listed.
-- Assumes nothing.
use mathlib.Core.Path.{◌≡◌}
use Rattle.bits.specs.Sets.{Over}
use Rattle.bits.proofs.Resting.{Done, Rest}
use Rattle.levels.specs.inner.Waves.{Pushed}
use Rattle.levels.specs.inner.Passes.{pair_at}
use Rattle.levels.proofs.marks.push_all.Given as goal

abbrev pub invariant-loop-q : goal.invariant-loop-q
invariant-loop-q l = Rest l.set l.q-iterator.rest × Pushed l.level l.initial.marks l.marks l.initial.queue l.queue (λ i. Over (Done l.set l.q-iterator.rest) (λ q. i ≡ pair_at l.t q)) l.count l.total
