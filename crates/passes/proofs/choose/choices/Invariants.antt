-- `search::choose::choices` meets its contract. The invariant: of the states taken out so far those that hold a table state.
-- Assumes nothing.
use Prim.Native.Nat.{ℕ}
use Rattle.bits.specs.Sets.{Members}
use Rattle.bits.proofs.Resting.{Done, Rest}
use Rattle.passes.specs.inner.Uses.{Holds}
use Rattle.passes.proofs.choose.choices.Given as goal

abbrev pub invariant-loop-t : goal.invariant-loop-t
invariant-loop-t l = Rest l.next l.t-iterator.rest × Members l.out (λ t. Done l.next l.t-iterator.rest t × ((p : ℕ) × Holds l.search.rows.now l.search.letters.now l.marks l.useful l.held l.level t p))
