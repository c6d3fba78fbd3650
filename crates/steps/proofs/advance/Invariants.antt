-- `advance` gathers the rows of the members, the lowest first. Assumes nothing.
use Prim.Native.Nat.{◌^◌, ◌<◌}
use lib.Dec.{T}
use Rattle.bits.specs.Word.{bit}
use Rattle.bits.specs.Sets.{Members, Over}
use Rattle.bits.proofs.Resting.{Done, Rest}
use Rattle.automata.specs.Table.{table_states, cell}
use Rattle.steps.proofs.advance.Given as goal

abbrev pub invariant-loop-p : goal.invariant-loop-p
invariant-loop-p l = (l.reached < 2 ^ 64) × Rest l.set l.p-iterator.rest × Members l.reached (λ q. Over (Done l.set l.p-iterator.rest) (λ p. (q < table_states) × T (bit (cell l.table p q) l.letter)))
