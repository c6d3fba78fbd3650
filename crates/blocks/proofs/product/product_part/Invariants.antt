-- `blocks::product::product_part` meets its contract. Assumes nothing.
use mathlib.Core.Path.{◌≡◌}
use Prim.Native.Nat.{◌+◌, ◌≤◌}
use lib.ListN.{length}
use Rattle.automata.specs.Table.{table_states}
use Rattle.automata.specs.inner.Cells.{Put}
use Rattle.blocks.proofs.Pairing.{met}
use Rattle.blocks.proofs.product.product_part.Given as goal

abbrev pub invariant-loop-k : goal.invariant-loop-k
invariant-loop-k l = (l.k ≤ l.n) × (l.lo + l.n ≤ table_states) × (length l.t ≡ length l.initial.t) × Put l.initial.t l.t l.p (l.p + 1) l.lo (l.lo + l.k) (λ x q. met l.copy l.by l.row l.second l.lo q)
