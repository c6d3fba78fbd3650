-- `automata::finals::within_finals` meets its contract. Assumes nothing.
use mathlib.Core.Path.{ap₂}
use Prim.Native.Nat.{ℕ, ◌+◌, ◌*◌}
use native.Mathlib.Omega.{arith}
use Rattle.definitions.specs.declared.kinds.Pair.TheVariants.{Then, Both}
use Rattle.definitions.specs.Definition1.{two}
use Rattle.automata.specs.inner.Block.{any_rule}
use Rattle.automata.proofs.Ends.{within_finals}
use Rattle.automata.proofs.FinalSets.{any_set}
use Rattle.automata.proofs.finals.within_finals.Goals as goal

pub returns : goal.returns
returns c = λ x y em en u v.
    within_finals 0 _ x y
    (c.either_finals.ensures (two Both x (two Then y any_rule)) (two Both (two Then x any_rule) y) (ap₂ (λ (i j : ℕ). i * (j + 2)) em en)
    (c.both_finals-first.ensures x (two Then y any_rule) (omega arith) (ap₂ (λ (i j : ℕ). i * (j + 2)) em en) u (c.then_finals.ensures y any_rule en v any_set))
    (c.both_finals-second.ensures (two Then x any_rule) y en (ap₂ (λ (i j : ℕ). (i + 2) * j) em en) (c.then_finals-2.ensures x any_rule em u any_set) v))
