-- `rows::variable`: the label of the formula of two bytes. Assumes nothing.
use Prim.Native.Nat.{ℕ, ◌≤◌}
use native.Mathlib.Omega.{arith}
use mathlib.Core.Path.{refl}
use mathlib.Core.List.{[], ◌∷◌}
use Rattle.definitions.specs.Kinds.{kind_of}
use Rattle.definitions.specs.Definition1.{prop}
use Rattle.definitions.specs.Definition2.{holds}
use Rattle.rules.specs.Places.{FormulaAt, a_prop}
use Rattle.formula_models.proofs.rows.variable.Goals as goal

a-variable : (i : ℕ) → i ≤ 5 → FormulaAt (0x01 ∷ i ∷ []) 0 (prop i) 2
unfolding kind_of
a-variable i h = a_prop {at = 0} (record { inside = omega arith; says = refl }) (omega arith) refl h refl

pub label_at-requires : goal.label_at-requires
label_at-requires c = (prop _, 2, a-variable _ c.requires)

pub returns : goal.returns
unfolding holds
returns c = c.label_at.ensures (prop _) 2 (a-variable _ c.requires)
