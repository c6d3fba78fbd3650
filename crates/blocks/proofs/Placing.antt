-- Where an operator wants its operands, of whatever stands behind its place. Assumes nothing.
use Prim.Native.Nat.{ℕ, ◌+◌, ◌<◌, ◌≤◌}
use mathlib.Core.Path.{◌≡◌, refl}
use native.Mathlib.Omega.{arith}
use mathlib.Core.Logic.{◌⊎◌, inl, inr}
use mathlib.Core.List.{List}
use Rattle.std.specs.Prelude.{Option, Some, None}
use Rattle.definitions.specs.declared.kinds.Pair.{Pair}
use Rattle.definitions.specs.declared.kinds.Pair.TheVariants.{Then, Overlap, Either, Within, Both}
use Rattle.definitions.specs.Definition1.{Rule}
use Rattle.rules.specs.Places.{RuleAt}
use Rattle.rules.specs.Weight.{weight_of}
use Rattle.rules.proofs.Weighing.{weight_pos}
use Rattle.automata.specs.declared.shape.Shape.{Shape}
use Rattle.automata.specs.inner.Shapes.{ShapedAs}
use Rattle.blocks.specs.inner.Building.{Placed, from, PlacedAt}
use Rattle.blocks.proofs.Products.{none_placed, both_placed}

-- a place that suits operands of any weight
placed_any : {s : List ℕ} {at base : ℕ} {p : Pair} {r : Option ℕ} → ((m n : ℕ) → Placed p base m n r) → PlacedAt s at p base r
placed_any f = record { placed = λ x y d e first second room. f (weight_of x) (weight_of y) }

pub placed_plain : {s : List ℕ} {at base : ℕ} (p : Pair) → (p ≡ Then) ⊎ (p ≡ Overlap) → PlacedAt s at p base (Some base)
placed_plain p (inl e) = rw e (placed_any (λ m n. from _ refl (omega arith) (omega arith)))
placed_plain p (inr e) = rw e (placed_any (λ m n. from _ refl (omega arith) (omega arith)))

pub placed_behind : {s : List ℕ} {at base : ℕ} (p : Pair) → (p ≡ Either) ⊎ (p ≡ Within) → PlacedAt s at p base (Some (base + 1))
placed_behind p (inl e) = rw e (placed_any (λ m n. from _ refl (omega arith) (omega arith)))
placed_behind p (inr e) = rw e (placed_any (λ m n. from _ refl (omega arith) (omega arith)))

-- `&&`, by its operands' shapes
module _ (s : List ℕ) (at base : ℕ) (h k : Shape) (u : ShapedAs s (at + 1) h) (v : ShapedAs s h.end k) where
  weighs : (x y : Rule) (d e : ℕ) → RuleAt s (at + 1) x d → RuleAt s d y e → (weight_of x ≤ h.weight) × (h.weight ≤ weight_of x) × (weight_of y ≤ k.weight) × (k.weight ≤ weight_of y)
  weighs x y d e first second =
      let o = u.told x d first in let i = v.told y e (rw o.ends second) in
      (omega (arith, o.weighs), omega (arith, o.weighs), omega (arith, i.weighs), omega (arith, i.weighs))

  pub both_nowhere : (h.weight < 2) ⊎ (k.weight < 2) → PlacedAt s at Both base None
  both_nowhere few = record {
    placed = λ x y d e first second room.
        none_placed base (weight_of x) (weight_of y) (light x y (weighs x y d e first second) few) (weight_pos x) (weight_pos y) room;
  }
    where
      light : (x y : Rule) → (weight_of x ≤ h.weight) × (h.weight ≤ weight_of x) × (weight_of y ≤ k.weight) × (k.weight ≤ weight_of y)
          → (h.weight < 2) ⊎ (k.weight < 2) → (weight_of x < 2) ⊎ (weight_of y < 2)
      light x y w (inl l) = inl (omega arith)
      light x y w (inr l) = inr (omega arith)

  pub both_beside : 2 ≤ h.weight → 2 ≤ k.weight → PlacedAt s at Both base (Some base)
  both_beside m n = record {
    placed = λ x y d e first second room. let w = weighs x y d e first second in both_placed base (weight_of x) (weight_of y) (omega arith) (omega arith);
  }
