-- `[*]` and `[+]`: a final row gets what leaves the first state. Assumes nothing.
use Prim.Native.Nat.{ℕ, ◌+◌, ◌<◌, ◌≤◌}
use native.Mathlib.Omega.{arith}
use mathlib.Core.Path.{◌≡◌, refl, ◌∙◌}
use mathlib.Core.Logic.{◌⊎◌, inl, inr, ⊎_map, ◌↔◌}
use mathlib.Core.List.{List}
use Rattle.definitions.specs.declared.kinds.Repeat.{Repeat}
use Rattle.definitions.specs.declared.kinds.Repeat.TheVariants.{Star, Plus}
use Rattle.definitions.specs.Definition1.{Rule, again}
use Rattle.rules.specs.Weight.{weight_of}
use Rattle.automata.specs.declared.shape.Shape.{Shape}
use Rattle.automata.specs.Table.{table_states, cell}
use Rattle.automata.specs.Build.{auto, PlusStep}
use Rattle.automata.specs.inner.Cells.{In, Put, linked}
use Rattle.automata.specs.inner.Block.{FinalsAt, Built}
use Rattle.automata.specs.inner.Sets.{Raised}
use Rattle.blocks.specs.inner.Building.{Repeats}
use Rattle.automata.proofs.Labels.{Has, has_linked}
use Rattle.automata.proofs.FinalSets.{raise_finals}
use Rattle.automata.proofs.Places.{by_cell, block_at, final_at}
use Rattle.definitions.specs.Definition2.{letter_count}

plus_split : (a : Rule) (p x q : ℕ) → PlusStep (auto a) p x q ↔ ((auto a).step p x q ⊎ ((auto a).final p × (auto a).step 0 x q))
plus_split a p x q = (out, back)
  where
    out : PlusStep (auto a) p x q → (auto a).step p x q ⊎ ((auto a).final p × (auto a).step 0 x q)
    out (PlusStep.a's s) = inl s
    out (PlusStep.anew f s) = inr (f, s)

    back : (auto a).step p x q ⊎ ((auto a).final p × (auto a).step 0 x q) → PlusStep (auto a) p x q
    back (inl s) = PlusStep.a's s
    back (inr s) = PlusStep.anew s.0 s.1

module _ (t t₁ t₂ : List ℕ) (base f : ℕ) (a : Rule) (room : base + weight_of a ≤ table_states) (ba : Built t t₁ base a) (fa : FinalsAt f base a)
    (put : Put t₁ t₂ base (base + weight_of a) base (base + weight_of a) (linked t₁ base f)) where
  plus_label : (p q x : ℕ) → p < weight_of a → q < weight_of a → x < letter_count → Has (cell t₂ (base + p) (base + q)) x ↔ PlusStep (auto a) p x q
  plus_label p q x hp hq hx =
      let c = has_linked t₁ base f (base + p) (base + q) x in
      let l = ba.block.label p q x hp hq hx in
      let k = final_at f base a fa (base + p) p refl (omega arith) in
      let r = block_at t₁ base a ba.block base (base + q) 0 q x (omega arith) refl (omega arith) hq hx in
      let z = plus_split a p x q in
      by_cell (cell t₂ (base + p) (base + q)) (linked t₁ base f (base + p) (base + q)) x (put.new (base + p) (base + q) (omega arith))
      (λ h. z.1 (⊎_map l.0 (λ s. (k.0 s.0, r.0 s.1)) (c.0 h)), λ s. c.1 (⊎_map l.1 (λ s. (k.1 s.0, r.1 s.1)) (z.0 s)))

  plus_others : (p q : ℕ) → q < table_states → (In base (base + weight_of a) base (base + weight_of a) p q → ⊥) → cell t₂ p q ≡ cell t p q
  plus_others p q h out = put.old p q h out ∙ ba.others p q h out

  again_block : (p : Repeat) → Built t t₂ base (again p a)
  unfolding auto
  again_block Plus = record { block = record { label = plus_label }; others = plus_others }
  again_block Star = record { block = record { label = plus_label }; others = plus_others }

-- over an operand of the shape a
pub repeats : (a : Shape) (t t' : List ℕ) (base f : ℕ) → base + a.weight ≤ table_states → Raised a.finals base f
    → Put t t' base (base + a.weight) base (base + a.weight) (linked t base f) → Repeats a t t' base
repeats a t t' base f room raised put = record {
  repeated = λ t₀ p x e u b. again_block t₀ t t' base f x (omega (arith, u.weighs)) b (raise_finals raised u.final_set) (rw u.weighs at put) p;
}
